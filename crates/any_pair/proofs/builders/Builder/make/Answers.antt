use native.Mathlib.Omega.{arith}
use Rattle.any_pair.proofs.builders.Builder.make.Goals as goal

pub returns-in_err-_row-in-Account : goal.returns-in_err-_row-in-Account
returns-in_err-_row-in-Account c = grind (arith, c.add.ensures.answer, c.add.ensures.after, c.in_err-_row-in-Account.ensures, c.branch-row.ensures, c.from_residual-in_err-_row-in-Account.ensures)
