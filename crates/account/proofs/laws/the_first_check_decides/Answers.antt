use Rattle.account.proofs.Deciding.{first_decides, accepts_just_these}
use Rattle.account.proofs.laws.the_first_check_decides.Goals as goal

pub returns : goal.returns
returns c = record { first = first_decides; accepted = accepts_just_these }
