use Rattle.account.proofs.Only.{alike_as_lowered}
use Rattle.account.proofs.lookups.alike.Goals as goal

pub returns : goal.returns
returns c = alike_as_lowered c.args.a.now c.args.b.now c.eq_ignore_ascii_case.result c.eq_ignore_ascii_case.ensures.test
