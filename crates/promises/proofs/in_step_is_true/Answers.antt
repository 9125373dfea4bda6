use Rattle.promises.proofs.Tells.{in_step_is_true}
use Rattle.promises.proofs.in_step_is_true.Goals as goal

pub returns : goal.returns
returns c = in_step_is_true
