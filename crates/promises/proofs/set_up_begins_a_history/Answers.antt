use Rattle.promises.proofs.Begun.{set_up_begins}
use Rattle.promises.proofs.set_up_begins_a_history.Goals as goal

pub returns : goal.returns
returns c = set_up_begins
