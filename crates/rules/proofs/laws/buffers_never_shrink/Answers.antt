use Rattle.rules.proofs.Keeps.{buffers_last}
use Rattle.rules.proofs.laws.buffers_never_shrink.Goals as goal

pub returns : goal.returns
returns c = buffers_last
