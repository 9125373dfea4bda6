use Rattle.counterexamples.proofs.Kept.{kept_frame_misleads}
use Rattle.counterexamples.proofs.a_kept_frame_misleads.Goals as goal

pub returns : goal.returns
returns c = kept_frame_misleads
