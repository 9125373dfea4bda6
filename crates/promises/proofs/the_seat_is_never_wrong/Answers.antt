use Rattle.promises.proofs.Keeps.{never_wrong}
use Rattle.promises.proofs.the_seat_is_never_wrong.Goals as goal

pub returns : goal.returns
returns c = never_wrong
