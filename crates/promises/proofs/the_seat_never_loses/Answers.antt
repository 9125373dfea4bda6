use Rattle.promises.proofs.Keeps.{never_shorter}
use Rattle.promises.proofs.the_seat_never_loses.Goals as goal

pub returns : goal.returns
returns c = never_shorter
