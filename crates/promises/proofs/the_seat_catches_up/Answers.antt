use Rattle.promises.proofs.Made.{catches_up, can_catch_up}
use Rattle.promises.proofs.the_seat_catches_up.Goals as goal

pub returns : goal.returns
returns c = record { level = catches_up; can = can_catch_up }
