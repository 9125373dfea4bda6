use Rattle.rules.proofs.Differ.{rounds_differ}
use Rattle.rules.proofs.Rooms.{one_outcome, only_rooms_free}
use Rattle.rules.proofs.laws.only_rooms_are_free.Goals as goal

pub returns : goal.returns
returns c = record { one = one_outcome; several = rounds_differ; rooms = only_rooms_free }
