-- What a receive does to the seat's side of a pair.
use Rattle.std.specs.Prelude.{◌≡◌, ℕ, false, cond, Result}
use Rattle.wire.specs.declared.refusals.Refusal.{Refusal}
use Rattle.wire.specs.declared.refusals.Refusal.TheVariants.{ShortBuffer, WrongPhase}
use Rattle.rules.specs.declared.answers.Received.{Received}
use Rattle.rules.specs.State.{Pair, Outcome}
use Rattle.rules.specs.Changes.{refuses}
use Rattle.rules.specs.Frames.{lack, given, left, Free}
use Rattle.rules.specs.Rounds.{SeatReceive, lent_short}
use Rattle.rules.specs.Seat.{is_apart, seat_hears}
use Rattle.framing.specs.Calling.{answered, Fewer}

-- the seat takes once, at most what its frame lacks, and the down line is left so much room
abbrev pub hears : Pair → ℕ → Outcome Received
hears s room = seat_hears (given s.down (lack s.seat.frame)) (left s.down (lack s.seat.frame) room) s

abbrev pub receives : Pair → ℕ → Outcome Received
receives s room =
    cond (lent_short SeatReceive s) (refuses ShortBuffer s)
    (cond (is_apart s.seat.phase) (refuses WrongPhase s) (hears s room))

-- The answer and all of the side are the rule's, at the room that the down line then has: that room is free.
pub record Receives (s : Pair) (r : Result Received Refusal) (t : Pair) : Type 0 where
  pub outcome : answered r t ≡ receives s t.down.room
  pub free : lent_short SeatReceive s ≡ false → is_apart s.seat.phase ≡ false →
      Free s.down (lack s.seat.frame) t.down.room
  pub fewer : Fewer r s.down t.down
