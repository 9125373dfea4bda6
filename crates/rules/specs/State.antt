-- The state of a pair, by meanings alone.
use Rattle.std.specs.Prelude.{ℕ, ◌≤◌, Bool, List, Option, Result}
use Rattle.wire.specs.declared.refusals.Refusal.{Refusal}
use Rattle.wire.specs.declared.statuses.Status.{Status}
use Rattle.line.specs.Lines.{LineView, Sound}
use Rattle.message_log.specs.Meaning.{Meaning}
use Rattle.account.specs.declared.rows.Row.{Row}
pub use Rattle.account.specs.declared.fields.Account.{Account}
use Rattle.rules.specs.declared.phases.HubPhase.{HubPhase}
use Rattle.rules.specs.declared.phases.SeatPhase.{SeatPhase}

-- What holds of a pair's line at all times: what holds of every line, and that its room is never more than its full
-- size.
pub record Steady (v : LineView) : Type 0 where
  pub sound : Sound v
  pub within : v.room ≤ v.full

-- What belongs to the hub's session, whoever is connected: its log, and whether publishing is finished.
pub record Running : Type 0 where
  pub log : Meaning
  pub finished : Bool

-- What belongs to one connection, at the hub.
pub record HubEnd : Type 0 where
  pub phase : HubPhase
  -- the row of the account that is logged in
  pub row : Option ℕ
  -- the bytes that are in of a packet which is not whole yet
  pub frame : List ℕ
  -- ticks since it wrote a packet, since it took a byte, and since the connect
  pub unsent : ℕ
  pub silent : ℕ
  pub waited : ℕ

-- What belongs to one connection, at the seat.
pub record SeatEnd : Type 0 where
  pub phase : SeatPhase
  -- the session and the number that its login asked for
  pub session : ℕ
  pub number : ℕ
  -- the end of a fetch, and whether it was requested
  pub fetch : Option ℕ
  pub requested : Bool
  -- whether it has reported itself in step since the connect: that it holds all that was published
  pub in_step : Bool
  -- the status that rejected its login
  pub status : Option Status
  pub frame : List ℕ
  pub unsent : ℕ
  pub silent : ℕ

-- The lent buffers, whole: the hub's frame, the seat's frame, and the outgoing buffer.
pub record Buffers : Type 0 where
  pub hub_frame : List ℕ
  pub seat_frame : List ℕ
  pub out : List ℕ

-- The up line goes from the seat to the hub, the down line from the hub to the seat.
pub record Pair : Type 0 where
  pub running : Running
  pub hub : HubEnd
  pub seat : SeatEnd
  -- the seat's log
  pub held : Meaning
  pub up : LineView
  pub down : LineView
  pub rows : List Row
  -- the account fields by which the seat logs in, padded
  pub account : Account
  pub buffers : Buffers

-- What a call answers, and the pair after it.
pub record Outcome (R : Type 0) : Type 0 where
  pub answer : Result R Refusal
  pub after : Pair
