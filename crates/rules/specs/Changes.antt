-- Changes of a pair that several rules share.
use Rattle.std.specs.Prelude.{ℕ, Bool, true, false, cond, List, [], length, Some, None, Ok, Err, Option}
use Rattle.wire.specs.declared.refusals.Refusal.{Refusal}
use Rattle.wire.specs.declared.statuses.Status.{Status}
use Rattle.packet.specs.Values.{Value, encode}
use Rattle.line.specs.Lines.{LineView, joined, cleared, fits}
use Rattle.wire.specs.Overlay.{laid}
use Rattle.message_log.specs.Meaning.{Meaning}
use Rattle.message_log.specs.Calls.{fronted}
use Rattle.account.specs.declared.rows.Row.{Row}
use Rattle.account.specs.Rows.{marking}
use Rattle.rules.specs.declared.phases.HubPhase.{HubPhase}
use Rattle.rules.specs.declared.phases.SeatPhase.{SeatPhase}
use Rattle.rules.specs.State.{Running, HubEnd, SeatEnd, Buffers, Pair, Outcome}

-- one part of a pair changes
abbrev pub with_running : Pair → Running → Pair
with_running s x = record s { running = x }

abbrev pub with_hub : Pair → HubEnd → Pair
with_hub s x = record s { hub = x }

abbrev pub with_seat : Pair → SeatEnd → Pair
with_seat s x = record s { seat = x }

abbrev pub with_held : Pair → Meaning → Pair
with_held s x = record s { held = x }

abbrev pub with_up : Pair → LineView → Pair
with_up s x = record s { up = x }

abbrev pub with_down : Pair → LineView → Pair
with_down s x = record s { down = x }

abbrev pub with_rows : Pair → List Row → Pair
with_rows s x = record s { rows = x }

abbrev pub with_buffers : Pair → Buffers → Pair
with_buffers s x = record s { buffers = x }

abbrev pub with_log : Pair → Meaning → Bool → Pair
with_log s log finished = with_running s (record { log = log; finished = finished })

-- a call is granted, or refused with nothing changed
abbrev pub grants : {R : Type 0} → R → Pair → Outcome R
grants answer s = record { answer = Ok answer; after = s }

abbrev pub refuses : {R : Type 0} → Refusal → Pair → Outcome R
refuses refusal s = record { answer = Err refusal; after = s }

-- the mark of a row is taken away
abbrev pub unmarked : List Row → Option ℕ → List Row
unmarked rows None = rows
unmarked rows (Some i) = marking rows i false

-- the hub goes on to a phase of the same login
abbrev pub hub_to : HubPhase → Pair → Pair
hub_to phase s = record s { hub = record s.hub { phase = phase } }

-- the hub has no login any more, so the mark of its row goes
abbrev pub hub_leaves : HubPhase → Pair → Pair
hub_leaves phase s =
    record s { hub = record s.hub { phase = phase; row = None }; rows = unmarked s.rows s.hub.row }

-- a login by row i is accepted: the row is marked
abbrev pub hub_admits : ℕ → HubPhase → Pair → Pair
hub_admits i phase s =
    record s { hub = record s.hub { phase = phase; row = Some i }; rows = marking s.rows i true }

abbrev pub with_out : Pair → List ℕ → Pair
with_out s bytes = record s { buffers = record s.buffers { out = fronted bytes s.buffers.out } }

-- the hub writes a packet: it stands at the front of the outgoing buffer, and behind what waits on the down line
abbrev pub hub_writes : Value → Pair → Pair
hub_writes v s =
    record (with_out s (encode v)) { hub = record s.hub { unsent = 0 }; down = joined s.down (encode v) }

-- it writes a packet if the line has the room, and goes without if not
abbrev pub hub_tells : Value → Pair → Pair
hub_tells v s = cond (fits s.down (encode v)) (hub_writes v s) s

-- the hub took these bytes: its frame and the up line are then those
abbrev pub hub_took : List ℕ → List ℕ → LineView → Pair → Pair
hub_took got frame up s =
    record s {
      hub = record s.hub { frame = frame; silent = 0 };
      up = up;
      buffers = record s.buffers { hub_frame = laid s.buffers.hub_frame (length s.hub.frame) got };
    }

abbrev pub seat_with : SeatPhase → Bool → Option Status → Pair → Pair
seat_with phase in_step status s =
    record s { seat = record s.seat { phase = phase; in_step = in_step; status = status } }

abbrev pub seat_to : SeatPhase → Pair → Pair
seat_to phase s = record s { seat = record s.seat { phase = phase } }

abbrev pub seat_writes : Value → Pair → Pair
seat_writes v s =
    record (with_out s (encode v)) { seat = record s.seat { unsent = 0 }; up = joined s.up (encode v) }

abbrev pub seat_tells : Value → Pair → Pair
seat_tells v s = cond (fits s.up (encode v)) (seat_writes v s) s

abbrev pub seat_took : List ℕ → List ℕ → LineView → Pair → Pair
seat_took got frame down s =
    record s {
      seat = record s.seat { frame = frame; silent = 0 };
      down = down;
      buffers = record s.buffers { seat_frame = laid s.buffers.seat_frame (length s.seat.frame) got };
    }

-- lines, frames and tick counts are cleared
abbrev pub wiped : Pair → Pair
wiped s =
    record s {
      hub = record s.hub { frame = []; unsent = 0; silent = 0; waited = 0 };
      seat = record s.seat { frame = []; unsent = 0; silent = 0 };
      up = cleared s.up;
      down = cleared s.down;
    }
