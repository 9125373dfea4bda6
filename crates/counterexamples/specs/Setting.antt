-- The pair that the runs of this crate start from, and how it looks between calls: one account, a hub in session 1,
-- and a seat whose log has no session yet. No tick passes, so all counts stay 0.
use Rattle.std.specs.Prelude.{ℕ, ◌-◌, Bool, false, cond, List, [], ◌∷◌, length, replicate, Some, None}
use Rattle.wire.specs.Limits.{packet_limit}
use Rattle.line.specs.Lines.{LineView}
use Rattle.message_log.specs.Meaning.{Meaning}
use Rattle.account.specs.declared.rows.Row.{Row}
use Rattle.rules.specs.declared.phases.HubPhase.{HubPhase}
use Rattle.rules.specs.declared.phases.HubPhase.TheVariants.{Shut}
use Rattle.rules.specs.declared.phases.SeatPhase.{SeatPhase}
use Rattle.rules.specs.declared.phases.SeatPhase.TheVariants.{Apart}
use Rattle.rules.specs.State.{HubEnd, SeatEnd, Account, Buffers, Pair}
use Rattle.rules.specs.Sides.{no_hub, no_seat}
use Rattle.rules.specs.Calls.{busy}
use Rattle.promises.specs.Book.{Message}

abbrev pub the_account : Account
the_account = record { user = replicate 5 0x41; computer = replicate 8 0x42; protocol = replicate 8 0x43 }

abbrev pub the_row : Bool → Row
the_row mark = record { account = the_account; marked = mark }

abbrev pub log_of : ℕ → List Message → Meaning
log_of session messages =
    record { session = session; messages = messages; size = 65536; overhead = 0; places = 1000 }

-- a line of the smallest size that gives room back as soon as bytes are taken
abbrev pub line_of : ℕ → List ℕ → LineView
line_of limit waiting =
    record { waiting = waiting; room = packet_limit - length waiting; full = packet_limit; limit = limit }

abbrev pub hub_at : HubPhase → List ℕ → HubEnd
hub_at phase frame = record no_hub { phase = phase; row = cond (busy phase) (Some 0) None; frame = frame }

-- the number is the one that its login asked for
abbrev pub seat_at : SeatPhase → ℕ → Bool → List ℕ → SeatEnd
seat_at phase number in_step frame =
    record no_seat { phase = phase; number = number; in_step = in_step; frame = frame }

-- the hub holds these messages; the down line hands out at most so many bytes at once
abbrev pub pair_at : List Message → HubEnd → SeatEnd → Meaning → List ℕ → ℕ → List ℕ → Buffers → Pair
pair_at messages hub seat held up limit down b =
    record {
      running = record { log = log_of 1 messages; finished = false };
      hub = hub;
      seat = seat;
      held = held;
      up = line_of packet_limit up;
      down = line_of limit down;
      rows = the_row (busy hub.phase) ∷ [];
      account = the_account;
      buffers = b;
    }

-- the buffers at the start are as long as they must be
abbrev pub fresh_buffers : Buffers
fresh_buffers =
    let buffer : List ℕ = replicate packet_limit 0 in
    record { hub_frame = buffer; seat_frame = buffer; out = buffer }

abbrev pub starting_with : List Message → ℕ → Buffers → Pair
starting_with messages limit b =
    pair_at messages (hub_at Shut []) (seat_at Apart 0 false []) (log_of 0 []) [] limit [] b
