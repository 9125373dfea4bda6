-- What it means where a seat stands.
use Rattle.std.specs.Prelude.{Bool, false, Some, None, Option}
use Rattle.message_log.specs.Meaning.{Meaning}
use Rattle.packet.specs.Meanings.{value_of}
use Rattle.packet.specs.Values.{Valid}
use Rattle.rules.specs.declared.phases.SeatPhase.TheVariants.{Apart}
use Rattle.rules.specs.State.{Pair}
use Rattle.rules.specs.Hub as Hub
use Rattle.seat.specs.declared.state.SeatState.{SeatState}
use Rattle.seat.specs.declared.dues.DuePacket.{DuePacket}

-- with no connection, and nothing asked for
abbrev pub apart : SeatState
apart =
    record {
      phase = Apart;
      session = 0;
      number = 0;
      fetch = None;
      requested = false;
      in_step = false;
      status = None;
    }

-- a pair whose seat stands so and has this log: its frame, its counts and all else are those of the pair
abbrev pub with_state : SeatState → Meaning → Pair → Pair
with_state s log p =
    record p {
      seat = record p.seat {
        phase = s.phase;
        session = s.session;
        number = s.number;
        fetch = s.fetch;
        requested = s.requested;
        in_step = s.in_step;
        status = s.status;
      };
      held = log;
    }

-- with its connection ended, or with its fetch requested or not
abbrev pub parted : SeatState → SeatState
parted s = record s { phase = Apart }

abbrev pub with_requested : Bool → SeatState → SeatState
with_requested requested s = record s { requested = requested }

-- what is due, in the words of the rules
abbrev pub due_of : Option DuePacket → SeatState → Meaning → Pair → Hub.Due
due_of None s log p = Hub.none_due (with_state s log p)
due_of (Some d) s log p = Hub.due (value_of d.packet) (with_state (with_requested d.requested s) log p)

-- it can be written
abbrev pub Writable : Option DuePacket → Type 0
Writable None = Unit {0}
Writable (Some d) = Valid (value_of d.packet)
