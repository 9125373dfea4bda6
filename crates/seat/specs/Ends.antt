-- What a seat means, and its side of a pair.
use Rattle.std.specs.Prelude.{ℕ, List, take}
use Rattle.line.specs.Lines.{LineView}
use Rattle.message_log.specs.Meaning.{Meaning}
use Rattle.rules.specs.State.{SeatEnd, Account, Pair}
use Rattle.rules.specs.Sides.{seat_side}
use Rattle.seat.specs.declared.seats.Seat.{Seat}

-- the meaning of a seat whose frame lies at the front of this buffer
abbrev pub end_of : Seat → List ℕ → SeatEnd
end_of s buffer =
    record {
      phase = s.state.phase;
      session = s.state.session;
      number = s.state.number;
      fetch = s.state.fetch;
      requested = s.state.requested;
      in_step = s.state.in_step;
      status = s.state.status;
      frame = take s.filled buffer;
      unsent = s.unsent;
      silent = s.silent;
    }

-- its side of a pair: its log, the up and the down line, its account, the buffer of its frame, and the outgoing one
abbrev pub side_of : Seat → Meaning → LineView → LineView → Account → List ℕ → List ℕ → Pair
side_of s log up down account frame out = seat_side (end_of s frame) log up down account frame out
