-- What a pair means, with what is lent to it.
use Rattle.line.specs.Lines.{LineView}
use Rattle.message_log.specs.Meaning.{Meaning}
use Rattle.rules.specs.State as State
use Rattle.hub.specs.Ends as Hub
use Rattle.seat.specs.Ends as Seat
use Rattle.seat.specs.Asks.{fields_of}
use Rattle.pair.specs.declared.pairs.Pair.{Pair}

-- the two logs, the hub's first; the up and the down line; the buffers
abbrev pub pair_of : Pair → Meaning → Meaning → LineView → LineView → State.Buffers → State.Pair
pair_of p hub_log seat_log up down buffers =
    record {
      running = Hub.running_of p.hub hub_log;
      hub = Hub.end_of p.hub buffers.hub_frame;
      seat = Seat.end_of p.seat buffers.seat_frame;
      held = seat_log;
      up = up;
      down = down;
      rows = p.accounts.rows;
      account = fields_of p.account;
      buffers = buffers;
    }
