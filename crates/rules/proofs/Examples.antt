-- The worked examples, computed.
use Rattle.std.proofs.Common.{refl}
use Rattle.std.specs.List.{AllByRecursion as All}
use Rattle.packet.specs.Values.{encode}
use Rattle.packet.specs.Decoding.{decode}
use Rattle.rules.specs.Examples.{stories, IsSeen, waits, Waited, counts, Counted, asks, Asked, hub_hearings, HubHeard, seat_hearings, SeatHeard, ExamplesHold}

seen_lem : All IsSeen stories
unfolding encode decode
seen_lem = (refl, (refl, (refl, (refl, (refl, (refl, (refl, (refl, (refl, (refl, (refl, (refl, (refl, (refl, (refl, tt)))))))))))))))

waited : All Waited waits
unfolding encode
waited = ((refl, refl, refl), ((refl, refl, refl), ((refl, refl, refl), ((refl, refl, refl), ((refl, refl, refl), ((refl, refl, refl), tt))))))

counted : All Counted counts
counted = (
  record { unsent = refl; silent = refl; waited = refl; seat_unsent = refl; seat_silent = refl },
  (
    record { unsent = refl; silent = refl; waited = refl; seat_unsent = refl; seat_silent = refl },
    (
      record { unsent = refl; silent = refl; waited = refl; seat_unsent = refl; seat_silent = refl },
      (record { unsent = refl; silent = refl; waited = refl; seat_unsent = refl; seat_silent = refl }, tt),
    ),
  ),
)

asked : All Asked asks
unfolding encode
asked = (record { phase = refl; wrote = refl }, (record { phase = refl; wrote = refl }, (record { phase = refl; wrote = refl }, (record { phase = refl; wrote = refl }, tt))))

hub_heard_lem : All HubHeard hub_hearings
unfolding encode decode
hub_heard_lem = (refl, (refl, (refl, (refl, (refl, (refl, (refl, (refl, (refl, (refl, (refl, (refl, tt))))))))))))

seat_heard_lem : All SeatHeard seat_hearings
unfolding encode decode
seat_heard_lem = (refl, (refl, (refl, (refl, (refl, (refl, (refl, tt)))))))

pub examples_hold : ExamplesHold
unfolding encode
examples_hold =
    record {
      stories = seen_lem;
      waits = waited;
      counts = counted;
      asks = asked;
      hub = hub_heard_lem;
      seat = seat_heard_lem;
      connect = record { hub = refl; seat = refl; up = refl; room = refl; down = refl; rows = refl; running = refl; held = refl };
    }
