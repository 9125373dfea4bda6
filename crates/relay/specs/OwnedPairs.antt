-- A pair that owns all that its calls are lent.
use Rattle.line.specs.Lines.{LineView}
use Rattle.message_log.specs.Meaning.{Meaning}
use Rattle.rules.specs.State.{Pair}
use Rattle.pair.specs.Meanings.{pair_of}
use Rattle.relay.specs.declared.owned_pairs.OwnedPair.{OwnedPair}

-- what it means, where the logs and the lines mean this: the hub's log, the seat's, the up and the down line
abbrev pub meaning_of : {G S U D : Type 0} → (G → Meaning) → (S → Meaning) → (U → LineView) → (D → LineView) →
    OwnedPair G S U D → Pair
meaning_of hub_log seat_log up down p =
    pair_of p.pair (hub_log p.hub_log) (seat_log p.seat_log) (up p.up) (down p.down) p.buffers
