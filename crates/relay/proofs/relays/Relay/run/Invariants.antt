use Rattle.relay.proofs.Filling.{FilledAndNoted}
use Rattle.relay.proofs.relays.Relay.run.Given as goal

abbrev pub invariant-loop-slot : goal.invariant-loop-slot
invariant-loop-slot g l = FilledAndNoted l.initial.self l.initial.slots l.slot-index l.slots l.self
