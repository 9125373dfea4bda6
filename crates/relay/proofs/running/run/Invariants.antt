use Rattle.pair.specs.Meanings.{pair_of}
use Rattle.relay.proofs.Filling.{Filled}
use Rattle.relay.proofs.running.run.Given as goal

abbrev pub invariant-loop-slot : goal.invariant-loop-slot
invariant-loop-slot g l =
    Filled
    (pair_of l.initial.pair (g.G.Log.view l.initial.hub_log) (g.S.Log.view l.initial.seat_log) (g.U.Line.view l.initial.up) (g.D.Line.view l.initial.down) l.initial.buffers)
    l.initial.slots l.slot-index l.slots
    (pair_of l.pair (g.G.Log.view l.hub_log) (g.S.Log.view l.seat_log) (g.U.Line.view l.up) (g.D.Line.view l.down) l.buffers)
