use Rattle.std.proofs.Common.{◌+◌, ◌≤◌, length}
use Rattle.message_log.specs.Meaning.{Meaning}
use Rattle.rules.specs.Laws.{NoShorter}
use Rattle.rules.specs.Rounds.{HubReceives}
use Rattle.pair.specs.Meanings.{pair_of}
use Rattle.pair.proofs.Drains.{Ahead}
use Rattle.pair.proofs.pairs.Pair.drain_hub.Given as goal

abbrev pub invariant-loop-fault : goal.invariant-loop-fault
invariant-loop-fault g l = record {
  count : l.packets + length (g.U.Line.view l.up).waiting ≤ l._most;
  lengths : NoShorter l.initial.buffers l.buffers;
  ahead : (seat_log : Meaning) → Ahead HubReceives (pair_of l.initial.self (g.G.Log.view l.hub_log) seat_log (g.U.Line.view l.initial.up) (g.D.Line.view l.initial.down) l.initial.buffers) l.packets (pair_of l.self (g.G.Log.view l.hub_log) seat_log (g.U.Line.view l.up) (g.D.Line.view l.down) l.buffers);
}

abbrev pub decreases-loop-fault : goal.decreases-loop-fault
decreases-loop-fault g l = length (g.U.Line.view l.up).waiting
