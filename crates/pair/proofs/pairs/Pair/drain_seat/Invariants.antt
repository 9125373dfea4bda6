use Rattle.std.proofs.Common.{◌+◌, ◌≤◌, length}
use Rattle.message_log.specs.Meaning.{Meaning}
use Rattle.rules.specs.Laws.{NoShorter}
use Rattle.rules.specs.Rounds.{SeatReceives}
use Rattle.pair.specs.Meanings.{pair_of}
use Rattle.pair.proofs.Drains.{Ahead}
use Rattle.pair.proofs.pairs.Pair.drain_seat.Given as goal

abbrev pub invariant-loop-fault : goal.invariant-loop-fault
invariant-loop-fault g l = record {
  count : l.packets + length (g.D.Line.view l.down).waiting ≤ l._most;
  lengths : NoShorter l.initial.buffers l.buffers;
  ahead : (hub_log : Meaning) → Ahead SeatReceives (pair_of l.initial.self hub_log (g.S.Log.view l.initial.seat_log) (g.U.Line.view l.initial.up) (g.D.Line.view l.initial.down) l.initial.buffers) l.packets (pair_of l.self hub_log (g.S.Log.view l.seat_log) (g.U.Line.view l.up) (g.D.Line.view l.down) l.buffers);
}

abbrev pub decreases-loop-fault : goal.decreases-loop-fault
decreases-loop-fault g l = length (g.D.Line.view l.down).waiting
