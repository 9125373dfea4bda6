use Rattle.rehearsal.specs.Actions.{Ticked}
use Rattle.rehearsal.proofs.stages.tick.Given as goal

abbrev pub invariant-loop : goal.invariant-loop
invariant-loop l = Ticked l.initial.pair.pair l.initial.sums l.counter l.pair.pair l.sums
