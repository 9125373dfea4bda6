use Rattle.std.proofs.Common.{length}
use Rattle.pump.specs.Pumpers.{Drawn}
use Rattle.pump.proofs.pumpers.Pumper.drain.Given as goal

abbrev pub invariant-loop-self : goal.invariant-loop-self
invariant-loop-self g l = Drawn (g.L.Line.view l.initial.line) l.initial.self (g.L.Line.view l.line) l.self

abbrev pub decreases-loop-self : goal.decreases-loop-self
decreases-loop-self g l = length (g.L.Line.view l.line).waiting
