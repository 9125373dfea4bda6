use Rattle.std.proofs.Common.{◌-◌, length}
use Rattle.line.specs.Transfers.{Moved, Scratch}
use Rattle.line.proofs.transfers.transfer.Given as goal

abbrev pub invariant-loop-from : goal.invariant-loop-from
invariant-loop-from g l =
    let v = g.F.Line.view l.initial.from in
    let w = g.F.Line.view l.from in
    Moved v (g.T.Line.view l.initial.to) (length v.waiting - length w.waiting) w (g.T.Line.view l.to)
    × Scratch v l.initial.buffer l.buffer

abbrev pub decreases-loop-from : goal.decreases-loop-from
decreases-loop-from g l = length (g.F.Line.view l.from).waiting
