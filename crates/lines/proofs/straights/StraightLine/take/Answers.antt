use Rattle.std.proofs.Common.{◌-◌, ◌≤◌, length, sym, refl, arith, false-eqb}
use Rattle.lines.specs.StraightViews.{straight_took}
use Rattle.lines.proofs.straights.StraightLine.take.Goals as goal

pub returns-else-self-2-clause-taken : goal.returns-else-self-2-clause-taken
returns-else-self-2-clause-taken c =
    let s = c.args.self.now in
    let b = c.args.buffer.now in
    let h : s.bytes.len - s.end ≤ s.bytes.len - s.end = omega arith in
    straight_took s.bytes.items s.bytes.len s.start s.end (sym s.bytes.ok.0) s.ok b c.index.result.now _
    (omega (arith, c.if-self.false, s.ok.0)) (omega (arith, false-eqb (length b) 0 c.if-is_empty.ensures)) c.index.ensures
    refl h refl refl
