use native.Mathlib.Omega.{arith}
use Rattle.lines.specs.PacedViews.{paced_take}
use Rattle.lines.proofs.pacing.PacedLine.take.Goals as goal

pub returns : goal.returns
returns g c =
    paced_take c.args.buffer.now c.args.self.now.pace c.min-most.result c.take.ensures
    (omega (arith, c.min-most.ensures))
