use Rattle.std.proofs.Common.{◌-◌, arith}
use Rattle.framing.proofs.Takes.{taken_at}
use Rattle.framing.proofs.filling.take_at.Goals as goal

pub returns : goal.returns
returns g c =
    taken_at (g.L.Line.view c.args.line.now) (g.L.Line.view c.take.new.self) c.args.frame.now c.take.new.buffer c.args.from (c.args.end - c.args.from) c.take.result
    (g.met.L.Line.sound c.take.new.self) (g.met.L.Line.sound c.take.new.self).within (omega arith) c.take.ensures
