use Rattle.std.proofs.Common.{rules}
use Rattle.framing.proofs.Takes.{untaken}
use Rattle.framing.proofs.filling.fill.Goals as goal

pub returns-then-frame-lt-PACKET_LIMIT : goal.returns-then-frame-lt-PACKET_LIMIT
returns-then-frame-lt-PACKET_LIMIT g c =
    untaken (g.L.Line.view c.args.line.now) c.args.frame.now c.args.held _ (g.met.L.Line.sound c.args.line.now) (g.met.L.Line.sound c.args.line.now).within (search rules)
