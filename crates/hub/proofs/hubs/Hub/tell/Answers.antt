use Rattle.std.proofs.Common.{sym, arith}
use Rattle.hub.specs.Ends.{side_of}
use Rattle.hub.proofs.Asks.{tells_granted}
use Rattle.hub.proofs.hubs.Hub.tell.Goals as goal

pub returns : goal.returns
returns g c log up rows frame =
    let s = side_of c.args.self.now log up (g.D.Line.view c.args.down.now) rows frame c.args.out.now in
    tells_granted c.args.message.now s _ c.write.result (omega arith) (omega arith) (sym c.if-not-has_room.ensures) (sym c.if-not-is_serving.ensures) c.write.ensures.answer (c.write.ensures.after log up rows frame)
