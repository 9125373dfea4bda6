use Rattle.hub.specs.Ends.{side_of}
use Rattle.hub.proofs.Asks.{times_granted}
use Rattle.std.proofs.Common.{arith}
use Rattle.hub.proofs.hubs.Hub.tick.Goals as goal

pub returns : goal.returns
returns g c log up frame =
    let before = side_of c.args.self.now log up (g.D.Line.view c.args.down.now) c.args.accounts.now.rows frame c.args.out.now in
    times_granted before _ _ _ _ (omega (arith, c.if-out-lt-PACKET_LIMIT.false)) c.one_more-self.ensures c.one_more-self-2.ensures c.one_more-self-3.ensures
    (c.time_out.ensures log up frame)
