use Rattle.std.proofs.Common.{arith}
use Rattle.packet.proofs.Laying.{then_fitting}
use Rattle.packet.proofs.writing.put_two.Goals as goal

pub returns : goal.returns
returns c =
    then_fitting c.args.out.now _ _ c.args.first.now c.args.second.now c.args.at (omega arith) c.lay.ensures c.lay-2.ensures
