use Rattle.std.proofs.Common.{arith}
use Rattle.packed_messages.specs.Shown.{packed_of}
use Rattle.packed_messages.proofs.Keeping.{extended_by}
use Rattle.packed_messages.proofs.packed.PackedMessages.append.Goals as goal

pub returns-clause-after : goal.returns-clause-after
returns-clause-after g c =
    extended_by g.row.GAP (packed_of c.args.self.now) (packed_of c.lay_in.new.self) (packed_of c.lay_in-2.new.self)
    c.args.head c.args.message.now (omega arith) (omega arith) c.lay_in.ensures c.lay_in-2.ensures
