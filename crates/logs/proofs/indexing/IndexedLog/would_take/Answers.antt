use Rattle.std.proofs.Common.{◌∙◌}
use Rattle.packed_messages.specs.Packed.{edge}
use Rattle.packed_messages.specs.Shown.{packed_of}
use Rattle.packed_messages.proofs.Keeping.{in_range, judged_kept}
use Rattle.logs.proofs.indexing.IndexedLog.would_take.Goals as goal

pub returns : goal.returns
returns c =
    let s = c.args.self.now in
    c.would_take.ensures ∙ judged_kept 0 0 (packed_of s.packed) (edge 0 s.ends.items) (in_range s.packed) s.edges c.args.bytes
