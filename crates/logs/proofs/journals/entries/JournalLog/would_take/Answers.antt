use Rattle.std.proofs.Common.{◌∙◌}
use Rattle.logs.specs.Layout.{base, gap, walked}
use Rattle.packed_messages.specs.Shown.{packed_of}
use Rattle.packed_messages.proofs.Keeping.{in_range, judged_kept}
use Rattle.logs.proofs.journals.entries.JournalLog.would_take.Goals as goal

pub returns : goal.returns
returns c =
    let s = c.args.self.now in
    c.would_take.ensures ∙ judged_kept base gap (packed_of s.packed) (walked s.packed.memory.items) (in_range s.packed) s.edges c.args.bytes
