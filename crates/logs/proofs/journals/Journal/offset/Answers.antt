use Rattle.std.proofs.Common.{◌∙◌, ap, sym, rules, Ok}
use Rattle.packed_messages.specs.Shown.{packed_of}
use Rattle.packed_messages.proofs.Keeping.{in_range, offset_kept, offset_none}
use Rattle.logs.specs.Layout.{base, gap, walked}
use Rattle.logs.proofs.journals.Journal.offset.Goals as goal

pub returns-in_err-index_of : goal.returns-in_err-index_of
returns-in_err-index_of c =
    let s = c.args.self.now in
    let none = offset_none base gap (packed_of s.packed) (walked s.packed.memory.items) (in_range s.packed) s.edges c.args.n c.in_err-index_of.ensures.1 in
    search rules

pub returns : goal.returns
returns c =
    let s = c.args.self.now in
    let k = c.in_ok-index_of.field-0 in
    ap Ok c.edge.ensures
    ∙ sym (offset_kept base gap (packed_of s.packed) (walked s.packed.memory.items) (in_range s.packed) s.edges c.args.n k c.in_ok-index_of.ensures.0 c.in_ok-index_of.ensures.1)
