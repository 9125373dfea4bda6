use Rattle.std.proofs.Common.{◌+◌, ◌-◌, suc, length, take, drop, ap, ◌∙◌, rules, arith}
use Rattle.packed_messages.specs.Shown.{packed_of}
use Rattle.packed_messages.proofs.Keeping.{in_range, has_kept, hasnt_kept, message_kept}
use Rattle.logs.specs.Layout.{base, gap, walked, record_end}
use Rattle.logs.proofs.journals.Journal.message.Goals as goal

pub returns-in_err-index_of : goal.returns-in_err-index_of
returns-in_err-index_of c =
    let s = c.args.self.now in
    let none = hasnt_kept base gap (packed_of s.packed) (walked s.packed.memory.items) (in_range s.packed) s.edges c.args.n c.in_err-index_of.ensures.1 in
    search rules

pub record_end-end-requires : goal.record_end-end-requires
record_end-end-requires c =
    let s = c.args.self.now in
    let k = c.in_ok-index_of.field-0 in
    let here = message_kept base gap (packed_of s.packed) (walked s.packed.memory.items) (in_range s.packed) s.edges c.args.n k c.in_ok-index_of.ensures.0 c.in_ok-index_of.ensures.1 in
    let long = ap length c.memory-memory.ensures in
    (omega (arith, here.1, here.2, c.edge-start.ensures, long), omega (arith, long))

pub slice_bounds-result-end : goal.slice_bounds-result-end
slice_bounds-result-end c =
    let s = c.args.self.now in
    let k = c.in_ok-index_of.field-0 in
    let here = message_kept base gap (packed_of s.packed) (walked s.packed.memory.items) (in_range s.packed) s.edges c.args.n k c.in_ok-index_of.ensures.0 c.in_ok-index_of.ensures.1 in
    let long = ap length c.memory-memory.ensures in
    let end = c.record_end-end.ensures ∙ ap (λ t. record_end t c.edge-start.result) c.memory-memory.ensures ∙ ap (record_end s.packed.memory.items) c.edge-start.ensures in
    omega (arith, here.2, end, long)

pub returns : goal.returns
returns c =
    let s = c.args.self.now in
    let v = packed_of s.packed in
    let at = walked s.packed.memory.items in
    let k = c.in_ok-index_of.field-0 in
    let here = message_kept base gap v at (in_range s.packed) s.edges c.args.n k c.in_ok-index_of.ensures.0 c.in_ok-index_of.ensures.1 in
    let end = c.record_end-end.ensures ∙ ap (λ t. record_end t c.edge-start.result) c.memory-memory.ensures ∙ ap (record_end s.packed.memory.items) c.edge-start.ensures in (
      has_kept base gap v at (in_range s.packed) s.edges c.args.n k c.in_ok-index_of.ensures.0 c.in_ok-index_of.ensures.1,
      ap (λ t. take (c.record_end-end.result - (c.edge-start.result + gap)) (drop (c.edge-start.result + gap) t)) c.memory-memory.ensures
          ∙ ap (λ t. take (t - (c.edge-start.result + gap)) (drop (c.edge-start.result + gap) s.packed.memory.items)) end
          ∙ ap (λ t. take (at (suc k) - (t + gap)) (drop (t + gap) s.packed.memory.items)) c.edge-start.ensures
          ∙ here.0,
    )
