use Rattle.std.proofs.Common.{◌≡◌, ◌+◌, suc, length, ap, ◌∙◌, rules, arith}
use Rattle.packed_messages.specs.Packed.{edge}
use Rattle.packed_messages.specs.Shown.{packed_of}
use Rattle.packed_messages.proofs.Keeping.{in_range, has_kept, hasnt_kept, message_kept}
use Rattle.logs.proofs.indexing.Indexed.message.Goals as goal

pub returns-in_err-k : goal.returns-in_err-k
returns-in_err-k c =
    let s = c.args.self.now in
    let none = hasnt_kept 0 0 (packed_of s.packed) (edge 0 s.ends.items) (in_range s.packed) s.edges c.args.n c.in_err-k.ensures.1 in
    search rules

pub slice_bounds-result-end : goal.slice_bounds-result-end
slice_bounds-result-end c =
    let s = c.args.self.now in
    let k = c.in_ok-k.k in
    let here = message_kept 0 0 (packed_of s.packed) (edge 0 s.ends.items) (in_range s.packed) s.edges c.args.n k c.in_ok-k.ensures.0 c.in_ok-k.ensures.1 in
    let z : k + 1 ≡ suc k = omega arith in
    let end = c.edge_at-end.ensures ∙ ap (λ t. edge 0 t (k + 1)) c.deref-2.ensures.value ∙ ap (edge 0 s.ends.items) z in
    let long = ap length c.memory.ensures in
    omega (arith, here.2, end, long)

pub returns : goal.returns
returns c =
    let s = c.args.self.now in
    let k = c.in_ok-k.k in
    let v = packed_of s.packed in
    let at = edge 0 s.ends.items in
    let here = message_kept 0 0 v at (in_range s.packed) s.edges c.args.n k c.in_ok-k.ensures.0 c.in_ok-k.ensures.1 in
    let z : k + 1 ≡ suc k = omega arith in
    let start = c.edge_at-start.ensures ∙ ap (λ t. edge 0 t k) c.deref.ensures.value in
    let end = c.edge_at-end.ensures ∙ ap (λ t. edge 0 t (k + 1)) c.deref-2.ensures.value ∙ ap at z in
    (has_kept 0 0 v at (in_range s.packed) s.edges c.args.n k c.in_ok-k.ensures.0 c.in_ok-k.ensures.1, grind arith)
