use Rattle.std.proofs.Common.{◌≡◌, ◌+◌, [], ◌∷◌, ◌++◌, length, sym, ap, subst, ◌∙◌, rules, arith}
use Rattle.packed_messages.specs.Packed.{Packed, Edges, edge, kept, extended}
use Rattle.packed_messages.specs.Shown.{packed_of}
use Rattle.packed_messages.proofs.Keeping.{in_range, judged_kept}
use Rattle.logs.proofs.Longer.{longer_edges, longer_meaning}
use Rattle.logs.proofs.indexing.IndexedLog.append.Goals as goal

pub returns-in_err-append-clause-value : goal.returns-in_err-append-clause-value
returns-in_err-append-clause-value c =
    let s = c.args.self.now in
    let v = packed_of s.packed in
    let value = c.append.ensures.value ∙ judged_kept 0 0 v (edge 0 s.ends.items) (in_range s.packed) s.edges (length c.args.message.now) in
    search rules

pub returns-clause-value : goal.returns-clause-value
returns-clause-value c =
    let s = c.args.self.now in
    let v = packed_of s.packed in
    let value = c.append.ensures.value ∙ judged_kept 0 0 v (edge 0 s.ends.items) (in_range s.packed) s.edges (length c.args.message.now) in
    search rules

pub invariant_of-self-2-clause-reserved : goal.invariant_of-self-2-clause-reserved
invariant_of-self-2-clause-reserved c =
    let slots = ap (λ (x : Packed). x.slots) c.in_ok-append.ensures.after in
    omega (arith, slots, c.args.self.now.reserved, c.push_reserved.ensures.capacity)

pub invariant_of-self-2-clause-edges : goal.invariant_of-self-2-clause-edges
invariant_of-self-2-clause-edges c =
    let s = c.args.self.now in
    let v = packed_of s.packed in
    let m = c.args.message.now in
    let grew : packed_of c.append.new.self ≡ extended m v = c.in_ok-append.ensures.after in
    let ok = sym c.in_ok-append.ensures.value in
    let ends : c.push_reserved.new.self.items ≡ s.ends.items ++ (v.used + length m) ∷ [] =
    c.push_reserved.ensures.items ∙ ap (λ u. s.ends.items ++ u ∷ []) (c.used.ensures ∙ ap (λ (x : Packed). x.used) grew) in
    subst (λ t. Edges 0 0 (packed_of c.append.new.self) (edge 0 t)) (sym ends)
    (subst (λ (x : Packed). Edges 0 0 x (edge 0 (s.ends.items ++ (v.used + length m) ∷ []))) (sym grew)
    (longer_edges v s.ends.items m (in_range s.packed) s.edges s.whole ok))

pub returns-clause-after : goal.returns-clause-after
returns-clause-after c =
    let s = c.args.self.now in
    let v = packed_of s.packed in
    let m = c.args.message.now in
    let grew : packed_of c.append.new.self ≡ extended m v = c.in_ok-append.ensures.after in
    let ok = sym c.in_ok-append.ensures.value in
    let ends : c.push_reserved.new.self.items ≡ s.ends.items ++ (v.used + length m) ∷ [] =
    c.push_reserved.ensures.items ∙ ap (λ u. s.ends.items ++ u ∷ []) (c.used.ensures ∙ ap (λ (x : Packed). x.used) grew) in
    ap (λ t. kept 0 0 (packed_of c.append.new.self) (edge 0 t)) ends
    ∙ ap (λ (x : Packed). kept 0 0 x (edge 0 (s.ends.items ++ (v.used + length m) ∷ []))) grew
    ∙ longer_meaning v s.ends.items m (in_range s.packed) s.edges s.whole ok
