-- One message more in an indexed log.
use Rattle.std.proofs.Common.{◌≡◌, ℕ, suc, ◌+◌, ◌≤◌, List, [], ◌∷◌, ◌++◌, length, Ok, refl, ap, ◌∙◌, arith}
use Rattle.message_log.specs.Meaning.{added}
use Rattle.packed_messages.specs.Packed.{Packed, InRange, Edges, edge, kept, judged, extended}
use Rattle.packed_messages.proofs.Edges.{edge_same, edge_last}
use Rattle.packed_messages.proofs.Keeping.{edges_more, kept_more}

module _ (v : Packed) (ends m : List ℕ) (r : InRange 0 v) (e : Edges 0 0 v (edge 0 ends)) (whole : length ends ≡ v.count) (ok : judged 0 v (length m) ≡ Ok tt) where
  abbrev longer : List ℕ
  longer = ends ++ (v.used + length m) ∷ []

  same : (k : ℕ) → k ≤ v.count → edge 0 longer k ≡ edge 0 ends k
  same k h = edge_same 0 ends ((v.used + length m) ∷ []) k (omega arith)

  next : edge 0 longer (suc v.count) ≡ v.used + 0 + length m
  next =
      let z : suc v.count ≡ suc (length ends) = omega arith in
      ap (edge 0 longer) z ∙ edge_last 0 ends (v.used + length m) ∙ omega arith

  pub longer_edges : Edges 0 0 (extended m v) (edge 0 longer)
  longer_edges = edges_more 0 0 v (edge 0 ends) r e [] m (edge 0 longer) refl ok same next

  pub longer_meaning : kept 0 0 (extended m v) (edge 0 longer) ≡ added (kept 0 0 v (edge 0 ends)) m
  longer_meaning = kept_more 0 0 v (edge 0 ends) r e [] m (edge 0 longer) refl ok same next
