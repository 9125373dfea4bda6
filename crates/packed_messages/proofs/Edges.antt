-- The edges that a table of ends has, and one end more.
use Rattle.std.proofs.Common.{◌≡◌, ℕ, zero, suc, ◌≤◌, List, [], ◌∷◌, ◌++◌, length, refl, arith}
use Rattle.std.proofs.Math.Seq.{get_or-append_seam}
use Rattle.std.proofs.lemmas.List.{get_or_append_left}
use Rattle.packed_messages.specs.Packed.{edge}

pub edge_same : (base : ℕ) (ends more : List ℕ) (k : ℕ) → k ≤ length ends → edge base (ends ++ more) k ≡ edge base ends k
edge_same base ends more zero h = refl
edge_same base ends more (suc k) h = get_or_append_left ends more 0 k (omega arith)

pub edge_last : (base : ℕ) (ends : List ℕ) (e : ℕ) → edge base (ends ++ e ∷ []) (suc (length ends)) ≡ e
edge_last base ends e = get_or-append_seam ends e [] 0
