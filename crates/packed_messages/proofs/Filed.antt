-- The parts of a run of bytes between one edge and the next.
use Rattle.std.proofs.Common.{◌≡◌, ℕ, zero, suc, ◌+◌, ◌*◌, ◌<◌, ◌≤◌, List, [], ◌∷◌, ◌++◌, map, length, get_or, take, drop, sym, refl, ap, ◌∙◌, inl, inr, add-one, arith}
use Rattle.std.specs.List.{range_with_len, between}
use Rattle.std.proofs.lemmas.List.FromFn.{length-map-range_with_len, get_or-map-range_with_len, map-range_with_len_more, sum_by-map-range_with_len_more}
use Rattle.std.proofs.lemmas.List.Edits.{length-between}
use Rattle.std.proofs.lemmas.Slice.{between_is}
use Rattle.std.proofs.lemmas.List.{get_or_past, take-take}
use Rattle.std.proofs.lemmas.Bool.{cases_lt, cases_eq}
use Rattle.wire.specs.Limits.{message_limit}
use Rattle.message_log.specs.Meaning.{taken}
use Rattle.packed_messages.specs.Packed.{part, parts, Rising}

pub edge_mono : (at : ℕ → ℕ) (gap n : ℕ) → Rising at gap n → (k : ℕ) → k ≤ n → at k ≤ at n
edge_mono at gap zero r k h = let e : k ≡ 0 = omega arith in rw e (omega arith)
edge_mono at gap (suc n) r k h =
    elim (cases_eq k (suc n)) [
      | inl e ↦ rw e (omega arith)
      | inr ne ↦ omega (arith, edge_mono at gap n (λ j l. r j (omega arith)) k (omega arith), r n (omega arith))
    ]

-- every message takes the gap at least
pub edge_low : (at : ℕ → ℕ) (n : ℕ) → Rising at 4 n → 4 * n + at 0 ≤ at n
edge_low at zero r = omega arith
edge_low at (suc n) r = omega (arith, edge_low at n (λ k h. r k (omega arith)), r n (omega arith))

pub length_parts : (pool : List ℕ) (at : ℕ → ℕ) (gap n : ℕ) → length (parts pool at gap n) ≡ n
length_parts pool at gap n = length-map-range_with_len (part pool at gap) 0 n

pub get_or_parts : (pool : List ℕ) (at : ℕ → ℕ) (gap n k : ℕ) → k < n → get_or (parts pool at gap n) k [] ≡ part pool at gap k
get_or_parts pool at gap n k h = get_or-map-range_with_len (part pool at gap) 0 n k k [] h (omega arith)

pub taken_parts : (pool : List ℕ) (at : ℕ → ℕ) (gap n : ℕ) → Rising at gap n → at n ≤ length pool → taken gap (parts pool at gap n) + at 0 ≡ at n
taken_parts pool at gap zero r w = omega arith
taken_parts pool at gap (suc n) r w =
    let step = r n (omega arith) in
    let before = taken_parts pool at gap n (λ k h. r k (omega arith)) (omega arith) in
    let more = rw add-one at (sum_by-map-range_with_len_more (λ m. length m + gap) (part pool at gap) 0 n n (omega arith)) in
    let long = length-between pool (at n + gap) (at (suc n)) (omega arith) in
    omega (arith, before, more, long, step)

-- a part that lies below u is the same in a pool that agrees below u
pub between_below : (pool pool' : List ℕ) (u a e : ℕ) → e ≤ u → take u pool' ≡ take u pool → between a e pool' ≡ between a e pool
between_below pool pool' u a e h same =
    between_is pool' a e
    ∙ ap (drop a) (sym (take-take e u pool' h) ∙ ap (take e) same ∙ take-take e u pool h)
    ∙ sym (between_is pool a e)

-- parts that agree one by one are the same list
pub parts_by : (f g : ℕ → List ℕ) (n : ℕ) → ((k : ℕ) → k < n → f k ≡ g k) → map f (range_with_len 0 n) ≡ map g (range_with_len 0 n)
parts_by f g zero h = refl
parts_by f g (suc n) h =
    rw (add-one) at (map-range_with_len_more f 0 n n (omega arith))
    ∙ (ap (λ xs. xs ++ f n ∷ []) (parts_by f g n (λ k l. h k (omega arith)))
    ∙ ap (λ x. map g (range_with_len 0 n) ++ x ∷ []) (h n (omega arith)))
    ∙ sym (rw (add-one) at (map-range_with_len_more g 0 n n (omega arith)))

-- one message more, behind the last edge
pub parts_more : (pool pool' m : List ℕ) (at at' : ℕ → ℕ) (gap n u : ℕ) → Rising at gap n → u ≡ at n → ((k : ℕ) → k ≤ n → at' k ≡ at k) → at' (suc n) ≡ u + gap + length m → take u pool' ≡ take u pool → between (u + gap) (u + gap + length m) pool' ≡ m → parts pool' at' gap (n + 1) ≡ parts pool at gap n ++ m ∷ []
parts_more pool pool' m at at' gap n u r is kept next same put =
    map-range_with_len_more (part pool' at' gap) 0 n n (omega arith)
    ∙ (ap (λ xs. xs ++ part pool' at' gap n ∷ []) (parts_by (part pool' at' gap) (part pool at gap) n (λ k h.
    let a = kept k (omega arith) in
    let b = kept (suc k) (omega arith) in
    let top = edge_mono at gap n r (suc k) (omega arith) in
    let keep = between_below pool pool' u (at k + gap) (at (suc k)) (omega arith) same in
    cc))
    ∙ ap (λ x. parts pool at gap n ++ x ∷ []) (
    let a = kept n (omega arith) in
    cc))

-- no message is too long
pub short_parts : (pool : List ℕ) (at : ℕ → ℕ) (gap n : ℕ) → Rising at gap n → at n ≤ length pool → (k : ℕ) → length (get_or (parts pool at gap n) k []) ≤ message_limit
short_parts pool at gap n r w k =
    let count = length_parts pool at gap n in
    elim (cases_lt k n) [
      | inl h ↦
          let one = r k h in
          let top = edge_mono at gap n r (suc k) (omega arith) in
          let cut = length-between pool (at k + gap) (at (suc k)) (omega arith) in
          rw (get_or_parts pool at gap n k h) (omega arith)
      | inr h ↦ rw (get_or_past (parts pool at gap n) k [] (omega arith)) (omega arith)
    ]
