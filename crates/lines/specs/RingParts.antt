-- Reading and writing round the end of a list of bytes.
use Rattle.std.specs.Prelude.{◌≡◌, ℕ, ◌+◌, ◌-◌, ◌<◌, ◌≤◌, ◌⊎◌, List, ◌++◌, length, take, drop, refl}
use Rattle.std.proofs.Common.{sym, ap, ◌∙◌, append_assoc, append-nil, inl, inr, arith, length-drop, length-take, length-append, take-add}
use borrow.Rule.Slice.PartMut.{put_mid}
use Rattle.std.proofs.Math.Seq.{take-append-add}
use Rattle.std.proofs.lemmas.Bool.{cases_lt}
use Rattle.std.proofs.lemmas.List.{drop-append-le, take-append-le, take-append-drop, take_at, drop_at, drop-drop, take_all, drop_all, drop-take}
use Rattle.std.proofs.lemmas.Slice.{take-put_mid, drop-put_mid}
use Rattle.wire.proofs.Laid.{length_laid}
use Rattle.wire.specs.Overlay.{laid}
use Rattle.lines.specs.Rings.{Onward, LaidRound, ringed}

module _ (xs : List ℕ) (start count : ℕ) (h : start ≤ length xs) where
  -- no part of it goes round the end
  pub near : start + count ≤ length xs → ringed xs start count ≡ take count (drop start xs)
  near l =
      let m : count ≤ length (drop start xs) = simp length-drop (omega arith) in
      ap (take count) (drop-append-le start xs xs h) ∙ take-append-le count (drop start xs) xs m

  -- the last m bytes of it go round the end
  pub far : (m : ℕ) → start + count ≡ length xs + m →
      ringed xs start count ≡ drop start xs ++ take m xs
  far m e =
      let n : count ≡ length (drop start xs) + m = simp length-drop (omega arith) in
      ap (take count) (drop-append-le start xs xs h)
      ∙ ap (λ i. take i (drop start xs ++ xs)) n
      ∙ take-append-add (drop start xs) xs m

  pub ringed_length : count ≤ length xs → length (ringed xs start count) ≡ count
  ringed_length l = simp (length-take, length-drop, length-append) (omega arith)

-- The first k bytes, and then the rest from byte k on.
pub ringed_split : (xs : List ℕ) (start count k to : ℕ) → k ≤ count → count ≤ length xs →
    start < length xs →
    Onward start k (length xs) to → ringed xs start count ≡ ringed xs start k ++ ringed xs to (count - k)
ringed_split xs start count k to l c s g =
    whole ∙ ap (λ q. ringed xs start k ++ q) (by_case (cases_lt (start + k) (length xs)))
  where
    whole : ringed xs start count ≡ ringed xs start k ++ take (count - k) (drop (start + k) (xs ++ xs))
    whole =
        let n : count ≡ k + (count - k) = omega arith in
        ap (λ i. take i (drop start (xs ++ xs))) n
        ∙ take-add k (count - k) (drop start (xs ++ xs))
        ∙ ap (λ q. ringed xs start k ++ take (count - k) q) (drop-drop k start (xs ++ xs))

    by_case : (start + k < length xs) ⊎ (length xs ≤ start + k) →
        take (count - k) (drop (start + k) (xs ++ xs)) ≡ ringed xs to (count - k)
    by_case (inl i) = ap (λ q. take (count - k) (drop q (xs ++ xs))) (sym (g.near i))
    by_case (inr i) =
        let e : to + length xs ≡ start + k = g.far i in
        let n : start + k ≡ length xs + to = omega arith in
        ap (λ q. take (count - k) (drop q (xs ++ xs))) n
        ∙ ap (take (count - k)) (sym (drop-drop to (length xs) (xs ++ xs)) ∙ ap (drop to) (drop_at xs xs (length xs) refl))
        ∙ sym (near xs to (count - k) (omega arith) (omega arith))

-- Two parts of a slice that were written one after the other, up to its end.
pub two_parts : (front back rest : List ℕ) (a : ℕ) → length front ≡ a →
    put_mid a (length (front ++ rest) - a) (front ++ rest) back ≡ front ++ back
two_parts front back rest a l =
    let n = length (front ++ rest) - a in
    let d : length (drop a (front ++ rest)) ≤ n = simp length-drop (omega arith) in
    ap (λ q. q ++ (back ++ drop n (drop a (front ++ rest)))) (take_at front rest a l)
    ∙ ap (λ q. front ++ (back ++ q)) (drop_all n (drop a (front ++ rest)) d)
    ∙ ap (λ q. front ++ q) (append-nil back)

-- What was laid behind what waits, waits behind it.
module _ (xs : List ℕ) (start count at : ℕ) (piece ys : List ℕ) (s : start < length xs) (c : count + length piece ≤ length xs) where
  -- a part that begins before the piece is the part before it, and the piece
  up_to : (p : List ℕ) (z : List ℕ) (n : ℕ) → at ≡ start + count → at + length p ≤ length xs →
      z ≡ laid xs at p → n ≡ count + length p →
      take n (drop start z) ≡ take count (drop start xs) ++ p
  up_to p z n a l e i =
      let q : start ≤ length (take at xs) = simp length-take (omega arith) in
      let m : start + n ≡ at + length p = omega arith in
      sym (drop-take start n z)
      ∙ ap (λ j. drop start (take j z)) m
      ∙ ap (λ j. drop start (take (at + length p) j)) e
      ∙ ap (drop start) (take-put_mid at (length p) xs p (at + length p) refl (omega arith))
      ∙ drop-append-le start (take at xs) p q
      ∙ ap (λ j. j ++ p) (ap (λ j. drop start (take j xs)) a ∙ drop-take start count xs)

  -- no part of it goes round the end
  lay_near : at ≡ start + count → at + length piece ≤ length xs → ys ≡ laid xs at piece →
      ringed ys start (count + length piece) ≡ ringed xs start count ++ piece
  lay_near a l e =
      let ly : length ys ≡ length xs = ap length e ∙ length_laid xs at piece l in
      near ys start (count + length piece) (omega arith) (omega arith)
      ∙ up_to piece ys (count + length piece) a l e refl
      ∙ ap (λ z. z ++ piece) (sym (near xs start count (omega arith) (omega arith)))

  -- what waits goes round the end already
  lay_past : at + length xs ≡ start + count → ys ≡ laid xs at piece →
      ringed ys start (count + length piece) ≡ ringed xs start count ++ piece
  lay_past a e =
      let n = length piece in
      let ly : length ys ≡ length xs = ap length e ∙ length_laid xs at piece (omega arith) in
      let d : drop start ys ≡ drop start xs = ap (drop start) e ∙ drop-put_mid at n xs piece start (omega arith) (omega arith) refl in
      let t : take (at + n) ys ≡ take at xs ++ piece = ap (take (at + n)) e ∙ take-put_mid at n xs piece (at + n) refl (omega arith) in
      far ys start (count + n) (omega arith) (at + n) (omega arith)
      ∙ ap (λ z. z ++ take (at + n) ys) d
      ∙ ap (λ z. drop start xs ++ z) t
      ∙ sym (append_assoc (drop start xs) (take at xs) piece)
      ∙ ap (λ z. z ++ piece) (sym (far xs start count (omega arith) at (omega arith)))

  -- a part of the piece goes round the end
  lay_over : at ≡ start + count → at < length xs → length xs < at + length piece →
      ys ≡ laid (laid xs at (take (length xs - at) piece)) 0 (drop (length xs - at) piece) →
      ringed ys start (count + length piece) ≡ ringed xs start count ++ piece
  lay_over a b l e =
      let n = length piece in
      let ahead = length xs - at in
      let head = take ahead piece in
      let tail = drop ahead piece in
      let zs = laid xs at head in
      let lh : length head ≡ ahead = simp length-take (omega arith) in
      let lt : length tail ≡ n - ahead = length-drop ahead piece in
      let lz : length zs ≡ length xs = length_laid xs at head (omega arith) in
      let ly : length ys ≡ length xs = ap length e ∙ length_laid zs 0 tail (omega arith) ∙ lz in
      let ld : length (drop start zs) ≤ count + length head = simp length-drop (omega arith) in
      let d : drop start ys ≡ take count (drop start xs) ++ head =
      ap (drop start) e ∙ drop-put_mid 0 (length tail) zs tail start (omega arith) (omega arith) refl
      ∙ sym (take_all (count + length head) (drop start zs) ld)
      ∙ up_to head zs (count + length head) a (omega arith) refl refl in
      let t : take (length tail) ys ≡ tail = ap (take (length tail)) e ∙ take_at tail (drop (length tail) zs) (length tail) refl in
      far ys start (count + n) (omega arith) (length tail) (omega arith)
      ∙ ap (λ z. z ++ take (length tail) ys) d
      ∙ ap (λ z. (take count (drop start xs) ++ head) ++ z) t
      ∙ append_assoc (take count (drop start xs)) head tail
      ∙ ap (λ z. take count (drop start xs) ++ z) (take-append-drop ahead piece)
      ∙ ap (λ z. z ++ piece) (sym (near xs start count (omega arith) (omega arith)))

  pub ringed_put : Onward start count (length xs) at → LaidRound xs at piece ys →
      ringed ys start (count + length piece) ≡ ringed xs start count ++ piece
  ringed_put g l = by_case (cases_lt (start + count) (length xs)) (cases_lt (length xs) (at + length piece))
    where
      by_case : (start + count < length xs) ⊎ (length xs ≤ start + count) →
          (length xs < at + length piece) ⊎ (at + length piece ≤ length xs) →
          ringed ys start (count + length piece) ≡ ringed xs start count ++ piece
      by_case (inl i) (inl j) = let a = g.near i in lay_over a (omega arith) j (l.far j)
      by_case (inl i) (inr j) = lay_near (g.near i) j (l.near j)
      by_case (inr i) _ = let a = g.far i in let j : at + length piece ≤ length xs = omega arith in lay_past a (l.near j)
