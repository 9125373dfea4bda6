-- Lists that are prefixes of others.
use Rattle.std.proofs.Common.{◌≡◌, ℕ, zero, suc, ◌≤◌, List, [], ◌∷◌, ◌++◌, length, get_or, Some, sym, refl, ap, ◌∙◌, arith, length-append}
use Rattle.std.specs.List.{slice_get}
use Rattle.std.proofs.lemmas.List.{append-nil, append_assoc, nil_from_length}
use Rattle.promises.specs.Book.{Message}
use Rattle.promises.specs.Runs.{IsPrefix}

pub IsPrefix-refl : (xs : List Message) → IsPrefix xs xs
IsPrefix-refl xs = ([], sym (append-nil xs))

pub IsPrefix-push : (xs : List Message) (x : Message) → IsPrefix xs (xs ++ (x ∷ []))
IsPrefix-push xs x = (x ∷ [], refl)

pub IsPrefix-trans : (xs ys zs : List Message) → IsPrefix xs ys → IsPrefix ys zs → IsPrefix xs zs
IsPrefix-trans xs ys zs (a, p) (b, q) = (a ++ b, q ∙ ap (λ l. l ++ b) p ∙ append_assoc xs a b)

pub IsPrefix-length : (xs ys : List Message) → IsPrefix xs ys → length xs ≤ length ys
IsPrefix-length xs ys (r, e) = omega (arith, ap length e, length-append xs r)

-- a prefix that is as long is the whole
pub IsPrefix-all : (xs ys : List Message) → IsPrefix xs ys → length ys ≤ length xs → xs ≡ ys
IsPrefix-all xs ys (r, e) l =
    let n : length r ≡ 0 = omega (arith, ap length e, length-append xs r) in
    sym (e ∙ ap (λ z. xs ++ z) (nil_from_length r n) ∙ append-nil xs)

-- what stands right behind a prefix
pub IsPrefix-next : (xs rest : List Message) (v : Message) → slice_get (xs ++ rest) (length xs) ≡ Some v → IsPrefix (xs ++ (v ∷ [])) (xs ++ rest)
IsPrefix-next [] [] v e = (cc)
IsPrefix-next [] (y ∷ ys) v e = (ys, cc)
IsPrefix-next (x ∷ xs) rest v e = let ih = IsPrefix-next xs rest v e in (ih.0, ap (λ l. x ∷ l) ih.1)

-- of two prefixes of one list the shorter is a prefix of the longer
pub IsPrefix-shorter : (xs ys zs : List Message) → IsPrefix xs zs → IsPrefix ys zs → length xs ≤ length ys → IsPrefix xs ys
IsPrefix-shorter [] ys zs p q l = (ys, refl)
IsPrefix-shorter (x ∷ xs) [] zs p q l = absurd (omega arith)
IsPrefix-shorter (x ∷ xs) (y ∷ ys) zs p q l =
    let e : x ∷ (xs ++ p.0) ≡ y ∷ (ys ++ q.0) = sym p.1 ∙ q.1 in
    let a : y ≡ x = cc in
    let t : xs ++ p.0 ≡ ys ++ q.0 = cc in
    let ih = IsPrefix-shorter xs ys (xs ++ p.0) (p.0, refl) (q.0, t) (omega arith) in
    (ih.0, ap (λ z. z ∷ ys) a ∙ ap (λ z. x ∷ z) ih.1)

pub nth_append : (xs ys : List Message) (i : ℕ) (v : Message) → slice_get xs i ≡ Some v → slice_get (xs ++ ys) i ≡ Some v
nth_append [] ys i v e = (cc)
nth_append (x ∷ xs) ys zero v e = e
nth_append (x ∷ xs) ys (suc i) v e = nth_append xs ys i v e

-- what holds of every message, and of one more behind them
pub get_d_push : (P : Message → Type 0) (xs : List Message) (m : Message) → ((k : ℕ) → P (get_or xs k [])) → P m → (k : ℕ) → P (get_or (xs ++ (m ∷ [])) k [])
get_d_push P [] m h p zero = p
get_d_push P [] m h p (suc k) = h k
get_d_push P (x ∷ xs) m h p zero = h zero
get_d_push P (x ∷ xs) m h p (suc k) = get_d_push P xs m (λ j. h (suc j)) p k
