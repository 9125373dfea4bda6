-- Runs of bytes: parts of one, and two joined.
use Rattle.std.proofs.Common.{◌≡◌, ℕ, zero, suc, ◌+◌, ◌-◌, ◌≤◌, List, [], ◌∷◌, ◌++◌, length, take, drop, Vec, sym, ap, ◌∙◌, arith}
use Rattle.std.specs.List.{between}
use Rattle.std.specs.Vec.{with_items}
use Rattle.std.proofs.lemmas.List.{with_items_is, get_or-drop}
use Rattle.wire.specs.Overlay.{laid, overlaid}
use Rattle.wire.proofs.Laid.{overlaid_is, length_laid, between_laid, laid_laid}
use Rattle.packed_messages.specs.Bytes.{Bytes}

pub bytes_append : (xs ys : List ℕ) → Bytes xs → Bytes ys → Bytes (xs ++ ys)
bytes_append [] ys b c i = c i
bytes_append (x ∷ xs) ys b c zero = b 0
bytes_append (x ∷ xs) ys b c (suc i) = bytes_append xs ys (λ j. b (suc j)) c i

pub bytes_take : (n : ℕ) (xs : List ℕ) → Bytes xs → Bytes (take n xs)
bytes_take zero xs b i = omega arith
bytes_take (suc n) [] b i = omega arith
bytes_take (suc n) (x ∷ xs) b zero = b 0
bytes_take (suc n) (x ∷ xs) b (suc i) = bytes_take n xs (λ j. b (suc j)) i

pub bytes_drop : (n : ℕ) (xs : List ℕ) → Bytes xs → Bytes (drop n xs)
bytes_drop n xs b i = rw (get_or-drop n xs i 0) (b (n + i))

pub bytes_between : (a e : ℕ) (xs : List ℕ) → Bytes xs → Bytes (between a e xs)
bytes_between a e xs b = bytes_take (e - a) (drop a xs) (bytes_drop a xs b)

pub bytes_laid : (xs : List ℕ) (at : ℕ) (m : List ℕ) → Bytes xs → Bytes m → Bytes (laid xs at m)
bytes_laid xs at m b c =
    bytes_append (take at xs) (m ++ drop (length m) (drop at xs)) (bytes_take at xs b)
    (bytes_append m (drop (length m) (drop at xs)) c (bytes_drop (length m) (drop at xs) (bytes_drop at xs b)))

-- a `Vec` over whose bytes a piece was laid
pub laid_over : {Z : Type 0} (v : Vec ℕ Z) (lent after m : List ℕ) (at : ℕ) → lent ≡ v.items → after ≡ overlaid lent at m → at + length m ≤ length v.items → (with_items v after).items ≡ laid v.items at m
laid_over v lent after m at same is w =
    let form : after ≡ laid v.items at m = is ∙ (ap (λ t. overlaid t at m) same ∙ overlaid_is v.items at m w) in
    let long : length after ≡ v.len = ap length form ∙ (length_laid v.items at m w ∙ sym v.ok.0) in
    with_items_is v after long ∙ form

-- the second of two pieces, one behind the other
pub between_both : (xs a b : List ℕ) (at e end : ℕ) → e ≡ at + length a → end ≡ e + length b → end ≤ length xs → between e end (laid xs at (a ++ b)) ≡ b
between_both xs a b at e end is last w =
    let long = length_laid xs at a (omega arith) in
    ap (between e end) (sym (laid_laid xs a b at e (omega arith) is)) ∙ between_laid (laid xs at a) e b end (omega arith) last
