-- What a write over a part of a run of bytes leaves.
use Rattle.std.proofs.Common.{◌≡◌, ℕ, ◌+◌, ◌-◌, ◌≤◌, List, ◌++◌, length, take, drop, sym, ap, ◌∙◌, arith, length-append, length-drop}
use Rattle.std.specs.List.{between}
use Rattle.std.proofs.lemmas.List.{append_assoc, drop-drop, take_at, drop_at, length-take, length-take-le}
use Rattle.std.proofs.lemmas.Bool.{cond-true, le-leb}
use Rattle.wire.specs.Overlay.{laid, overlaid}

pub overlaid_is : (xs : List ℕ) (at : ℕ) (m : List ℕ) → at + length m ≤ length xs → overlaid xs at m ≡ laid xs at m
overlaid_is xs at m w = cond-true _ (laid xs at m) xs (le-leb (at + length m) (length xs) w)

-- the rest begins where the piece ends
pub laid_rest : (xs : List ℕ) (at : ℕ) (m : List ℕ) → laid xs at m ≡ take at xs ++ (m ++ drop (at + length m) xs)
laid_rest xs at m = ap (λ (t : List ℕ). take at xs ++ (m ++ t)) (drop-drop (length m) at xs)

pub length_laid : (xs : List ℕ) (at : ℕ) (m : List ℕ) → at + length m ≤ length xs → length (laid xs at m) ≡ length xs
length_laid xs at m w = simp (length-append, length-take, length-drop) (omega arith)

pub take_laid : (xs : List ℕ) (at : ℕ) (m : List ℕ) → at ≤ length xs → take at (laid xs at m) ≡ take at xs
take_laid xs at m w = take_at (take at xs) (m ++ drop (length m) (drop at xs)) at (length-take-le at xs w)

-- up to the end of what was written
pub take_laid_end : (xs : List ℕ) (at : ℕ) (m : List ℕ) (e : ℕ) → at ≤ length xs → e ≡ at + length m → take e (laid xs at m) ≡ take at xs ++ m
take_laid_end xs at m e w is =
    let front = length-take-le at xs w in
    let both : length (take at xs ++ m) ≡ e = length-append (take at xs) m ∙ omega arith in
    ap (take e) (sym (append_assoc (take at xs) m (drop (length m) (drop at xs)))) ∙ take_at (take at xs ++ m) (drop (length m) (drop at xs)) e both

-- what was written
pub between_laid : (xs : List ℕ) (at : ℕ) (m : List ℕ) (e : ℕ) → at ≤ length xs → e ≡ at + length m → between at e (laid xs at m) ≡ m
between_laid xs at m e w is =
    let rest = drop_at (take at xs) (m ++ drop (length m) (drop at xs)) at (length-take-le at xs w) in
    ap (take (e - at)) rest ∙ take_at m (drop (length m) (drop at xs)) (e - at) (omega arith)

-- two pieces, one behind the other
pub laid_laid : (xs a b : List ℕ) (at e : ℕ) → at ≤ length xs → e ≡ at + length a → laid (laid xs at a) e b ≡ laid xs at (a ++ b)
laid_laid xs a b at e w is =
    let head = take_laid_end xs at a e w is in
    let front : length (take at xs ++ a) ≡ e = length-append (take at xs) a ∙ omega (arith, length-take-le at xs w) in
    let past : drop e (laid xs at a) ≡ drop (length a) (drop at xs) =
    ap (drop e) (sym (append_assoc (take at xs) a (drop (length a) (drop at xs)))) ∙ drop_at (take at xs ++ a) (drop (length a) (drop at xs)) e front
    in
    let tail : drop (length b) (drop e (laid xs at a)) ≡ drop (length (a ++ b)) (drop at xs) =
    ap (drop (length b)) past ∙ (drop-drop (length b) (length a) (drop at xs) ∙ ap (λ (n : ℕ). drop n (drop at xs)) (sym (length-append a b)))
    in
    ap (λ (t : List ℕ). t ++ (b ++ drop (length b) (drop e (laid xs at a)))) head
    ∙ (ap (λ (t : List ℕ). (take at xs ++ a) ++ (b ++ t)) tail
    ∙ (append_assoc (take at xs) a (b ++ drop (length (a ++ b)) (drop at xs))
    ∙ ap (λ (t : List ℕ). take at xs ++ t) (sym (append_assoc a b (drop (length (a ++ b)) (drop at xs))))))
