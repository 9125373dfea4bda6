-- Bytes laid over others from an offset on.
use Rattle.std.proofs.Common.{◌≡◌, ℕ, ◌+◌, ◌≤◌, List, ◌∷◌, ◌++◌, length, drop, ap, ◌∙◌, arith}
use Rattle.std.proofs.lemmas.List.{drop-drop}
use Rattle.wire.specs.Overlay.{laid, overlaid}
use Rattle.wire.proofs.Laid.{overlaid_is, length_laid, laid_laid}

-- one piece right after another, as two writes leave it
pub then : (l o p x y : List ℕ) (at to : ℕ) → at ≤ length l → to ≡ at + length x → o ≡ laid l at x → p ≡ laid o to y → p ≡ laid l at (x ++ y)
then l o p x y at to h q e f = f ∙ ap (λ (r : List ℕ). laid r to y) e ∙ laid_laid l x y at to h q

-- the same of pieces that fit
pub then_fitting : (l o p x y : List ℕ) (at : ℕ) → at + length x + length y ≤ length l → o ≡ overlaid l at x → p ≡ overlaid o (at + length x) y → p ≡ laid l at (x ++ y)
then_fitting l o p x y at h e f =
    let first : o ≡ laid l at x = e ∙ overlaid_is l at x (omega arith) in
    let long : length o ≡ length l = ap length first ∙ length_laid l at x (omega arith) in
    let second : p ≡ laid o (at + length x) y = f ∙ overlaid_is o (at + length x) y (omega arith) in
    let to : at + length x ≡ at + length x = omega arith in
    then l o p x y at (at + length x) (omega arith) to first second

-- a body behind a head
pub laid_head : (a b c : ℕ) (l x : List ℕ) → laid (a ∷ b ∷ c ∷ drop 3 l) 3 x ≡ (a ∷ b ∷ c ∷ x) ++ drop (length x + 3) l
laid_head a b c l x = ap (λ (r : List ℕ). a ∷ b ∷ c ∷ (x ++ r)) (drop-drop (length x) 3 l ∙ ap (λ (i : ℕ). drop i l) (omega arith))
