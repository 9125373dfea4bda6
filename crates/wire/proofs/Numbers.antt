-- Numbers in bytes: what is written reads back, what is read was written, at every width.
use Rattle.std.proofs.Common.{◌≡◌, ℕ, zero, suc, ◌+◌, ◌*◌, ◌/◌, ◌%◌, ◌^◌, ◌<◌, List, [], ◌∷◌, length, get_or, drop, refl, ap, ◌∙◌, arith}
use native.Mathlib.Nat.{pow-succ', div-div-eq-div-mul}
use Rattle.std.proofs.lemmas.List.{drop-drop, get_or-drop, drop_all}
use Rattle.std.specs.List.{AllByRecursion as All}
use Rattle.wire.specs.Numbers.{little, number}

pub number_little : (k n : ℕ) → n < 256 ^ k → number (little k n) ≡ n
number_little zero n h = omega arith
number_little (suc k) n h =
    let p : n < 256 * 256 ^ k = rw pow-succ' at h in
    let q : number (little k (n / 256)) ≡ n / 256 = number_little k (n / 256) (omega arith) in
    omega arith

pub little_number : (bs : List ℕ) → All (λ b. b < 256) bs → little (length bs) (number bs) ≡ bs
little_number [] s = refl
little_number (b ∷ bs) s =
    let n : ℕ = number (b ∷ bs) in
    let low : n % 256 ≡ b = omega arith in
    let high : n / 256 ≡ number bs = omega arith in
    let rest : little (length bs) (number bs) ≡ bs = little_number bs s.1 in
    let more : little (length bs) (n / 256) ≡ bs = ap (little (length bs)) high ∙ rest in
    cc

pub number_below : (bs : List ℕ) → All (λ b. b < 256) bs → number bs < 256 ^ length bs
number_below [] s = omega arith
number_below (b ∷ bs) s =
    let rest : number bs < 256 ^ length bs = number_below bs s.1 in
    rw pow-succ' (omega arith)

pub length_little : (k n : ℕ) → length (little k n) ≡ k
length_little zero n = refl
length_little (suc k) n = ap suc (length_little k (n / 256))
