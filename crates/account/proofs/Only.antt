-- What a lookup finds, and that it is the only row that matches.
use Rattle.std.proofs.Common.{◌≡◌, ℕ, zero, suc, ◌+◌, ◌<◌, Bool, true, false, ◌&&◌, ◌↔◌, IsTrue, eqb, List, [], ◌∷◌, map, length, Some, None, Decides, Option, sym, refl, ap, ◌∙◌, subst, inl, inr, arith}
use Rattle.std.specs.Char.{to_ascii_lowercase}
use Rattle.std.specs.Str.{bytes_eq}
use Rattle.std.proofs.lemmas.Bool.Decides.{nat_tests}
use Rattle.std.proofs.lemmas.Slice.Eq.{bytes_eq-Decides}
use Rattle.std.proofs.lemmas.Bool.{cases_Bool, cases_order, cond-true, cond-false, and_parts, and_from, eqb-true, eq-eqb, both_ways}
use Rattle.account.specs.declared.rows.Row.{Row}
use Rattle.account.specs.Rows.{folded, alike, matches, found, found_from, row_at}
use Rattle.account.specs.Table.{Single}
use Rattle.account.specs.Laws.{Fits, Finds, FindsTheSame, Folds, FindsByFolded}

pub alike_both : (a b u : List ℕ) → alike a u ≡ true → alike b u ≡ true → alike a b ≡ true
alike_both [] [] u e f = refl
alike_both [] (y ∷ b) [] e f = f
alike_both [] (y ∷ b) (z ∷ u) e f = absurd (both_ways _ refl e)
alike_both (x ∷ a) [] [] e f = e
alike_both (x ∷ a) [] (z ∷ u) e f = f
alike_both (x ∷ a) (y ∷ b) [] e f = absurd (both_ways _ refl e)
alike_both (x ∷ a) (y ∷ b) (z ∷ u) e f =
    let p = and_parts (eqb (folded x) (folded z)) (alike a u) e in
    let q = and_parts (eqb (folded y) (folded z)) (alike b u) f in
    and_from _ _ (eq-eqb _ _ (eqb-true _ _ p.0 ∙ sym (eqb-true _ _ q.0))) (alike_both a b u p.1 q.1)

pub matches_both : (r s : Row) (user computer : List ℕ) → matches r user computer ≡ true → matches s user computer ≡ true → matches r s.account.user s.account.computer ≡ true
matches_both r s user computer e f =
    let p = and_parts (alike r.account.user user) (alike r.account.computer computer) e in
    let q = and_parts (alike s.account.user user) (alike s.account.computer computer) f in
    and_from _ _ (alike_both _ _ user p.0 q.0) (alike_both _ _ computer p.1 q.1)

found_fits : (n : ℕ) (rows : List Row) (user computer : List ℕ) (i : ℕ) → found_from n rows user computer ≡ Some i → (j : ℕ) × (i ≡ n + j) × Fits rows user computer j
found_fits n [] user computer i e = absurd (let z : ◌≡◌ {A = ℕ} 0 1 = cc in omega arith)
found_fits n (row ∷ rows) user computer i e =
    elim (cases_Bool (matches row user computer)) [
      | inl t ↦ (let h : Some n ≡ Some i = sym (cond-true _ _ _ t) ∙ e in let k : n ≡ i = cc in (0, omega arith, record { within = omega arith; same = t }))
      | inr f ↦ (let r = found_fits (n + 1) rows user computer i (sym (cond-false _ _ _ f) ∙ e) in (suc r.0, omega arith, record { within = omega (arith, r.2.within); same = r.2.same }))
    ]

found_misses : (n : ℕ) (rows : List Row) (user computer : List ℕ) → found_from n rows user computer ≡ None → (k : ℕ) → k < length rows → matches (row_at rows k) user computer ≡ false
found_misses n [] user computer e k h = absurd (omega arith)
found_misses n (row ∷ rows) user computer e zero h =
    elim (cases_Bool (matches row user computer)) [ inl t ↦ absurd (let x : Some n ≡ None = sym (cond-true _ _ _ t) ∙ e in let z : ◌≡◌ {A = ℕ} 0 1 = cc in omega arith) | inr f ↦ f ]
found_misses n (row ∷ rows) user computer e (suc k) h =
    elim (cases_Bool (matches row user computer)) [
      | inl t ↦ absurd (let x : Some n ≡ None = sym (cond-true _ _ _ t) ∙ e in let z : ◌≡◌ {A = ℕ} 0 1 = cc in omega arith)
      | inr f ↦ found_misses (n + 1) rows user computer (sym (cond-false _ _ _ f) ∙ e) k (omega arith)
    ]

pub missed : (rows : List Row) (user computer : List ℕ) → found rows user computer ≡ None → (k : ℕ) → k < length rows → matches (row_at rows k) user computer ≡ false
missed rows user computer e = found_misses 0 rows user computer e

pub fits : (rows : List Row) (user computer : List ℕ) (i : ℕ) → found rows user computer ≡ Some i → Fits rows user computer i
fits rows user computer i e =
    let r = found_fits 0 rows user computer i e in
    let same : r.0 ≡ i = omega (arith, r.1) in
    subst (Fits rows user computer) same r.2

pub finds : (rows : List Row) (user computer : List ℕ) (o : Option ℕ) → o ≡ found rows user computer → Finds rows user computer o
finds rows user computer None e = missed rows user computer (sym e)
finds rows user computer (Some i) e = fits rows user computer i (sym e)

apart : (rows : List Row) (user computer : List ℕ) (i j : ℕ) → Single rows (length rows) → Fits rows user computer i → Fits rows user computer j → i < j → ⊥
apart rows user computer i j single p q lt =
    both_ways _ (single i j (lt, q.within)) (matches_both (row_at rows i) (row_at rows j) user computer p.same q.same)

pub only : (rows : List Row) (user computer : List ℕ) (i j : ℕ) → Single rows (length rows) → Fits rows user computer i → Fits rows user computer j → i ≡ j
only rows user computer i j single p q =
    elim (cases_order i j) [
      | inl e ↦ e
      | inr r ↦ elim r [ inl lt ↦ absurd (apart rows user computer i j single p q lt) | inr gt ↦ absurd (apart rows user computer j i single q p gt) ]
    ]

pub finds_the_same : FindsTheSame
finds_the_same rows user computer o single h = agree (found rows user computer) o refl h
  where
    agree : (f o : Option ℕ) → f ≡ found rows user computer → Finds rows user computer o → f ≡ o
    agree None None e h = refl
    agree None (Some i) e h = absurd (both_ways _ (missed rows user computer (sym e) i h.within) h.same)
    agree (Some j) None e h = absurd (let p = fits rows user computer j (sym e) in both_ways _ (h j p.within) p.same)
    agree (Some j) (Some i) e h = ap Some (only rows user computer j i single (fits rows user computer j (sym e)) h)

alike_folded : (a b : List ℕ) → alike a b ≡ bytes_eq (map folded a) (map folded b)
alike_folded [] [] = refl
alike_folded [] (y ∷ b) = refl
alike_folded (x ∷ a) [] = refl
alike_folded (x ∷ a) (y ∷ b) = ap (λ (t : Bool). eqb (folded x) (folded y) && t) (alike_folded a b)

pub folds : Folds
folds a b = subst (λ (t : Bool). Decides t (map folded a ≡ map folded b)) (sym (alike_folded a b)) (bytes_eq-Decides (map folded a) (map folded b))

-- the library's word for it
lowered : (b : ℕ) → to_ascii_lowercase b ≡ folded b
lowered b = grind (arith, nat_tests)

all_lowered : (a : List ℕ) → map to_ascii_lowercase a ≡ map folded a
all_lowered [] = refl
all_lowered (x ∷ xs) = cc (lowered x, all_lowered xs)

-- tests that pass together are the same
agree : (s t : Bool) → (s ≡ true → t ≡ true) → (t ≡ true → s ≡ true) → s ≡ t
agree true t f g = sym (f refl)
agree false true f g = g refl
agree false false f g = refl

pub alike_as_lowered : (a b : List ℕ) (r : Bool) → IsTrue r ↔ (map to_ascii_lowercase a ≡ map to_ascii_lowercase b) → r ≡ alike a b
alike_as_lowered a b r d =
    agree r (alike a b) (λ t. (folds a b).1 (sym (all_lowered a) ∙ d.0 t ∙ all_lowered b)) (λ t. d.1 (all_lowered a ∙ (folds a b).0 t ∙ sym (all_lowered b)))

alike_same : (a u v : List ℕ) → map folded u ≡ map folded v → alike a u ≡ alike a v
alike_same a u v e = alike_folded a u ∙ ap (bytes_eq (map folded a)) e ∙ sym (alike_folded a v)

found_same : (n : ℕ) (rows : List Row) (u v c d : List ℕ) → map folded u ≡ map folded v → map folded c ≡ map folded d → found_from n rows u c ≡ found_from n rows v d
found_same n [] u v c d e f = refl
found_same n (row ∷ rows) u v c d e f =
    rw (alike_same row.account.user u v e, alike_same row.account.computer c d f, found_same (n + 1) rows u v c d e f)

pub finds_by_folded : FindsByFolded
finds_by_folded rows u v c d e f = found_same 0 rows u v c d e f
