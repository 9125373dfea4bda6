-- Which texts may stand in a field, and that no two become the same.
use Rattle.std.proofs.Common.{◌≡◌, ℕ, zero, suc, ◌-◌, ◌≤◌, true, ◌&&◌, leb, List, [], ◌∷◌, ◌++◌, length, replicate, Decides, refl, ap, ◌∙◌, arith}
use Rattle.std.proofs.lemmas.List.{length-replicate, length-append}
use Rattle.std.proofs.ByRecursion.{Decides-by_and}
use Rattle.std.proofs.lemmas.Bool.{and_from, and_parts, leb-true, le-leb}
use Rattle.account.specs.Laws.{IsField, JudgesFields, FieldsStayApart}
use Rattle.account.specs.Fields.{visible, all_visible, good}

visible_decides : (b : ℕ) → Decides (visible b) ((0x21 ≤ b) × (b ≤ 0x7E))
visible_decides b = (
  (λ e. let p = and_parts (leb 0x21 b) (leb b 0x7E) e in (leb-true _ _ p.0, leb-true _ _ p.1)),
  (λ h. and_from _ _ (le-leb _ _ h.0) (le-leb _ _ h.1)),
)

good_is_field : (width : ℕ) (text : List ℕ) → good width text ≡ true → IsField width text
good_is_field width text e =
    let p = and_parts (leb 1 (length text)) (leb (length text) width && all_visible text) e in
    let q = and_parts (leb (length text) width) (all_visible text) p.1 in
    record { some = leb-true _ _ p.0; narrow = leb-true _ _ q.0; seen = (Decides-by_and visible (λ b. (0x21 ≤ b) × (b ≤ 0x7E)) all_visible visible_decides refl (λ _ _. refl) text).0 q.1 }

pub judges_fields : JudgesFields
judges_fields width text = record {
  decides = (
    good_is_field width text,
    (λ f. and_from _ _ (le-leb _ _ f.some) (and_from _ _ (le-leb _ _ f.narrow) ((Decides-by_and visible (λ b. (0x21 ≤ b) × (b ≤ 0x7E)) all_visible visible_decides refl (λ _ _. refl) text).1 f.seen))),
  );
  fills = λ e. let f = good_is_field width text e in simp (length-append, length-replicate) (omega (arith, f.narrow));
}

-- what is visible ends where the spaces begin
ends_alike : (m n : ℕ) (xs ys : List ℕ) → all_visible xs ≡ true → all_visible ys ≡ true → xs ++ replicate m 0x20 ≡ ys ++ replicate n 0x20 → xs ≡ ys
ends_alike m n [] [] a b e = refl
ends_alike zero n [] (y ∷ ys) a b e = let z : ◌≡◌ {A = ℕ} 0 1 = cc in absurd (omega arith)
ends_alike (suc m) n [] (y ∷ ys) a b e =
    let h : 0x20 ≡ y = cc in
    absurd (let s = leb-true 0x21 y (and_parts (leb 0x21 y) (leb y 0x7E) (and_parts (visible y) (all_visible ys) b).0).0 in omega arith)
ends_alike m zero (x ∷ xs) [] a b e = let z : ◌≡◌ {A = ℕ} 0 1 = cc in absurd (omega arith)
ends_alike m (suc n) (x ∷ xs) [] a b e =
    let h : x ≡ 0x20 = cc in
    absurd (let s = leb-true 0x21 x (and_parts (leb 0x21 x) (leb x 0x7E) (and_parts (visible x) (all_visible xs) a).0).0 in omega arith)
ends_alike m n (x ∷ xs) (y ∷ ys) a b e =
    let h : x ≡ y = cc in
    let r : xs ++ replicate m 0x20 ≡ ys ++ replicate n 0x20 = cc in
    ap (λ (z : ℕ). z ∷ xs) h ∙ ap (λ (zs : List ℕ). y ∷ zs) (ends_alike m n xs ys (and_parts (visible x) (all_visible xs) a).1 (and_parts (visible y) (all_visible ys) b).1 r)

all_seen : (width : ℕ) (text : List ℕ) → good width text ≡ true → all_visible text ≡ true
all_seen width text e = (and_parts (leb (length text) width) (all_visible text) (and_parts (leb 1 (length text)) (leb (length text) width && all_visible text) e).1).1

pub fields_stay_apart : FieldsStayApart
fields_stay_apart width text other e f same =
    ends_alike (width - length text) (width - length other) text other (all_seen width text e) (all_seen width other f) same
