-- The first check that fails, and what it means that none does.
use Rattle.std.proofs.Common.{◌≡◌, ℕ, zero, suc, ◌<◌, true, eqb, ◌⊎◌, List, [], ◌∷◌, length, Some, None, Option, sym, refl, ap, ◌∙◌, subst, inl, inr, arith}
use Rattle.std.specs.List.{AllByRecursion as All}
use Rattle.std.proofs.lemmas.Slice.Eq.{bytes_eq-Decides}
use Rattle.std.proofs.lemmas.Bool.{cases_Bool, cond-true, cond-false, both_ways, not-true, not_from_false, or_cases, or_left, or_right, eqb-true, eq-eqb, leb-true, le-leb}
use Rattle.wire.specs.declared.statuses.Status.{Status}
use Rattle.wire.specs.declared.statuses.Status.TheVariants.{Accepted}
use Rattle.account.specs.declared.rows.Row.{Row}
use Rattle.account.specs.Rows.{found, row_at, marking}
use Rattle.account.specs.Logins.{Asked, Check, spoken_version, checks, first_failing, status_for}
use Rattle.account.specs.Laws.{AllPass, FirstFails, check_at, checks_of, FirstDecides, Acceptable, AcceptsJustThese, TurnedAway, LetsInOne}
use Rattle.account.proofs.Only.{fits, finds_the_same}
use Rattle.account.proofs.Marking.{found_as_before, marks_one_row}

ahead : (check : Check) (rest : List Check) (k : ℕ) → check.passes ≡ true → ((j : ℕ) → j < k → (check_at rest j).passes ≡ true) → (j : ℕ) → j < suc k → (check_at (check ∷ rest) j).passes ≡ true
ahead check rest k t each zero h = t
ahead check rest k t each (suc j) h = each j (omega arith)

pub decided : (list : List Check) → AllPass list (first_failing list) ⊎ ((k : ℕ) × FirstFails list k (first_failing list))
decided [] = inl (record { each = λ j h. absurd (omega arith); gives = refl })
decided (check ∷ rest) =
    elim (cases_Bool check.passes) [
      | inl t ↦ (let e : first_failing (check ∷ rest) ≡ first_failing rest = cond-true _ _ _ t in
          elim (decided rest) [
            | inl p ↦ inl (record { each = ahead check rest (length rest) t p.each; gives = e ∙ p.gives })
            | inr f ↦ inr (suc f.0, record { within = omega (arith, f.1.within); before = ahead check rest f.0 t f.1.before; fails = f.1.fails; gives = e ∙ f.1.gives })
          ])
      | inr f ↦ inr (0, record { within = omega arith; before = λ j h. absurd (omega arith); fails = f; gives = cond-false _ _ _ f })
    ]

pub first_decides : FirstDecides
first_decides rows session highest asked = decided (checks_of rows session highest asked)

-- no check gives the status that it was passed
refusing : (rows : List Row) (o : Option ℕ) (session highest : ℕ) (asked : Asked) (k : ℕ) → k < 6 → (check_at (checks rows o session highest asked) k).status ≡ Accepted → ⊥
refusing rows o session highest asked zero h e = let z : ◌≡◌ {A = ℕ} 0 1 = cc in omega arith
refusing rows o session highest asked (suc zero) h e = let z : ◌≡◌ {A = ℕ} 0 1 = cc in omega arith
refusing rows o session highest asked (suc (suc zero)) h e = let z : ◌≡◌ {A = ℕ} 0 1 = cc in omega arith
refusing rows o session highest asked (suc (suc (suc zero))) h e = let z : ◌≡◌ {A = ℕ} 0 1 = cc in omega arith
refusing rows o session highest asked (suc (suc (suc (suc zero)))) h e = let z : ◌≡◌ {A = ℕ} 0 1 = cc in omega arith
refusing rows o session highest asked (suc (suc (suc (suc (suc zero))))) h e = let z : ◌≡◌ {A = ℕ} 0 1 = cc in omega arith
refusing rows o session highest asked (suc (suc (suc (suc (suc (suc k)))))) h e = omega arith

pub all_pass : (rows : List Row) (session highest : ℕ) (asked : Asked) → status_for rows session highest asked ≡ Accepted → (j : ℕ) → j < 6 → (check_at (checks_of rows session highest asked) j).passes ≡ true
all_pass rows session highest asked e =
    elim (first_decides rows session highest asked) [
      | inl p ↦ p.each
      | inr f ↦ absurd (refusing rows (found rows asked.user asked.computer) session highest asked f.0 f.1.within (sym f.1.gives ∙ e))
    ]

-- what it means to pass all six by row i
right_by : (rows : List Row) (session highest : ℕ) (asked : Asked) (i : ℕ) → found rows asked.user asked.computer ≡ Some i → ((j : ℕ) → j < 6 → (check_at (checks rows (Some i) session highest asked) j).passes ≡ true) → Acceptable rows session highest asked i
right_by rows session highest asked i e each = record {
  version = (bytes_eq-Decides asked.version spoken_version).0 (each 0 (omega arith));
  row = fits rows asked.user asked.computer i e;
  protocol = (bytes_eq-Decides (row_at rows i).account.protocol asked.protocol).0 (each 2 (omega arith));
  unmarked = not-true (row_at rows i).marked (each 3 (omega arith));
  asks = elim (or_cases (eqb asked.session 0) (eqb asked.session session) (each 4 (omega arith))) [ inl z ↦ inl (eqb-true _ _ z) | inr z ↦ inr (eqb-true _ _ z) ];
  reaches = leb-true _ _ (each 5 (omega arith));
}

pub right : (rows : List Row) (session highest : ℕ) (asked : Asked) → status_for rows session highest asked ≡ Accepted → (i : ℕ) → found rows asked.user asked.computer ≡ Some i → Acceptable rows session highest asked i
right rows session highest asked accepted i e =
    right_by rows session highest asked i e (subst (λ (o : Option ℕ). (j : ℕ) → j < 6 → (check_at (checks rows o session highest asked) j).passes ≡ true) e (all_pass rows session highest asked accepted))

rows_known : (rows : List Row) (session highest : ℕ) (asked : Asked) (o : Option ℕ) → o ≡ found rows asked.user asked.computer → ((j : ℕ) → j < 6 → (check_at (checks rows o session highest asked) j).passes ≡ true) → (i : ℕ) × (found rows asked.user asked.computer ≡ Some i)
rows_known rows session highest asked None e each = absurd (both_ways _ refl (each 1 (omega arith)))
rows_known rows session highest asked (Some i) e each = (i, sym e)

passing : (list : List Check) → All (λ (check : Check). check.passes ≡ true) list → first_failing list ≡ Accepted
passing [] a = refl
passing (check ∷ rest) (t, a) = cond-true _ _ _ t ∙ passing rest a

accepted_by : (rows : List Row) (session highest : ℕ) (asked : Asked) (i : ℕ) → Acceptable rows session highest asked i → first_failing (checks rows (Some i) session highest asked) ≡ Accepted
accepted_by rows session highest asked i a =
    passing (checks rows (Some i) session highest asked) (
      (bytes_eq-Decides asked.version spoken_version).1 a.version,
      (
        refl,
        (
          (bytes_eq-Decides (row_at rows i).account.protocol asked.protocol).1 a.protocol,
          (
            not_from_false (row_at rows i).marked a.unmarked,
            (
              elim a.asks [ inl z ↦ or_left _ _ (eq-eqb _ _ z) | inr z ↦ or_right _ _ (eq-eqb _ _ z) ],
              (
                le-leb _ _ a.reaches,
                tt,
              ),
            ),
          ),
        ),
      ),
    )

pub accepts_just_these : AcceptsJustThese
accepts_just_these rows session highest asked single = record {
  only = λ accepted. let k = rows_known rows session highest asked (found rows asked.user asked.computer) refl (all_pass rows session highest asked accepted) in (k.0, right rows session highest asked accepted k.0 k.1);
  each = λ i a. ap (λ (o : Option ℕ). first_failing (checks rows o session highest asked)) (finds_the_same rows asked.user asked.computer (Some i) single a.row) ∙ accepted_by rows session highest asked i a;
}

pub turned_away : (rows : List Row) (session highest : ℕ) (asked : Asked) (status : Status) → status ≡ status_for rows session highest asked → (status ≡ Accepted → ⊥) → TurnedAway rows rows session highest asked status
turned_away rows session highest asked status why refused = record {
  why = sym why;
  refused = refused;
  first = elim (first_decides rows session highest asked) [
    | inl p ↦ absurd (refused (why ∙ p.gives))
    | inr f ↦ (f.0, record { within = f.1.within; before = f.1.before; fails = f.1.fails; gives = why ∙ f.1.gives })
  ];
  same = refl;
}

pub lets_in_one : LetsInOne
lets_in_one rows i session highest asked here accepted =
    let again : found (marking rows i true) asked.user asked.computer ≡ Some i = found_as_before rows i true asked.user asked.computer ∙ here in
    let unmarked = (right (marking rows i true) session highest asked accepted i again).unmarked in
    let marked = ap (λ (row : Row). row.marked) ((marks_one_row rows i true).row (fits rows asked.user asked.computer i here).within) in
    both_ways _ unmarked marked
