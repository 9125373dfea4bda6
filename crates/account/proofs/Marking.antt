-- Rows that are marked, and a row that joins.
use Rattle.std.proofs.Common.{◌≡◌, ℕ, zero, suc, ◌+◌, ◌-◌, ◌<◌, ◌≤◌, Bool, false, cond, ◌≢◌, List, [], ◌∷◌, length, take, drop, set, replicate, Some, None, sym, refl, ap, ◌∙◌, inl, inr, arith, length-drop}
use Rattle.std.proofs.lemmas.List.{get_or-take, get_or-set_same, get_or-set_other, length-set, length-take-le, drop-drop}
use Rattle.std.proofs.lemmas.Bool.{cases_lt}
use Rattle.account.specs.declared.rows.Row.{Row}
use Rattle.account.specs.Rows.{matches, found, found_from, row_at, no_row, with_mark, marking}
use Rattle.account.specs.Table.{Whole, blank, in_use, Single}
use Rattle.account.specs.Laws.{MarksOneRow, FoundAsBefore}
use Rattle.account.proofs.Only.{missed}

take_of_set : {X : Type 0} (n : ℕ) (xs : List X) (i : ℕ) (x : X) → take n (set xs i x) ≡ set (take n xs) i x
take_of_set zero xs i x = refl
take_of_set (suc n) [] i x = refl
take_of_set (suc n) (y ∷ xs) zero x = refl
take_of_set (suc n) (y ∷ xs) (suc i) x = ap (λ zs. y ∷ zs) (take_of_set n xs i x)

pub mark_in_use : (rows : List Row) (n i : ℕ) (mark : Bool) → i < n → in_use (set rows i (with_mark (row_at rows i) mark)) n ≡ marking (in_use rows n) i mark
mark_in_use rows n i mark lt =
    take_of_set n rows i (with_mark (row_at rows i) mark) ∙ ap (λ (row : Row). set (take n rows) i (with_mark row mark)) (sym (get_or-take n rows i no_row lt))

-- the rows in use are as single as the table
pub in_use_single : (rows : List Row) (n : ℕ) → n ≤ length rows → Single rows n → Single (in_use rows n) (length (in_use rows n))
in_use_single rows n within single i j (lt, below) =
    let count = length-take-le n rows within in
    rw (get_or-take n rows i no_row (omega arith), get_or-take n rows j no_row (omega arith)) (single i j (lt, omega arith))

pub drop_of_set : {X : Type 0} (n : ℕ) (xs : List X) (i : ℕ) (x : X) → i < n → drop n (set xs i x) ≡ drop n xs
drop_of_set zero xs i x h = absurd (omega arith)
drop_of_set (suc n) [] i x h = refl
drop_of_set (suc n) (y ∷ xs) zero x h = refl
drop_of_set (suc n) (y ∷ xs) (suc i) x h = drop_of_set n xs i x (omega arith)

-- one row more is in use: the rest stays blank
pub joins_blank : (rows : List Row) (n : ℕ) (row : Row) → n < 8 → drop n rows ≡ replicate (8 - n) blank → drop (n + 1) (set rows n row) ≡ replicate (8 - (n + 1)) blank
joins_blank rows n row within rest =
    let k : 8 - n ≡ suc (8 - (n + 1)) = omega arith in
    let one : n + 1 ≡ n + 1 = refl in
    drop_of_set (n + 1) rows n row (omega arith)
    ∙ sym (drop-drop 1 n rows)
    ∙ ap (drop 1) (rest ∙ ap (λ m. replicate m blank) k)

-- what the rows in use and the free ones are together
pub whole_in_use : (rows : List Row) (n : ℕ) → length rows ≡ 8 → n ≤ 8 → Single rows n → drop n rows ≡ replicate (8 - n) blank → Whole (record { rows = in_use rows n; free = drop n rows })
whole_in_use rows n eight within single rest =
    let k : length (drop n rows) ≡ 8 - n = length-drop n rows ∙ ap (λ m. m - n) eight in
    record {
      blank_rest = rest ∙ ap (λ m. replicate m blank) (sym k);
      eight = omega (arith, length-take-le n rows (omega arith), length-drop n rows);
      single = in_use_single rows n (omega arith) single;
    }

-- a row that matches none of those in use can stand behind them
pub joins_single : (rows : List Row) (n : ℕ) (row : Row) → n < length rows → Single rows n → found (in_use rows n) row.account.user row.account.computer ≡ None → Single (set rows n row) (n + 1)
joins_single rows n row within single none i j (lt, below) =
    elim (cases_lt j n) [ inl before ↦ early before | inr at ↦ last (omega arith) ]
  where
    apart : (k : ℕ) → k < n → row_at (set rows n row) k ≡ row_at rows k
    apart k h = let ne : k ≢ n = omega arith in get_or-set_other rows n k row no_row ne

    early : j < n → matches (row_at (set rows n row) i) (row_at (set rows n row) j).account.user (row_at (set rows n row) j).account.computer ≡ false
    early h = rw (apart i (omega arith), apart j h) (single i j (lt, h))

    last : j ≡ n → matches (row_at (set rows n row) i) (row_at (set rows n row) j).account.user (row_at (set rows n row) j).account.computer ≡ false
    last e =
        let new : row_at (set rows n row) j ≡ row = ap (row_at (set rows n row)) e ∙ get_or-set_same rows n row no_row within in
        let old : row_at (set rows n row) i ≡ row_at (in_use rows n) i = apart i (omega arith) ∙ sym (get_or-take n rows i no_row (omega arith)) in
        rw (old, new) (missed (in_use rows n) row.account.user row.account.computer none i (omega (arith, length-take-le n rows (omega arith))))

pub marks_one_row : MarksOneRow
marks_one_row rows i mark = record {
  count = length-set rows i (with_mark (row_at rows i) mark);
  row = λ within. get_or-set_same rows i (with_mark (row_at rows i) mark) no_row within;
  others = λ k ne. get_or-set_other rows i k (with_mark (row_at rows i) mark) no_row ne;
}

found_marked : (n : ℕ) (rows : List Row) (i : ℕ) (mark : Bool) (user computer : List ℕ) → found_from n (marking rows i mark) user computer ≡ found_from n rows user computer
found_marked n [] i mark user computer = refl
found_marked n (row ∷ rows) zero mark user computer = refl
found_marked n (row ∷ rows) (suc i) mark user computer = ap (cond (matches row user computer) (Some n)) (found_marked (n + 1) rows i mark user computer)

pub found_as_before : FoundAsBefore
found_as_before rows i mark user computer = found_marked 0 rows i mark user computer
