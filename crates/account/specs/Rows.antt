-- The rows of the account table: how one is found, and how one is marked.
use Rattle.std.specs.Prelude.{ℕ, ◌+◌, Bool, true, false, cond, ◌&&◌, List, [], ◌∷◌, Option, ◌==◌, nat_le, slice_index_or, slice_set}
use Rattle.std.specs.List.{position_from}
use Rattle.account.specs.declared.rows.Row.{Row}

-- A to Z become a to z, and every other byte stays
abbrev pub folded : ℕ → ℕ
folded b = cond (nat_le 0x41 b && nat_le b 0x5A) (b + 0x20) b

-- two texts are as long as each other and, folded, the same byte by byte
abbrev pub alike : List ℕ → List ℕ → Bool
alike [] [] = true
alike [] (y ∷ ys) = false
alike (x ∷ xs) [] = false
alike (x ∷ xs) (y ∷ ys) = folded x == folded y && alike xs ys

-- a row is the one of a user and a computer
abbrev pub matches : Row → List ℕ → List ℕ → Bool
matches row user computer = alike row.account.user user && alike row.account.computer computer

-- the first row that matches, counted from n
abbrev pub found_from : ℕ → List Row → List ℕ → List ℕ → Option ℕ
found_from n rows user computer = position_from (λ (row : Row). matches row user computer) n rows

abbrev pub found : List Row → List ℕ → List ℕ → Option ℕ
found rows user computer = found_from 0 rows user computer

-- what stands for a row that is not there
abbrev pub no_row : Row
no_row = record { account = record { user = []; computer = []; protocol = [] }; marked = false }

abbrev pub row_at : List Row → ℕ → Row
row_at rows i = slice_index_or rows i no_row

abbrev pub with_mark : Row → Bool → Row
with_mark row mark = record row { marked = mark }

-- the rows with the mark of row i set or taken away; no other row changes
abbrev pub marking : List Row → ℕ → Bool → List Row
marking rows i mark = slice_set rows i (with_mark (row_at rows i) mark)
