-- The account table: the rows in use, and how one joins them.
use Rattle.std.specs.Prelude.{◌≡◌, ℕ, ◌+◌, ◌<◌, Bool, true, false, cond, List, [], ◌∷◌, ◌++◌, length, take, replicate, is_some, Ok, Err, Result, nat_lt}
use Rattle.wire.specs.declared.refusals.Refusal.{Refusal}
use Rattle.wire.specs.declared.refusals.Refusal.TheVariants.{AccountTaken}
use Rattle.account.specs.declared.fields.Account.{Account}
use Rattle.account.specs.declared.rows.Row.{Row}
use Rattle.account.specs.Rows.{matches, found, row_at}
use Rattle.account.specs.Fields.{account_of}

-- a table means the rows in use, and those that are free
pub record Table : Type 0 where
  pub rows : List Row
  pub free : List Row

-- the rows in use are the first so many of its eight
abbrev pub in_use : List Row → ℕ → List Row
in_use rows count = take count rows

-- no user and computer ID stand in two rows: of the first so many rows, none matches a later one
abbrev pub Single : List Row → ℕ → Type 0
Single rows count =
    (i j : ℕ) → (i < j) × (j < count) →
    matches (row_at rows i) (row_at rows j).account.user (row_at rows j).account.computer ≡ false

-- a row that is not in use: spaces, and no mark
abbrev pub blank : Row
blank =
    record {
      account = record { user = replicate 5 0x20; computer = replicate 8 0x20; protocol = replicate 8 0x20 };
      marked = false;
    }

-- what holds of every table: it has eight rows, those not in use are blank, and a user and a computer ID stand
-- in one of those in use at most
pub record Whole (t : Table) : Type 0 where
  pub eight : length t.rows + length t.free ≡ 8
  pub blank_rest : t.free ≡ replicate (length t.free) blank
  pub single : Single t.rows (length t.rows)

-- the row of an account that nobody is logged in by
abbrev pub fresh : Account → Row
fresh account = record { account = account; marked = false }

-- whether there is no room for an account: eight rows are in use, or one that matches
abbrev pub taken : List Row → Account → Bool
taken rows account =
    cond (nat_lt (length rows) 8) (is_some (found rows account.user account.computer)) true

-- the row that joins, or the refusal
abbrev pub placed : List Row → Result Account Refusal → Result Row Refusal
placed rows (Err refusal) = Err refusal
placed rows (Ok account) = cond (taken rows account) (Err AccountTaken) (Ok (fresh account))

abbrev pub joining : List Row → List ℕ → List ℕ → List ℕ → Result Row Refusal
joining rows user computer protocol = placed rows (account_of user computer protocol)

-- what is answered, and which rows are in use then: a refusal changes nothing, and a new row stands at the end
abbrev pub index_of : List Row → Result Row Refusal → Result ℕ Refusal
index_of rows (Ok row) = Ok (length rows)
index_of rows (Err refusal) = Err refusal

abbrev pub joined : List Row → Result Row Refusal → List Row
joined rows (Ok row) = rows ++ (row ∷ [])
joined rows (Err refusal) = rows
