-- What holds of lookups, marks and logins, in words that do not follow the steps of the definitions.
use Rattle.std.specs.Prelude.{◌≡◌, ℕ, ◌+◌, ◌<◌, ◌≤◌, Bool, true, false, ◌⊎◌, List, map, length, Some, None, Ok, Err, Decides, Option, Result, ◌≢◌, slice_index_or}
use Rattle.std.specs.List.{AllByRecursion}
use Rattle.wire.specs.declared.statuses.Status.{Status}
use Rattle.wire.specs.declared.statuses.Status.TheVariants.{Accepted}
use Rattle.account.specs.declared.rows.Row.{Row}
use Rattle.account.specs.Rows.{folded, alike, matches, found, row_at, with_mark, marking}
use Rattle.account.specs.Logins.{Asked, Check, spoken_version, checks, status_for}
use Rattle.account.specs.Fields.{good, padded}
use Rattle.account.specs.Table.{Single}

-- a row in use that matches
pub record Fits (rows : List Row) (user computer : List ℕ) (i : ℕ) : Type 0 where
  pub within : i < length rows
  pub same : matches (row_at rows i) user computer ≡ true

-- an answer to a lookup that names a row that fits, and none only where none fits; nothing is said of the order of looking
abbrev pub Finds : List Row → List ℕ → List ℕ → Option ℕ → Type 0
Finds rows user computer None =
    (k : ℕ) → k < length rows → matches (row_at rows k) user computer ≡ false
Finds rows user computer (Some i) = Fits rows user computer i

-- in a table that has no user and computer ID twice, whatever finds finds the same
abbrev pub FindsTheSame : Type 0
FindsTheSame =
    (rows : List Row) (user computer : List ℕ) (o : Option ℕ) → Single rows (length rows) →
    Finds rows user computer o → found rows user computer ≡ o

-- texts are alike just when, folded, they are the same
abbrev pub Folds : Type 0
Folds = (a b : List ℕ) → Decides (alike a b) (map folded a ≡ map folded b)

-- so capital letters do not matter in a lookup
abbrev pub FindsByFolded : Type 0
FindsByFolded =
    (rows : List Row) (u v c d : List ℕ) → map folded u ≡ map folded v →
    map folded c ≡ map folded d → found rows u c ≡ found rows v d

-- the mark of row i is what was asked for, and nothing else of it or of any other row has changed
pub record Marks (before after : List Row) (i : ℕ) (mark : Bool) : Type 0 where
  pub count : length after ≡ length before
  pub row : i < length before → row_at after i ≡ with_mark (row_at before i) mark
  pub others : (k : ℕ) → (k ≢ i) → row_at after k ≡ row_at before k

-- marking touches one row
abbrev pub MarksOneRow : Type 0
MarksOneRow = (rows : List Row) (i : ℕ) (mark : Bool) → Marks rows (marking rows i mark) i mark

-- a mark changes nothing of what is found
abbrev pub FoundAsBefore : Type 0
FoundAsBefore =
    (rows : List Row) (i : ℕ) (mark : Bool) (user computer : List ℕ) →
    found (marking rows i mark) user computer ≡ found rows user computer

-- check k of a list
abbrev pub check_at : List Check → ℕ → Check
check_at list k = slice_index_or list k (record { passes = true; status = Accepted })

-- all checks pass, and the status says so
pub record AllPass (list : List Check) (status : Status) : Type 0 where
  pub each : (j : ℕ) → j < length list → (check_at list j).passes ≡ true
  pub gives : status ≡ Accepted

-- check k is the first that fails, and the status is its own
pub record FirstFails (list : List Check) (k : ℕ) (status : Status) : Type 0 where
  pub within : k < length list
  pub before : (j : ℕ) → j < k → (check_at list j).passes ≡ true
  pub fails : (check_at list k).passes ≡ false
  pub gives : status ≡ (check_at list k).status

-- the six checks of a login by the row that is found
abbrev pub checks_of : List Row → ℕ → ℕ → Asked → List Check
checks_of rows session highest asked =
    checks rows (found rows asked.user asked.computer) session highest asked

-- the status is that of the first check that fails, and accepted where none does
abbrev pub FirstDecides : Type 0
FirstDecides = (rows : List Row) (session highest : ℕ) (asked : Asked) →
    AllPass (checks_of rows session highest asked) (status_for rows session highest asked)
    ⊎ ((k : ℕ)
    × FirstFails (checks_of rows session highest asked) k (status_for rows session highest asked))

-- a login that is right in everything, by row i
pub record Acceptable (rows : List Row) (session highest : ℕ) (asked : Asked) (i : ℕ) : Type 0 where
  pub version : asked.version ≡ spoken_version
  pub row : Fits rows asked.user asked.computer i
  pub protocol : (row_at rows i).account.protocol ≡ asked.protocol
  pub unmarked : (row_at rows i).marked ≡ false
  pub asks : (asked.session ≡ 0) ⊎ (asked.session ≡ session)
  pub reaches : asked.number ≤ highest + 1

-- just these logins are accepted
pub record Accepts (rows : List Row) (session highest : ℕ) (asked : Asked) : Type 0 where
  pub only : status_for rows session highest asked ≡ Accepted →
      (i : ℕ) × Acceptable rows session highest asked i
  pub each : (i : ℕ) → Acceptable rows session highest asked i →
      status_for rows session highest asked ≡ Accepted

abbrev pub AcceptsJustThese : Type 0
AcceptsJustThese =
    (rows : List Row) (session highest : ℕ) (asked : Asked) → Single rows (length rows) →
    Accepts rows session highest asked

-- a row that is marked lets nobody in
abbrev pub LetsInOne : Type 0
LetsInOne = (rows : List Row) (i : ℕ) (session highest : ℕ) (asked : Asked) →
    found rows asked.user asked.computer ≡ Some i →
    status_for (marking rows i true) session highest asked ≢ Accepted

-- a text that may stand in a field: 1 to its width bytes, each from ! to ~
pub record IsField (width : ℕ) (text : List ℕ) : Type 0 where
  pub some : 1 ≤ length text
  pub narrow : length text ≤ width
  pub seen : AllByRecursion (λ b. (0x21 ≤ b) × (b ≤ 0x7E)) text

-- just those are good, and padded they fill the field
pub record JudgedRight (width : ℕ) (text : List ℕ) : Type 0 where
  pub decides : Decides (good width text) (IsField width text)
  pub fills : good width text ≡ true → length (padded width text) ≡ width

abbrev pub JudgesFields : Type 0
JudgesFields = (width : ℕ) (text : List ℕ) → JudgedRight width text

-- and no two of them become the same
abbrev pub FieldsStayApart : Type 0
FieldsStayApart =
    (width : ℕ) (text other : List ℕ) → good width text ≡ true → good width other ≡ true →
    padded width text ≡ padded width other → text ≡ other

-- a login that is let in: it is right in everything, and the row that was found is marked
pub record LetIn (before after : List Row) (session highest : ℕ) (asked : Asked) (i : ℕ) :
    Type 0 where
  pub accepted : status_for before session highest asked ≡ Accepted
  pub row : found before asked.user asked.computer ≡ Some i
  pub right : Acceptable before session highest asked i
  pub marks : after ≡ marking before i true

-- a login that is turned away: the status is that of the first check that fails, and nothing changes
pub record TurnedAway (before after : List Row) (session highest : ℕ) (asked : Asked)
    (status : Status) : Type 0 where
  pub why : status_for before session highest asked ≡ status
  pub refused : status ≡ Accepted → ⊥
  pub first : (k : ℕ) × FirstFails (checks_of before session highest asked) k status
  pub same : after ≡ before

abbrev pub Admits : List Row → List Row → ℕ → ℕ → Asked → Result ℕ Status → Type 0
Admits before after session highest asked (Ok i) = LetIn before after session highest asked i
Admits before after session highest asked (Err status) =
    TurnedAway before after session highest asked status
