-- Worked examples: what a lookup finds, and how logins are decided.
use Rattle.std.specs.Prelude.{◌≡◌, ℕ, true, false, List, [], ◌∷◌, Some, None, codes, Option}
use Rattle.std.specs.List.{AllByRecursion}
use Rattle.wire.specs.declared.statuses.Status.{Status}
use Rattle.wire.specs.declared.statuses.Status.TheVariants.{Accepted, UnknownUser, SessionUnavailable, InvalidNumber, WrongVersion, WrongProtocol, AlreadyLoggedIn}
use Rattle.account.specs.declared.fields.Account.{Account}
use Rattle.account.specs.declared.rows.Row.{Row}
use Rattle.account.specs.Rows.{found}
use Rattle.account.specs.Logins.{Asked, status_for, spoken_version}

-- a user at the one computer of the table
abbrev pub desk1 : List ℕ → Account
desk1 user = record { user = user; computer = codes "DESK1   "; protocol = codes "FILL1.0 " }

-- a table of two rows, the second of which is marked
abbrev pub table : List Row
table =
    record { account = desk1 (codes "mm01 "); marked = false }
    ∷ record { account = desk1 (codes "mm02 "); marked = true }
    ∷ []

-- a login of a user at that computer
abbrev pub login : List ℕ → ℕ → ℕ → Asked
login user session number =
    let account = desk1 user in
    record {
      version = spoken_version;
      user = account.user;
      computer = account.computer;
      protocol = account.protocol;
      session = session;
      number = number;
    }

abbrev pub old_version : Asked → Asked
old_version asked = record asked { version = codes "1.0  " }

abbrev pub other_protocol : Asked → Asked
other_protocol asked = record asked { protocol = codes "fill1.0 " }

pub data AccountExample : Type 0 where
  -- a user and a computer ID, and the row that is found
  lookup : List ℕ → List ℕ → Option ℕ → AccountExample
  -- a login at a hub in session 7 that holds three messages, and its status
  decision : Asked → Status → AccountExample

abbrev pub Holds : AccountExample → Type 0
Holds (lookup user computer row) = found table user computer ≡ row
Holds (decision asked status) = status_for table 7 3 asked ≡ status

abbrev pub examples : List AccountExample
examples =
    -- mm01 is found by MM01, and by no shorter and no other text
    lookup (codes "MM01 ") (codes "desk1   ") (Some 0)
    ∷ lookup (codes "MM01") (codes "DESK1   ") None
    ∷ lookup (codes "MM03 ") (codes "DESK1   ") None
    -- three messages are held: number 4 is accepted, and 5 is not
    ∷ decision (login (codes "mm01 ") 0 4) Accepted
    ∷ decision (login (codes "mm01 ") 0 5) InvalidNumber
    -- the session that is running may be asked for by 0 and by its number
    ∷ decision (login (codes "mm01 ") 7 0) Accepted
    ∷ decision (login (codes "mm01 ") 6 0) SessionUnavailable
    -- the first check that fails decides: the mark before the session, the user before the number
    ∷ decision (login (codes "MM02 ") 6 5) AlreadyLoggedIn
    ∷ decision (login (codes "mm03 ") 6 5) UnknownUser
    ∷ decision (old_version (login (codes "mm03 ") 0 0)) WrongVersion
    ∷ decision (other_protocol (login (codes "mm02 ") 0 0)) WrongProtocol
    ∷ []

abbrev pub ExamplesHold : Type 0
ExamplesHold = AllByRecursion Holds examples
