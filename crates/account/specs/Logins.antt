-- The login decision: an ordered list of checks, the first of which to fail gives the status.
use Rattle.std.specs.Prelude.{ℕ, ◌+◌, Bool, true, false, cond, not, ◌||◌, List, [], ◌∷◌, Some, None, Ok, Err, Option, Result, ◌==◌, nat_le}
use Rattle.std.specs.Str.{bytes_eq}
use Rattle.wire.specs.declared.statuses.Status.{Status}
use Rattle.wire.specs.declared.statuses.Status.TheVariants.{Accepted, UnknownUser, SessionUnavailable, InvalidNumber, WrongVersion, WrongProtocol, AlreadyLoggedIn}
use Rattle.account.specs.declared.rows.Row.{Row}
use Rattle.account.specs.Rows.{found, row_at}

-- what a login request asks
pub record Asked : Type 0 where
  pub version : List ℕ
  pub user : List ℕ
  pub computer : List ℕ
  pub protocol : List ℕ
  -- 0 asks for the session that is running
  pub session : ℕ
  -- the first sequence number wanted; 0 asks for new messages only
  pub number : ℕ

-- the version of the session protocol that is spoken here: 1.1, padded with spaces
abbrev pub spoken_version : List ℕ
spoken_version = 0x31 ∷ 0x2E ∷ 0x31 ∷ 0x20 ∷ 0x20 ∷ []

-- a check: whether it passes, and the status of a login that fails it
pub record Check : Type 0 where
  pub passes : Bool
  pub status : Status

-- what is so of the row that was found; of none, nothing is
abbrev pub of_row : Option ℕ → (ℕ → Bool) → Bool
of_row None test = false
of_row (Some i) test = test i

-- the protocol of row i is the one asked for
abbrev pub speaks : List Row → ℕ → Asked → Bool
speaks rows i asked = bytes_eq (row_at rows i).account.protocol asked.protocol

-- the session asked for is the one that is running, by its number or by 0
abbrev pub asks_for : ℕ → Asked → Bool
asks_for session asked = asked.session == 0 || (asked.session == session)

-- the six checks of a login by the row found, in their order; the hub's log has that session and highest number
abbrev pub checks : List Row → Option ℕ → ℕ → ℕ → Asked → List Check
checks rows row session highest asked =
    record { passes = bytes_eq asked.version spoken_version; status = WrongVersion }
    ∷ record { passes = of_row row (λ i. true); status = UnknownUser }
    ∷ record { passes = of_row row (λ i. speaks rows i asked); status = WrongProtocol }
    ∷ record { passes = of_row row (λ i. not (row_at rows i).marked); status = AlreadyLoggedIn }
    ∷ record { passes = asks_for session asked; status = SessionUnavailable }
    ∷ record { passes = nat_le asked.number (highest + 1); status = InvalidNumber }
    ∷ []

-- the status of the first check that fails, and accepted where none does
abbrev pub first_failing : List Check → Status
first_failing [] = Accepted
first_failing (check ∷ rest) = cond check.passes (first_failing rest) check.status

abbrev pub status_for : List Row → ℕ → ℕ → Asked → Status
status_for rows session highest asked =
    first_failing (checks rows (found rows asked.user asked.computer) session highest asked)

-- the status that a login is answered by which row it is let in, or why it is not
abbrev pub status_of : Result ℕ Status → Status
status_of (Ok row) = Accepted
status_of (Err status) = status
