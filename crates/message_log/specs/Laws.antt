-- What the answers say in the words of a log.
use Rattle.std.specs.Prelude.{◌≡◌, ℕ, ◌+◌, ◌<◌, ◌≤◌, ◌⊎◌, length, Ok, Err}
use Rattle.wire.specs.declared.refusals.Refusal.TheVariants.{MessageTooLong, LogFull, NoSession}
use Rattle.wire.specs.Limits.{message_limit}
use Rattle.message_log.specs.Meaning.{Meaning, room, count, nth}
use Rattle.message_log.specs.Calls.{takes, measured}

-- a message is short enough, has room and a slot, and there is a session
pub record Fit (l : Meaning) (n : ℕ) : Type 0 where
  pub short : n ≤ message_limit
  pub roomy : n + l.overhead ≤ room l
  pub placed : count l < l.places
  pub session : 0 < l.session

-- a message is taken just when it fits
abbrev pub TakenJustWhen : Type 0
TakenJustWhen =
    (l : Meaning) (n : ℕ) → (Fit l n → takes l n ≡ Ok tt) × (takes l n ≡ Ok tt → Fit l n)

-- too long is reported before full, and full before no session
abbrev pub RefusedInOrder : Type 0
RefusedInOrder = (l : Meaning) (n : ℕ) →
    (message_limit < n → takes l n ≡ Err MessageTooLong)
    × (n ≤ message_limit → (room l < n + l.overhead) ⊎ (l.places ≤ count l) →
    takes l n ≡ Err LogFull)
    × (n ≤ message_limit → n + l.overhead ≤ room l → count l < l.places → l.session ≡ 0 →
    takes l n ≡ Err NoSession)

-- the messages are those from 1 to the count
abbrev pub NumberedFrom1 : Type 0
NumberedFrom1 =
    (l : Meaning) (n : ℕ) → (1 ≤ n → n ≤ count l → measured l n ≡ Ok (length (nth l n)))
    × (measured l n ≡ Ok (length (nth l n)) → (1 ≤ n) × (n ≤ count l))
