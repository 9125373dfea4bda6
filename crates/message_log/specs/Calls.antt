-- What each call on a log answers, and what the log and the buffer hold then.
use Rattle.std.specs.Prelude.{◌≡◌, ℕ, ◌+◌, ◌-◌, Bool, true, false, cond, ◌&&◌, List, length, Ok, Err, Result, ◌==◌, nat_le, nat_lt}
use Rattle.std.specs.Borrow.{Bor}
use Rattle.wire.specs.declared.refusals.Refusal.{Refusal}
use Rattle.wire.specs.declared.refusals.Refusal.TheVariants.{MessageTooLong, SessionZero, NoSuchMessage, ShortBuffer, LogFull, NoSession}
use Rattle.wire.specs.Overlay.{laid}
use Rattle.wire.specs.Limits.{message_limit}
use Rattle.message_log.specs.Meaning.{Meaning, room, nth, count}

-- the answer to a message of n bytes, by the session, the room, the slots left and the overhead
abbrev pub verdict : ℕ → ℕ → ℕ → ℕ → ℕ → Result (Unit {0}) Refusal
verdict s free left over n =
    cond (nat_lt message_limit n) (Err MessageTooLong)
    (cond (nat_lt free (n + over)) (Err LogFull)
    (cond (left == 0) (Err LogFull)
    (cond (s == 0) (Err NoSession) (Ok tt))))

-- whether a log takes a message of n bytes, and if not why
abbrev pub takes : Meaning → ℕ → Result (Unit {0}) Refusal
takes l n = verdict l.session (room l) (l.places - count l) l.overhead n

-- whether session s can be begun
abbrev pub begins : ℕ → Result (Unit {0}) Refusal
begins s = cond (s == 0) (Err SessionZero) (Ok tt)

-- what a call leaves: the new where it was granted, the old where it was refused
abbrev pub settled : {X T : Type 0} → Result T Refusal → X → X → X
settled (Ok x) new old = new
settled (Err e) new old = old

-- whether there is a message n
abbrev pub has : Meaning → ℕ → Bool
has l n = nat_le 1 n && nat_le n (count l)

-- the length of message n
abbrev pub measured : Meaning → ℕ → Result ℕ Refusal
measured l n = cond (has l n) (Ok (length (nth l n))) (Err NoSuchMessage)

-- a message of n bytes is to stand in a buffer of b
abbrev pub placed_in : ℕ → ℕ → Result ℕ Refusal
placed_in b n = cond (nat_le n b) (Ok n) (Err ShortBuffer)

-- message n is read into a buffer of b bytes
abbrev pub reads : Meaning → ℕ → ℕ → Result ℕ Refusal
reads l n b = cond (has l n) (placed_in b (length (nth l n))) (Err NoSuchMessage)

-- message m is laid at the front of a buffer, whose rest stays
abbrev pub fronted : List ℕ → List ℕ → List ℕ
fronted m buf = laid buf 0 m

-- a log that keeps its messages in memory lends message n
abbrev pub Lent : Meaning → ℕ → Result (Bor (List ℕ)) Refusal → Type 0
Lent l n (Ok m) = (has l n ≡ true) × (m.now ≡ nth l n)
Lent l n (Err e) = (has l n ≡ false) × (e ≡ NoSuchMessage)
