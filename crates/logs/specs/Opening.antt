-- What opening a saved log answers.
use Rattle.std.specs.Prelude.{◌≡◌, ℕ, ◌<◌, ◌≤◌, Bool, true, false, ◌&&◌, List, [], length, take, drop, Err, nat_le, slice_index_or}
use Rattle.wire.specs.declared.refusals.Refusal.{Refusal}
use Rattle.wire.specs.declared.refusals.Refusal.TheVariants.{SizeOutOfRange, BrokenLog}
use Rattle.wire.specs.Limits.{message_limit}
use Rattle.message_log.specs.Meaning.{Meaning}
use Rattle.packed_messages.specs.Packed.{parts, Rising}
use Rattle.logs.specs.declared.records.RecordFault.{RecordFault}
use Rattle.logs.specs.Format.{saved}
use Rattle.logs.specs.Reading.{session_of, message_of}
use Rattle.logs.specs.Layout.{makes, gap, journal, walked, Indexes}

-- what a log can hold: no message is too long, and there is none under session 0
pub record Savable (s : ℕ) (ms : List (List ℕ)) : Type 0 where
  pub short : (k : ℕ) → length (slice_index_or ms k []) ≤ message_limit
  pub silent : s ≡ 0 → ms ≡ []

-- the bytes are broken at a place: what stands before it is a saved log, and what stands there is no record
-- that may stand there
pub data Broken (bytes : List ℕ) : ℕ → Type 0 where
  front : (f : RecordFault) → session_of bytes ≡ Err f → Broken bytes 0
  later : (s : ℕ) (ms : List (List ℕ)) (place : ℕ) (f : RecordFault) → Savable s ms →
      take place bytes ≡ saved s ms → place < length bytes →
      message_of s (drop place bytes) ≡ Err f → Broken bytes place

-- the bytes hold records to their end: so many messages under the session given, with an index of the first
pub record Scanned (bytes : List ℕ) (session count : ℕ) (index : List ℕ) : Type 0 where
  pub form : bytes ≡ saved session (parts bytes (walked bytes) gap count)
  pub last : walked bytes count ≡ length bytes
  pub rising : Rising (walked bytes) gap count
  pub silent : session ≡ 0 → count ≡ 0
  pub indexed : Indexes bytes index count

-- whether memory of n bytes can have so many in use
abbrev pub opens : ℕ → ℕ → Bool
opens n used = makes n && nat_le used n

-- why a journal is not opened: want of memory is no reason
abbrev pub Unopened : List ℕ → ℕ → Refusal → Type 0
Unopened mem used SizeOutOfRange = opens (length mem) used ≡ false
Unopened mem used (BrokenLog place) =
    (opens (length mem) used ≡ true) × Broken (take used mem) place
Unopened mem used other = ⊥

-- what opens is a journal of this memory whose saved form is the bytes in use
pub record Opened (mem : List ℕ) (used : ℕ) (l : Meaning) : Type 0 where
  pub sizes : opens (length mem) used ≡ true
  pub made : l ≡ journal (length mem) l.session l.messages
  pub form : take used mem ≡ saved l.session l.messages
