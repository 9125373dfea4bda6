-- Reading and writing of records undo each other.
use Rattle.std.specs.Prelude.{◌≡◌, ℕ, ◌+◌, ◌<◌, ◌≤◌, List, ◌++◌, length, drop, Ok}
use Rattle.wire.specs.Limits.{message_limit}
use Rattle.packed_messages.specs.Bytes.{Bytes}
use Rattle.logs.specs.Format.{session_record, message_record}
use Rattle.logs.specs.Reading.{session_of, message_of}

-- what was written is read, whatever stands behind it
abbrev pub SessionReadsBack : Type 0
SessionReadsBack = (s : ℕ) (rest : List ℕ) → session_of (session_record s ++ rest) ≡ Ok s

abbrev pub MessageReadsBack : Type 0
MessageReadsBack =
    (s : ℕ) (m rest : List ℕ) → 0 < s → length m ≤ message_limit →
    message_of s (message_record m ++ rest) ≡ Ok m

-- what is read was written
abbrev pub SessionWasWritten : Type 0
SessionWasWritten =
    (b : List ℕ) (s : ℕ) → Bytes b → session_of b ≡ Ok s → b ≡ session_record s ++ drop 5 b

abbrev pub MessageWasWritten : Type 0
MessageWasWritten =
    (s : ℕ) (b m : List ℕ) → Bytes b → message_of s b ≡ Ok m →
    (b ≡ message_record m ++ drop (4 + length m) b) × (length m ≤ message_limit) × (0 < s)
