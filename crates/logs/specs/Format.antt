-- The form in which a log is saved: records, one behind the other.
--
--     mark      length          body
--     2 bytes | 2, low first  | as many bytes as the length says
--
-- The first record, marked 42 53, holds the session in one byte; each other, marked 4D 47, holds a message.
use Rattle.std.specs.Prelude.{ℕ, List, [], ◌∷◌, ◌++◌, length}
use Rattle.std.specs.List.{flat_map}
use Rattle.wire.specs.Numbers.{little}
use Rattle.logs.specs.declared.records.Mark.{Mark}
use Rattle.logs.specs.declared.records.Mark.TheVariants.{Session, Message}

abbrev pub mark_bytes : Mark → List ℕ
mark_bytes Session = 0x42 ∷ 0x53 ∷ []
mark_bytes Message = 0x4D ∷ 0x47 ∷ []

-- mark and length
abbrev pub head_of : Mark → ℕ → List ℕ
head_of mark n = mark_bytes mark ++ little 2 n

abbrev pub session_record : ℕ → List ℕ
session_record s = head_of Session 1 ++ s ∷ []

abbrev pub message_record : List ℕ → List ℕ
message_record m = head_of Message (length m) ++ m

-- the log of session s with the messages ms
abbrev pub saved : ℕ → List (List ℕ) → List ℕ
saved s ms = session_record s ++ flat_map message_record ms
