-- What stands at the front of some bytes: a record, or what is wrong there. What is wrong is judged in the order in
-- which the faults are listed.
use Rattle.std.specs.Prelude.{ℕ, ◌+◌, Bool, cond, ◌&&◌, List, [], ◌∷◌, length, take, drop, Some, None, Ok, Err, Option, Result, ◌==◌, nat_lt, slice_index}
use Rattle.std.specs.Borrow.{Bor}
use Rattle.wire.specs.Limits.{message_limit}
use Rattle.wire.specs.Numbers.{number}
use Rattle.logs.specs.declared.records.Mark.{Mark}
use Rattle.logs.specs.declared.records.Mark.TheVariants.{Session, Message}
use Rattle.logs.specs.declared.records.RecordFault.{RecordFault}
use Rattle.logs.specs.declared.records.RecordFault.TheVariants.{CutShort, UnknownMark, BadSession, MessageTooLong, NoSession}
use Rattle.logs.specs.Format.{mark_bytes}

-- two bytes write this mark
abbrev pub is_mark : Mark → ℕ → ℕ → Bool
is_mark mark x y = x == slice_index (mark_bytes mark) 0 && y == slice_index (mark_bytes mark) 1

abbrev pub mark_of : ℕ → ℕ → Result Mark RecordFault
mark_of x y =
    cond (is_mark Session x y) (Ok Session)
    (cond (is_mark Message x y) (Ok Message) (Err UnknownMark))

-- the length that a record's head says
abbrev pub length_of : List ℕ → ℕ
length_of b = number (slice_index b 2 ∷ slice_index b 3 ∷ [])

abbrev pub body_of : List ℕ → List ℕ
body_of b = take (length_of b) (drop 4 b)

-- the session that a record holds
abbrev pub session_in : Mark → List ℕ → Result ℕ RecordFault
session_in Session [] = Err BadSession
session_in Session (s ∷ []) = Ok s
session_in Session (s ∷ t ∷ more) = Err BadSession
session_in Message body = Err BadSession

-- the message that a record holds, under session s
abbrev pub message_in : ℕ → Mark → List ℕ → Result (List ℕ) RecordFault
message_in s Session body = Err BadSession
message_in s Message body =
    cond (nat_lt message_limit (length body)) (Err MessageTooLong)
    (cond (s == 0) (Err NoSession) (Ok body))

abbrev pub marked : {X : Type 0} → Result Mark RecordFault → (Mark → Result X RecordFault) →
    Result X RecordFault
marked (Ok mark) held = held mark
marked (Err f) held = Err f

-- the record at the front, handed on with its mark and its body
abbrev pub framed : {X : Type 0} → List ℕ → (Mark → List ℕ → Result X RecordFault) →
    Result X RecordFault
framed b held =
    cond (nat_lt (length b) 4) (Err CutShort)
    (cond (nat_lt (length b) (4 + length_of b)) (Err CutShort)
    (marked (mark_of (slice_index b 0) (slice_index b 1)) (λ mark. held mark (body_of b))))

-- the session record at the front; where there are no bytes it is missing
abbrev pub session_of : List ℕ → Result ℕ RecordFault
session_of b = cond (length b == 0) (Err BadSession) (framed b session_in)

-- the message record at the front, under session s
abbrev pub message_of : ℕ → List ℕ → Result (List ℕ) RecordFault
message_of s b = framed b (message_in s)

-- what a slice that is lent holds
abbrev pub held : Result (Bor (List ℕ)) RecordFault → Result (List ℕ) RecordFault
held (Ok m) = Ok m.now
held (Err f) = Err f

abbrev pub fault_in : {X : Type 0} → Result X RecordFault → Option RecordFault
fault_in (Ok x) = None
fault_in (Err f) = Some f

-- what is wrong with the record at a place of a saved log; past the session record, the session is byte 4
abbrev pub fault_at : List ℕ → ℕ → Option RecordFault
fault_at b place =
    cond (place == 0) (fault_in (session_of b))
    (cond (nat_lt (length b) 5) None
    (cond (nat_lt (length b) place) None (fault_in (message_of (slice_index b 4) (drop place b)))))
