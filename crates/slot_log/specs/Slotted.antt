-- What slots mean: the first ones hold the messages, each up to its length.
use Rattle.std.specs.Prelude.{◌≡◌, ℕ, ◌+◌, ◌*◌, ◌/◌, ◌≤◌, cond, List, map, length, take, Ok, Err, ◌==◌}
use Rattle.wire.specs.declared.refusals.Refusal.TheVariants.{LogFull, NoSession}
use Rattle.wire.specs.Limits.{message_limit}
use Rattle.message_log.specs.Meaning.{Meaning, size_limit, count}
use Rattle.message_log.specs.Calls.{takes}
use Rattle.slot_log.specs.declared.slot.Slot.{Slot}

-- the most slots
abbrev pub slot_limit : ℕ
slot_limit = size_limit / message_limit

-- the message in a slot
abbrev pub held : Slot → List ℕ
held s = take s.length s.bytes

-- The log that the first n slots hold. The size is that of all slots, a message takes nothing beside its bytes, and
-- each has a slot of its own.
abbrev pub slotted : ℕ → List Slot → ℕ → Meaning
slotted session slots n =
    record {
      session = session;
      messages = map held (take n slots);
      size = length slots * message_limit;
      overhead = 0;
      places = length slots;
    }

-- So many slots are left. A message that is not too long is taken just while there is one, and a session: the room
-- refuses none.
pub record Left (l : Meaning) (left : ℕ) : Type 0 where
  pub slots : count l + left ≡ l.places
  pub answer : (n : ℕ) → n ≤ message_limit →
      takes l n ≡ cond (left == 0) (Err LogFull) (cond (l.session == 0) (Err NoSession) (Ok tt))
