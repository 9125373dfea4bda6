-- A journal: a log whose bytes in use are its saved form.
--
--     0            5                    edge 1                      used
--     | session 7  | 4D 47 length  m1   | 4D 47 length  m2  | ..     |  free ..
use Rattle.std.specs.Prelude.{◌≡◌, ℕ, zero, suc, ◌+◌, ◌-◌, ◌/◌, ◌≤◌, Bool, ◌&&◌, ◌⊎◌, List, [], ◌∷◌, ◌++◌, length, take, drop, Result, nat_le}
use Rattle.wire.specs.declared.refusals.Refusal.{Refusal}
use Rattle.message_log.specs.Meaning.{Meaning, size_limit}
use Rattle.packed_messages.specs.Packed.{Packed, edge, parts, kept, offset_of as offset_behind}
use Rattle.logs.specs.Format.{saved}
use Rattle.logs.specs.Reading.{length_of}

-- the session record
abbrev pub base : ℕ
base = 5

-- what a message takes beside its bytes: mark and length
abbrev pub gap : ℕ
gap = 4

-- whether a journal can be made of n bytes
abbrev pub makes : ℕ → Bool
makes n = nat_le base n && nat_le n size_limit

abbrev pub size_of : ℕ → ℕ
size_of n = n - base

-- as many as there can be empty messages
abbrev pub slots_of : ℕ → ℕ
slots_of n = size_of n / gap

-- a journal of n bytes with session s and the messages ms
abbrev pub journal : ℕ → ℕ → List (List ℕ) → Meaning
journal n s ms =
    record { session = s; messages = ms; size = size_of n; overhead = gap; places = slots_of n }

-- where the record of message n begins: behind the session record and the records before it
abbrev pub offset_of : Meaning → ℕ → Result ℕ Refusal
offset_of l n = offset_behind base l n

-- where the record at an offset ends: its head says how long its body is
abbrev pub record_end : List ℕ → ℕ → ℕ
record_end memory at = at + gap + length_of (drop at memory)

-- where record k ends, from 0 where the session record does: by the heads of the records alone
abbrev pub walked : List ℕ → ℕ → ℕ
walked memory zero = base
walked memory (suc k) = record_end memory (walked memory k)

-- the log that the records hold
abbrev pub recorded : Packed → Meaning
recorded v = kept base gap v (walked v.memory)

-- a slot for each message that there can be
abbrev pub Slotted : Packed → Type 0
Slotted v = v.slots ≡ slots_of (length v.memory)

-- the bytes in use are the saved form of what the records hold
abbrev pub Formed : Packed → Type 0
Formed v =
    take v.used v.memory ≡ saved v.session (parts v.memory (walked v.memory) gap v.count)

-- the index has where the first records end, of n at most
abbrev pub Indexes : List ℕ → List ℕ → ℕ → Type 0
Indexes memory index n =
    (length index ≤ n) × ((k : ℕ) → k ≤ length index → edge base index k ≡ walked memory k)

-- where one more record ends is noted behind the n before it, or not
abbrev pub Notes : List ℕ → ℕ → ℕ → List ℕ → Type 0
Notes old n end new = ((length old ≡ n) × (new ≡ old ++ end ∷ [])) ⊎ (new ≡ old)
