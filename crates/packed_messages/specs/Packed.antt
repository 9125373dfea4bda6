-- Messages as the parts of one run of bytes between one edge and the next, each behind a gap.
--
--     edge 0         edge 1         edge 2            edge n
--      | gap | m1 | gap |  m2   | ..  | gap | mn |  free ..
use Rattle.std.specs.Prelude.{◌≡◌, ℕ, suc, ◌+◌, ◌-◌, ◌<◌, ◌≤◌, List, ◌∷◌, length, map, take, cond, Ok, Err, Result, slice_index}
use Rattle.std.specs.List.{range_with_len, between}
use Rattle.wire.specs.declared.refusals.Refusal.{Refusal}
use Rattle.wire.specs.declared.refusals.Refusal.TheVariants.{NoSuchMessage}
use Rattle.wire.specs.Limits.{message_limit}
use Rattle.wire.specs.Overlay.{laid}
use Rattle.message_log.specs.Meaning.{Meaning, size_limit, taken}
use Rattle.message_log.specs.Calls.{verdict, has}

-- a run of bytes with messages in it
pub record Packed : Type 0 where
  pub memory : List ℕ
  -- how far it is used
  pub used : ℕ
  pub count : ℕ
  -- how many messages there can be
  pub slots : ℕ
  -- 0 for none
  pub session : ℕ

abbrev pub run_of : List ℕ → ℕ → ℕ → ℕ → ℕ → Packed
run_of memory used count slots session =
    record { memory = memory; used = used; count = count; slots = slots; session = session }

-- the numbers that such a run may have, whose first message lies behind `base` bytes
pub record InRange (base : ℕ) (v : Packed) : Type 0 where
  pub large : base ≤ v.used
  pub within : v.used ≤ length v.memory
  pub small : length v.memory ≤ size_limit
  pub placed : v.count ≤ v.slots
  pub few : v.slots ≤ size_limit
  pub silent : v.session ≡ 0 → v.count ≡ 0

-- message k, from 0
abbrev pub part : List ℕ → (ℕ → ℕ) → ℕ → ℕ → List ℕ
part memory at gap k = between (at k + gap) (at (suc k)) memory

-- the first n messages
abbrev pub parts : List ℕ → (ℕ → ℕ) → ℕ → ℕ → List (List ℕ)
parts memory at gap n = map (part memory at gap) (range_with_len 0 n)

-- from one edge to the next there is the gap and a message that is not too long
abbrev pub Rising : (ℕ → ℕ) → ℕ → ℕ → Type 0
Rising at gap n = (k : ℕ) → k < n → (at k + gap ≤ at (suc k)) × (at (suc k) ≤ at k + gap + message_limit)

-- the messages lie between these edges, from the base on as far as the run is used
pub record Edges (base gap : ℕ) (v : Packed) (at : ℕ → ℕ) : Type 0 where
  pub first : at 0 ≡ base
  pub last : at v.count ≡ v.used
  pub rising : Rising at gap v.count

-- edge 0 is the base, and edge k + 1 is entry k of a table of ends
abbrev pub edge : ℕ → List ℕ → ℕ → ℕ
edge base ends k = slice_index (base ∷ ends) k

-- the log of the messages between these edges: its size is what lies behind the base
abbrev pub kept : ℕ → ℕ → Packed → (ℕ → ℕ) → Meaning
kept base gap v at =
    record {
      session = v.session;
      messages = parts v.memory at gap v.count;
      size = length v.memory - base;
      overhead = gap;
      places = v.slots;
    }

-- where message n begins with its gap: behind the base and the messages before it
abbrev pub offset_of : ℕ → Meaning → ℕ → Result ℕ Refusal
offset_of base l n =
    cond (has l n) (Ok (base + taken l.overhead (take (n - 1) l.messages))) (Err NoSuchMessage)

-- whether a message of n bytes is taken, and if not why
abbrev pub judged : ℕ → Packed → ℕ → Result (Unit {0}) Refusal
judged gap v n = verdict v.session (length v.memory - v.used) (v.slots - v.count) gap n

-- other bytes before the first message
abbrev pub fronted_by : List ℕ → Packed → Packed
fronted_by front v = record v { memory = laid v.memory 0 front }

-- a session is begun, behind these bytes
abbrev pub restarted : ℕ → ℕ → List ℕ → Packed → Packed
restarted base session front v =
    record (fronted_by front v) { used = base; count = 0; session = session }

-- one message more, laid with its gap behind those that there are
abbrev pub extended : List ℕ → Packed → Packed
extended piece v =
    record v { memory = laid v.memory v.used piece; used = v.used + length piece; count = v.count + 1 }
