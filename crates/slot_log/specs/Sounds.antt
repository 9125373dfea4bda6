-- Every log of slots is a sound log.
use Rattle.std.specs.Prelude.{ℕ, zero, suc, ◌+◌, ◌*◌, ◌≤◌, List, [], ◌∷◌, map, length, take, slice_index_or}
use Rattle.std.proofs.Common.{ap, arith, length-take}
use Rattle.std.proofs.lemmas.List.{length-map}
use Rattle.std.proofs.lemmas.List.Sums.{sum_by-cons}
use Rattle.wire.specs.Limits.{message_limit}
use Rattle.message_log.specs.Meaning.{taken, Sound}
use Rattle.packed_messages.specs.Bytes.{Bytes}
use Rattle.packed_messages.proofs.Runs.{bytes_take}
use Rattle.slot_log.specs.Slotted.{held, slotted}
use Rattle.slot_log.specs.declared.Slots.{Slots}
use Rattle.slot_log.specs.declared.slot.Slot.{Slot}

-- each message takes one slot at most
pub taken_held : (xs : List Slot) → taken 0 (map held xs) ≤ length xs * message_limit
taken_held [] = omega arith
taken_held (x ∷ xs) =
    let front = length-take x.length x.bytes in
    let rest = taken_held xs in
    let both = sum_by-cons (λ m. length m + 0) (held x) (map held xs) in
    omega arith

short_held : (xs : List Slot) (k : ℕ) → length (slice_index_or (map held xs) k []) ≤ message_limit
short_held [] k = omega arith
short_held (x ∷ xs) zero = let front = length-take x.length x.bytes in omega arith
short_held (x ∷ xs) (suc k) = short_held xs k

bytes_held : (xs : List Slot) (k : ℕ) → Bytes (slice_index_or (map held xs) k [])
bytes_held [] k i = omega arith
bytes_held (x ∷ xs) zero i = bytes_take x.length x.bytes x.of_bytes i
bytes_held (x ∷ xs) (suc k) i = bytes_held xs k i

pub slots_sound : (s : Slots) → Sound (slotted s.session s.slots.items s.count)
slots_sound s =
    let some = take s.count s.slots.items in
    let count = length-map some held in
    let front = length-take s.count s.slots.items in
    let all = taken_held some in
    record {
      fits = omega arith;
      placed = omega arith;
      short = short_held some;
      bytes = bytes_held some;
      byte = omega arith;
      silent = λ e. ap (λ n. map held (take n s.slots.items)) (s.silent e);
      size_within = omega arith;
      overhead_limit = omega arith;
      places_within = omega arith;
    }
