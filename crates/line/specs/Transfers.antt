-- What a transfer between two lines does.
use Rattle.std.specs.Prelude.{◌≡◌, ℕ, ◌≤◌, min, List, [], ◌++◌, length, drop, Ok, Err, Result}
use Rattle.wire.specs.declared.refusals.Refusal.{Refusal}
use Rattle.wire.specs.declared.refusals.Refusal.TheVariants.{ShortBuffer}
use Rattle.line.specs.Lines.{LineView, joined}

-- n bytes went from the line v to the line d, which are w and e then. What moved, followed by what stayed,
-- is what waited, and what moved stands behind what waited at the other end.
pub record Moved (v d : LineView) (n : ℕ) (w e : LineView) : Type 0 where
  pub moved : List ℕ
  pub count : length moved ≡ n
  pub whole : moved ++ w.waiting ≡ v.waiting
  pub there : e ≡ joined d moved
  pub fits : n ≤ d.room
  pub room : v.room ≤ w.room
  pub full : w.full ≡ v.full
  pub limit : w.limit ≡ v.limit

-- The part of a buffer that no take can reach stays.
abbrev pub Scratch : LineView → List ℕ → List ℕ → Type 0
Scratch v buffer after =
    (length after ≡ length buffer)
    × (drop (min (length buffer) v.limit) after ≡ drop (min (length buffer) v.limit) buffer)

-- The two lines of a transfer, and the buffer between them.
pub record Transfer : Type 0 where
  pub from : LineView
  pub to : LineView
  pub buffer : List ℕ

abbrev pub transfer_of : LineView → LineView → List ℕ → Transfer
transfer_of from to buffer = record { from = from; to = to; buffer = buffer }

-- As much goes as waits and as there is room for. The front of the buffer, as far as one take can reach, is
-- free afterwards. A refused transfer changes nothing.
abbrev pub Transfers : Transfer → Result ℕ Refusal → Transfer → Type 0
Transfers before (Ok n) after =
    (1 ≤ length before.buffer)
    × Moved before.from before.to n after.from after.to
    × (n ≡ min (length before.from.waiting) before.to.room)
    × Scratch before.from before.buffer after.buffer
Transfers before (Err r) after = (before.buffer ≡ []) × (r ≡ ShortBuffer) × (after ≡ before)
