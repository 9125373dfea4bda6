-- A ring of bytes as a line.
use Rattle.std.specs.Prelude.{◌≡◌, ℕ, ◌+◌, ◌-◌, ◌<◌, ◌≤◌, List, ◌++◌, length, take, drop}
use Rattle.wire.specs.Limits.{packet_limit}
use Rattle.line.specs.Lines.{LineView}
use Rattle.wire.specs.Overlay.{laid}
use Rattle.line.specs.Sizes.{LineSize}

-- The bytes from `start` on, round the end: what a reader sees who goes along the memory twice.
abbrev pub ringed : List ℕ → ℕ → ℕ → List ℕ
ringed memory start count = take count (drop start (memory ++ memory))

-- What waits begins inside the ring and is at most once round.
abbrev pub InRing : ℕ → ℕ → ℕ → Type 0
InRing size start count = (start < size) × (count ≤ size) × LineSize size

-- The meaning of a ring: the room is the size less what waits, the limit is the longest packet.
abbrev pub ring_view : List ℕ → ℕ → ℕ → ℕ → LineView
ring_view memory size start count =
    record {
      waiting = ringed memory start count;
      room = size - count;
      full = size;
      limit = packet_limit;
    }

-- Every byte that was taken is room again at once: the room is what does not wait.
abbrev pub FreesAtOnce : LineView → Type 0
FreesAtOnce v = v.room + length v.waiting ≡ v.full

-- The offset r lies so many bytes on from `at`, round the end.
pub record Onward (at by size r : ℕ) : Type 0 where
  pub near : at + by < size → r ≡ at + by
  pub far : size ≤ at + by → r + size ≡ at + by

-- The memory after a piece was laid from `at` on, round the end.
pub record LaidRound (memory : List ℕ) (at : ℕ) (piece after : List ℕ) : Type 0 where
  pub near : at + length piece ≤ length memory → after ≡ laid memory at piece
  pub far : length memory < at + length piece →
      let ahead = length memory - at in
      after ≡ laid (laid memory at (take ahead piece)) 0 (drop ahead piece)
