-- The message that a receive names in a frame.
use Rattle.std.specs.Prelude.{◌≡◌, ℕ, ◌+◌, ◌<◌, ◌≤◌, List, length, take, drop, Some, None, Option}
use Rattle.std.specs.Borrow.{Bor}

-- the bytes of a frame from this offset on, so many; they are lent where they lie in the frame
abbrev pub Lends : List ℕ → ℕ → ℕ → Option (Bor (List ℕ)) → Type 0
Lends frame offset long (Some m) = (offset + long ≤ length frame) × (m.now ≡ take long (drop offset frame))
Lends frame offset long None = length frame < offset + long
