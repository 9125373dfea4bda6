-- The bytes that a frame holds.
use Rattle.std.specs.Prelude.{◌≡◌, ℕ, ◌+◌, ◌-◌, List, length, take, drop, Ok, Err, Result}
use Rattle.std.specs.declared.io.Error.{Error}

-- those of its memory from one offset up to another
abbrev pub window : List ℕ → ℕ → ℕ → List ℕ
window memory from to = take (to - from) (drop from memory)

-- so many bytes came behind those that were held; which ones, the input decides
pub record Grown (old new : List ℕ) (count : ℕ) : Type 0 where
  pub kept : take (length old) new ≡ old
  pub more : length new ≡ length old + count

abbrev pub Filled : List ℕ → List ℕ → Result ℕ Error → Type 0
Filled old new (Ok count) = Grown old new count
Filled old new (Err fault) = new ≡ old
