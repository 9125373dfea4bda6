-- The full sizes that a line may have, and the lengths of the pieces in which bytes go through it.
use Rattle.std.specs.Prelude.{ℕ, ◌≤◌}
use Rattle.wire.specs.Limits.{packet_limit}

abbrev pub smallest_size : ℕ
smallest_size = packet_limit

abbrev pub largest_size : ℕ
largest_size = 1048576

abbrev pub LineSize : ℕ → Type 0
LineSize n = (smallest_size ≤ n) × (n ≤ largest_size)

abbrev pub PieceLength : ℕ → Type 0
PieceLength n = (1 ≤ n) × (n ≤ packet_limit)
