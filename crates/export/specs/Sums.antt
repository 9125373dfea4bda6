-- Sums that depend on all that they were made of, and on its order.
use Rattle.std.specs.Prelude.{ℕ, ◌+◌, ◌*◌, ◌%◌, ◌^◌, List, length, take, fold, cond, nat_le}
use Rattle.wire.specs.Numbers.{number}

-- the sum with a number more in it
abbrev pub mixed : ℕ → ℕ → ℕ
mixed sum x = (sum * 1099511628211 + x) % 2 ^ 64

-- the sum with these numbers in it, one after the other
abbrev pub mixed_bytes : ℕ → List ℕ → ℕ
mixed_bytes sum xs = fold mixed sum xs

-- the number in the first eight bytes; of fewer bytes, how many there are
abbrev pub word_of : List ℕ → ℕ
word_of bytes = cond (nat_le 8 (length bytes)) (number (take 8 bytes)) (length bytes)
