-- A run of bytes, and a piece laid over a part of it.
use Rattle.std.specs.Prelude.{ℕ, ◌+◌, cond, List, ◌++◌, length, take, drop, nat_le}

-- The bytes after a piece was written over them from `at` on.
abbrev pub laid : List ℕ → ℕ → List ℕ → List ℕ
laid bytes at piece = take at bytes ++ (piece ++ drop (length piece) (drop at bytes))

-- The same where the piece fits; one that does not fit is not written.
abbrev pub overlaid : List ℕ → ℕ → List ℕ → List ℕ
overlaid bytes at piece =
    cond (nat_le (at + length piece) (length bytes)) (laid bytes at piece) bytes
