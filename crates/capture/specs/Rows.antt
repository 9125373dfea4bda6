-- A row of bytes as people read it: two digits and a space for each byte, then the bytes that are visible ASCII between
-- two bars, with a full stop for any other.
use Rattle.std.specs.Prelude.{ℕ, ◌+◌, ◌-◌, ◌/◌, ◌%◌, cond, ◌&&◌, List, [], ◌∷◌, ◌++◌, map, length, replicate, nat_le, nat_lt}
use Rattle.std.specs.List.{flat_map}

-- 0 to 9, A to F
abbrev pub digit_of : ℕ → ℕ
digit_of n = cond (nat_lt n 10) (0x30 + n) (0x37 + n)

abbrev pub hex_of : ℕ → List ℕ
hex_of b = digit_of (b / 16) ∷ digit_of (b % 16) ∷ 0x20 ∷ []

abbrev pub readable_of : ℕ → ℕ
readable_of b = cond (nat_le 0x20 b && nat_le b 0x7E) b 0x2E

-- the hex column of a full row, of 16 bytes
abbrev pub hex_width : ℕ
hex_width = 48

-- filled up with spaces
abbrev pub padded : List ℕ → List ℕ
padded xs = xs ++ replicate (hex_width - length xs) 0x20

abbrev pub row_of : List ℕ → List ℕ
row_of bytes = (padded (flat_map hex_of bytes) ++ 0x7C ∷ []) ++ (map readable_of bytes ++ 0x7C ∷ [])
