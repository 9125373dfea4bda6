-- The limits of messages and packets. The longest message decides the others.
use Rattle.std.specs.Prelude.{ℕ, ◌+◌}

-- the longest message
abbrev pub message_limit : ℕ
message_limit = 4096

-- the largest length number: letter, sequence number, longest message
abbrev pub length_limit : ℕ
length_limit = message_limit + 9

-- the longest packet: the length number's two bytes, and what they count
abbrev pub packet_limit : ℕ
packet_limit = length_limit + 2
