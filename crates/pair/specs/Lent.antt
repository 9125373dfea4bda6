-- The buffers that the calls of a pair are lent.
use Rattle.std.specs.Prelude.{ℕ, Bool, ◌||◌, replicate}
use Rattle.rules.specs.State.{Buffers}
use Rattle.rules.specs.Rounds.{too_short}

-- whether one of them cannot hold the longest packet
abbrev pub any_short : Buffers → Bool
any_short b = too_short b.hub_frame || (too_short b.seat_frame || too_short b.out)

-- buffers of these lengths, of zeros
abbrev pub blank : ℕ → ℕ → ℕ → Buffers
blank hub_frame seat_frame out = record { hub_frame = replicate hub_frame 0; seat_frame = replicate seat_frame 0; out = replicate out 0 }
