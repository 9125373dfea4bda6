-- How a rehearsal counts its calls.
use Rattle.std.specs.Prelude.{ℕ, ◌+◌, ◌-◌, ◌^◌, min, slice_index, slice_set, replicate, Some, None, Option}
use Rattle.wire.specs.declared.refusals.Refusal.{Refusal}
use Rattle.wire.specs.Refusals.{number}
use Rattle.rehearsal.specs.declared.sums.Sums.{Sums}

-- one more, up to the largest count
abbrev pub raised : ℕ → ℕ
raised n = min (n + 1) (2 ^ 64 - 1)

-- before the first call
abbrev pub uncounted : Sums
uncounted = record { calls = 0; refused = 0; by_number = replicate 32 0 }

-- one call more, and why it was refused, if it was
abbrev pub counted : Sums → Option Refusal → Sums
counted s None = record { calls = raised s.calls; refused = s.refused; by_number = s.by_number }
counted s (Some refusal) = record { calls = raised s.calls; refused = raised s.refused; by_number = slice_set s.by_number (number refusal) (raised (slice_index s.by_number (number refusal))) }
