-- How a making answers: granted just when the numbers are allowed, and otherwise refused by the number for
-- sizes, with what was given handed back.
use Rattle.std.specs.Prelude.{◌≡◌, Ok, Err, Result}
use Rattle.wire.specs.declared.refusals.Refusal.TheVariants.{SizeOutOfRange}
use Rattle.wire.specs.declared.making.Unmade.{Unmade}

abbrev pub Makes : {X G : Type 0} → Type 0 → (X → Type 0) → G → Result X (Unmade G) → Type 0
Makes allowed means given (Ok x) = allowed × means x
Makes allowed means given (Err e) = (allowed → ⊥) × (e.refusal ≡ SizeOutOfRange) × (e.given ≡ given)
