use Rattle.std.proofs.Common.{ℕ, zero, suc, ◌≤◌, List, [], ◌∷◌, length, get_or, refl, arith}
use Rattle.wire.specs.Limits.{message_limit}
use Rattle.logs.specs.declared.records.RecordFault.TheVariants.{CutShort}
use Rattle.logs.specs.Opening.{Savable, later}
use Rattle.logs.proofs.journal_laws.examples_hold.Goals as goal

two_long : (k : ℕ) → length (get_or {A = List ℕ} ((0x41 ∷ 0x42 ∷ []) ∷ []) k []) ≤ message_limit
two_long zero = omega arith
two_long (suc k) = omega arith

seven : Savable 7 ((0x41 ∷ 0x42 ∷ []) ∷ [])
seven = record { short = two_long; silent = λ e. absurd (omega arith) }

empty : Savable 7 []
empty = record { short = λ k. omega arith; silent = λ e. absurd (omega arith) }

pub returns : goal.returns
returns c = ((refl, seven), (later 7 [] 5 CutShort empty refl (omega arith) refl, (refl, (refl, tt))))
