-- What a call of an end comes to, in the words of the rules.
use Rattle.std.specs.Prelude.{◌<◌, cond, length, Ok, Err, Result}
use Rattle.wire.specs.declared.refusals.Refusal.{Refusal}
use Rattle.wire.specs.declared.refusals.Refusal.TheVariants.{ShortBuffer}
use Rattle.line.specs.Lines.{LineView}
use Rattle.rules.specs.declared.answers.Received.{Received}
use Rattle.rules.specs.declared.answers.Received.TheVariants as A
use Rattle.rules.specs.State.{Pair, Outcome}
use Rattle.rules.specs.Changes.{refuses}
use Rattle.rules.specs.Rounds.{too_short}

-- what a call answered, and the end's side of the pair then
abbrev pub answered : {R : Type 0} → Result R Refusal → Pair → Outcome R
answered answer s = record { answer = answer; after = s }

-- a short outgoing buffer is reported before the rule
abbrev pub unless_short : {R : Type 0} → (Pair → Outcome R) → Pair → Outcome R
unless_short rule s = cond (too_short s.buffers.out) (refuses ShortBuffer s) (rule s)

-- a receive that is to be followed by another left fewer bytes waiting
abbrev pub Fewer : {E : Type 0} → Result Received E → LineView → LineView → Type 0
Fewer (Ok A.Nothing) line after = Unit {0}
Fewer (Ok A.Part) line after = length after.waiting < length line.waiting
Fewer (Ok (A.Acted letter)) line after = length after.waiting < length line.waiting
Fewer (Ok (A.Message offset long)) line after = length after.waiting < length line.waiting
Fewer (Err refusal) line after = Unit {0}
