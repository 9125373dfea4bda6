-- How a rehearsal comes to its pair: part by part, and then by set-up; and what can be looked at.
use Rattle.std.specs.Prelude.{◌≡◌, ℕ, false, List, IsSomeAnd, Some, None, Option, Result, Ok, Err}
use Rattle.wire.specs.Limits.{packet_limit}
use Rattle.line.specs.Lines.{LineView}
use Rattle.message_log.specs.Meaning.{Meaning}
use Rattle.lines.specs.declared.any.AnyLine.{AnyLine}
use Rattle.logs.specs.declared.any.AnyLog.{AnyLog}
use Rattle.logs.specs.Kinds.{inside}
use Rattle.any_pair.specs.declared.forms.End.{End}
use Rattle.any_pair.specs.declared.forms.End.TheVariants.{Hub, Seat}
use Rattle.rules.specs.SetUp as Given
use Rattle.rules.specs.SetUp.{set_up}
use Rattle.pair.specs.Lent.{blank}
use Rattle.any_pair.specs.declared.forms.Part.{Part}
use Rattle.any_pair.specs.declared.builders.Builder.{Builder}
use Rattle.any_pair.specs.Makings.{Bare, Makes, PartDenied, Left, Joined, is_complete}
use Rattle.rehearsal.specs.declared.stages.Stage.{Stage}
use Rattle.rehearsal.specs.declared.stages.Stage.TheVariants.{Building, Running}
use Rattle.rehearsal.specs.declared.troubles.Trouble.{Trouble}
use Rattle.rehearsal.specs.declared.troubles.Trouble.TheVariants.{Refused, Malformed, Failed}
use Rattle.rehearsal.specs.declared.troubles.Malformed.TheVariants.{SetUp, NotMade}

-- no part is made but a table without a row, and buffers of the longest packet's length
abbrev pub Fresh : Stage → Type 0
Fresh (Building parts) = Bare parts × (parts.buffers ≡ blank packet_limit packet_limit packet_limit)
Fresh (Running pair) = ⊥

-- a part is made, or refused with the parts left; there is none to make where there is a pair
abbrev pub MakesPart : (AnyLine → LineView) → Part → Stage → Result (Unit {0}) Trouble → Stage → Type 0
MakesPart means part (Building p) (Ok done) (Building q) = Makes means part p q
MakesPart means part (Building p) (Err (Refused refusal)) (Building q) = PartDenied part p refusal × Left p q
MakesPart means part (Building p) (Err (Malformed malformed)) q = ⊥
MakesPart means part (Building p) (Err (Failed error)) q = ⊥
MakesPart means part (Building p) r (Running q) = ⊥
MakesPart means part (Running p) r q = (r ≡ Err (Malformed SetUp)) × (q ≡ Running p)

-- all parts are made, and set-up answers this of them
abbrev pub SetUpOf : (AnyLine → LineView) → Builder → (Given.Parts → Type 0) → Type 0
SetUpOf means p Answers = (given : Given.Parts) × Joined means p given × Answers given

-- the pair is set up of all parts, or refused with the parts left; or a part is missing; or there is a pair already
abbrev pub SetsUp : (AnyLine → LineView) → Stage → Result (Unit {0}) Trouble → Stage → Type 0
SetsUp means (Building p) (Ok done) (Running pair) = SetUpOf means p (λ given. set_up given ≡ Ok pair.pair)
SetsUp means (Building p) (Ok done) (Building q) = ⊥
SetsUp means (Building p) (Err (Refused refusal)) (Building q) = SetUpOf means p (λ given. (set_up given ≡ Err refusal) × Joined means q given)
SetsUp means (Building p) (Err (Refused refusal)) (Running pair) = ⊥
SetsUp means (Building p) (Err (Malformed malformed)) q = (malformed ≡ NotMade) × (is_complete p ≡ false) × (q ≡ Building p)
SetsUp means (Building p) (Err (Failed error)) q = ⊥
SetsUp means (Running p) r q = (r ≡ Err (Malformed SetUp)) × (q ≡ Running p)

abbrev pub means_of : Option AnyLog → Option Meaning
means_of None = None
means_of (Some l) = Some (inside l)

-- the log of an end, if it is made
abbrev pub log_at : Stage → End → Option Meaning
log_at (Building p) Hub = means_of p.hub_log
log_at (Building p) Seat = means_of p.seat_log
log_at (Running pair) Hub = Some pair.pair.running.log
log_at (Running pair) Seat = Some pair.pair.held

-- what the two lines mean, which are made
abbrev pub LinesAt : (AnyLine → LineView) → Stage → LineView → LineView → Type 0
LinesAt means (Building p) up down = IsSomeAnd p.up (λ t. up ≡ means t.line) × IsSomeAnd p.down (λ t. down ≡ means t.line)
LinesAt means (Running pair) up down = (up ≡ pair.pair.up) × (down ≡ pair.pair.down)

-- the outgoing buffer
abbrev pub out_at : Stage → List ℕ
out_at (Building p) = p.buffers.out
out_at (Running pair) = pair.pair.buffers.out
