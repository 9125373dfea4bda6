-- What the chosen line means, and what passes through it.
use Rattle.std.specs.Prelude.{ℕ, List, Some, None, Option}
use Rattle.wire.specs.Limits.{packet_limit}
use Rattle.line.specs.Lines.{LineView, fresh}
use Rattle.line.specs.Sizes.{smallest_size, PieceLength}
use Rattle.lines.specs.Pacing.{paced_view}
use Rattle.pump.specs.Pumping.{Pumped}
use Rattle.pump.specs.declared.traces.Trace.{Trace}
use Rattle.pump.specs.declared.choices.Choice.{Choice}
use Rattle.pump.specs.declared.choices.Layers.{Layers}
use Rattle.pump.specs.declared.choices.Layers.TheVariants as L
use Rattle.pump.specs.declared.arguments.Kind.{Kind}
use Rattle.pump.specs.declared.arguments.Kind.TheVariants as K

abbrev pub kind_view : Kind → LineView
kind_view K.Ring = fresh smallest_size packet_limit
kind_view K.Straight = fresh smallest_size 1

abbrev pub made_view : Kind → Option ℕ → LineView
made_view kind None = kind_view kind
made_view kind (Some pace) = paced_view (kind_view kind) pace

abbrev pub chosen_view : Layers → Kind → LineView
chosen_view L.Bare kind = kind_view kind
chosen_view (L.Once pace) kind = paced_view (kind_view kind) pace
chosen_view (L.Twice outer inner) kind = paced_view (paced_view (kind_view kind) inner) outer

-- The numbers of a choice that the rules allow.
abbrev pub PaceAllowed : Option ℕ → Type 0
PaceAllowed None = Unit {0}
PaceAllowed (Some pace) = PieceLength pace

abbrev pub LayersAllowed : Layers → Type 0
LayersAllowed L.Bare = Unit {0}
LayersAllowed (L.Once pace) = PieceLength pace
LayersAllowed (L.Twice outer inner) = PieceLength outer × PieceLength inner

abbrev pub Allowed : Choice → Type 0
Allowed choice = PieceLength choice.piece × LayersAllowed choice.layers

-- The numbers are allowed, and the trace is that of a whole run with the chosen line.
abbrev pub Passes : Choice → List ℕ → Trace → Type 0
Passes choice input trace =
    let line = chosen_view choice.layers choice.kind in
    Allowed choice × ((w : LineView) × Pumped line input choice.piece trace w)
