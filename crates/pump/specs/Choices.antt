-- How a choice is written.
use Rattle.std.specs.Prelude.{◌≡◌, List, [], ◌∷◌, Some, None, Option, ◌≢◌}
use Rattle.pump.specs.declared.choices.Choice.{Choice}
use Rattle.pump.specs.declared.choices.Layers.{Layers}
use Rattle.pump.specs.declared.choices.Layers.TheVariants as L
use Rattle.pump.specs.declared.arguments.Argument.{Argument}
use Rattle.pump.specs.declared.arguments.Argument.TheVariants as A

abbrev pub layered : Layers → List Argument → List Argument
layered L.Bare arguments = arguments
layered (L.Once pace) arguments = A.Paced ∷ A.Number pace ∷ arguments
layered (L.Twice outer inner) arguments =
    A.Paced ∷ A.Number outer ∷ A.Paced ∷ A.Number inner ∷ arguments

abbrev pub written : Choice → List Argument
written c = layered c.layers (A.Kind c.kind ∷ A.Number c.piece ∷ [])

-- The choice that is so written, or none if there is none.
abbrev pub Chooses : List Argument → Option Choice → Type 0
Chooses arguments (Some c) = arguments ≡ written c
Chooses arguments None = (c : Choice) → arguments ≢ written c
