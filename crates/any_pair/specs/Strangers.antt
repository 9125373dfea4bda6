-- A stranger's bytes on a line of a pair.
use Rattle.std.specs.Prelude.{◌≡◌, ℕ, List, Result}
use Rattle.wire.specs.declared.refusals.Refusal.{Refusal}
use Rattle.line.specs.Lines.{Put}
use Rattle.rules.specs.State.{Pair}
use Rattle.any_pair.specs.declared.forms.Side.{Side}
use Rattle.any_pair.specs.declared.forms.Side.TheVariants.{Up, Down}

-- The bytes are put on one line, as any piece is, or refused; all else stays.
abbrev pub Injects : Side → List ℕ → Pair → Result (Unit {0}) Refusal → Pair → Type 0
Injects Up bytes p answer q = Put p.up bytes answer q.up × (q ≡ record p { up = q.up })
Injects Down bytes p answer q = Put p.down bytes answer q.down × (q ≡ record p { down = q.down })
