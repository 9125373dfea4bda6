-- A pacing layer over a line, as a line.
use Rattle.std.specs.Prelude.{ℕ, min}
use Rattle.line.specs.Lines.{LineView}

-- The line under it, but for the hand-out limit.
abbrev pub paced_view : LineView → ℕ → LineView
paced_view v n = record v { limit = min v.limit n }
