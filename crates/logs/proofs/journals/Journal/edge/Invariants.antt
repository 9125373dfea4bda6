use Rattle.std.proofs.Common.{◌≡◌, ◌≤◌, ◌-◌}
use Rattle.logs.specs.Layout.{walked}
use Rattle.logs.proofs.journals.Journal.edge.Given as goal

abbrev pub invariant-loop-n : goal.invariant-loop-n
invariant-loop-n l = (l.at ≡ walked l.memory l.n) × (l.n ≤ l.k)

abbrev pub decreases-loop-n : goal.decreases-loop-n
decreases-loop-n l = l.k - l.n
