-- What the calls of the hub on its connection that are neither a receive nor a send do to its side of a pair.
use Rattle.std.specs.Prelude.{ℕ, cond, List}
use Rattle.wire.specs.declared.refusals.Refusal.TheVariants.{ShortBuffer}
use Rattle.rules.specs.declared.phases.HubPhase.TheVariants.{Waiting}
use Rattle.rules.specs.State.{Pair}
use Rattle.rules.specs.Changes.{refuses, hub_leaves, wiped}
use Rattle.rules.specs.Calls.{Done, done, tell, hub_timed, counted}
use Rattle.rules.specs.Rounds.{Tell, lent_short}
use Rattle.rules.specs.Sides.{hub_side_of}

-- what a connect does before the seat has asked, on the hub's side
abbrev pub awaits : Pair → Pair
awaits s = hub_side_of (hub_leaves Waiting (wiped s))

-- a message that is too long is reported before a short buffer
abbrev pub tells : List ℕ → Pair → Done
tells m s = cond (lent_short (Tell m) s) (refuses ShortBuffer s) (tell m s)

-- a tick, on the hub's side
abbrev pub times : Pair → Done
times s = done (hub_side_of (hub_timed s.hub.phase (counted s)))
