-- What it means where a hub stands.
use Rattle.std.specs.Prelude.{List, None}
use Rattle.message_log.specs.Meaning.{Meaning}
use Rattle.account.specs.declared.rows.Row.{Row}
use Rattle.rules.specs.declared.phases.HubPhase.{HubPhase}
use Rattle.rules.specs.declared.phases.HubPhase.TheVariants.{Shut, Waiting}
use Rattle.rules.specs.State.{Pair}
use Rattle.rules.specs.Changes.{hub_to, hub_leaves}
use Rattle.hub.specs.declared.state.HubState.{HubState}

-- with nobody logged in, in this phase
abbrev pub left_in : HubPhase → HubState
left_in phase = record { phase = phase; row = None }

-- with no connection
abbrev pub shut : HubState
shut = left_in Shut

-- a pair whose hub stands so, with this log and these rows: frame, counts and all else are those of the pair
abbrev pub with_state : HubState → Meaning → List Row → Pair → Pair
with_state f log rows p =
    record p {
      running = record p.running { log = log };
      hub = record p.hub { phase = f.phase; row = f.row };
      rows = rows;
    }

-- a phase is entered: where the hub is shut or waits for a login, nobody is logged in
abbrev pub enters : HubPhase → Pair → Pair
enters Shut s = hub_leaves Shut s
enters Waiting s = hub_leaves Waiting s
enters phase s = hub_to phase s
