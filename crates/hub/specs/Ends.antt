-- What a hub means, and its side of a pair.
use Rattle.std.specs.Prelude.{ℕ, false, List, take}
use Rattle.line.specs.Lines.{LineView}
use Rattle.message_log.specs.Meaning.{Meaning}
use Rattle.account.specs.declared.rows.Row.{Row}
use Rattle.rules.specs.declared.phases.HubPhase.{HubPhase}
use Rattle.rules.specs.State.{Running, HubEnd, Pair}
use Rattle.rules.specs.Sides.{hub_side}
use Rattle.hub.specs.State.{left_in}
use Rattle.hub.specs.declared.hubs.Hub.{Hub}

-- the meaning of a hub whose frame lies at the front of this buffer
abbrev pub end_of : Hub → List ℕ → HubEnd
end_of h buffer =
    record {
      phase = h.state.phase;
      row = h.state.row;
      frame = take h.filled buffer;
      unsent = h.unsent;
      silent = h.silent;
      waited = h.waited;
    }

-- with nobody logged in, in this phase, and frame and counts cleared
abbrev pub cleared_in : HubPhase → Hub → Hub
cleared_in phase h = record h { state = left_in phase; filled = 0; unsent = 0; silent = 0; waited = 0 }

-- its session, in this log
abbrev pub running_of : Hub → Meaning → Running
running_of h log = record { log = log; finished = h.finished }

-- a session that is not finished
abbrev pub unfinished : Meaning → Running
unfinished log = record { log = log; finished = false }

-- its side of a pair: its log, the up and the down line, the rows in use, the buffer of its frame, and the outgoing one
abbrev pub side_of : Hub → Meaning → LineView → LineView → List Row → List ℕ → List ℕ → Pair
side_of h log up down rows frame out = hub_side (running_of h log) (end_of h frame) up down rows frame out
