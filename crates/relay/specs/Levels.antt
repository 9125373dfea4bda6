-- Bringing a seat level, in the words of the promises.
use Rattle.std.specs.Prelude.{◌≡◌, true, false, List, ◌∷◌, length, map, Some, None, Ok, Err, Option, Result}
use Rattle.wire.specs.declared.refusals.Refusal.{Refusal}
use Rattle.wire.specs.declared.refusals.Refusal.TheVariants.{ShortBuffer}
use Rattle.wire.specs.declared.statuses.Status.{Status}
use Rattle.wire.specs.declared.statuses.Status.TheVariants.{Accepted}
use Rattle.rules.specs.declared.phases.How.{How}
use Rattle.rules.specs.declared.phases.How.TheVariants as H
use Rattle.rules.specs.declared.phases.SeatPhase.{SeatPhase}
use Rattle.rules.specs.declared.phases.SeatPhase.TheVariants.{Apart, Asking, Live}
use Rattle.rules.specs.declared.answers.Report.{Report}
use Rattle.rules.specs.declared.answers.Answer.{Answer}
use Rattle.rules.specs.State.{SeatEnd, Pair}
use Rattle.rules.specs.Calls.{connected}
use Rattle.rules.specs.Rounds.{Call, Connect, Round, lent_short, Step}
use Rattle.promises.specs.Runs.{World, lent, History, GrantedRounds}
use Rattle.promises.specs.Promises.{Able, Level, rounds_needed}
use Rattle.pair.specs.Steps.{Does}
use Rattle.relay.specs.Histories.{Keeps}
use Rattle.relay.specs.declared.leveling.Way.{Way}
use Rattle.relay.specs.declared.leveling.Way.TheVariants.{Join, Anew}

abbrev pub how_of : Way → How
how_of Join = H.Join
how_of Anew = H.Anew

-- what the hub answered a login, of a seat in this phase that was rejected by this status: a seat that was not, and no
-- longer asks, was accepted
abbrev pub answered_by : SeatPhase → Option Status → Option Status
answered_by phase (Some status) = Some status
answered_by Apart None = Some Accepted
answered_by Asking None = None
answered_by Live None = Some Accepted

abbrev pub login_answer : SeatEnd → Option Status
login_answer seat = answered_by seat.phase seat.status

-- a granted round
abbrev pub round_with : Report → Call × Answer
round_with report = (Round, Answer.Round (Ok report))

-- a granted connect, and rounds with these reports
abbrev pub connect_and_rounds : How → List Report → List (Call × Answer)
connect_and_rounds how reports = (Connect how, Answer.Done (Ok tt)) ∷ map round_with reports

-- A connect and h − q + 2 rounds were made, all of them granted.
pub record Levels (how : How) (s t : Pair) : Type 0 where
  -- no lent buffer was short
  pub long : lent_short Round s ≡ false
  pub connects : Does (Connect how) s (Ok tt) (connected how s)
  pub rounds : GrantedRounds Step (rounds_needed how s) (connected how s) t
  -- they are calls as any others: the promises are kept
  pub reports : List Report
  pub one_each : length reports ≡ rounds_needed how s
  pub keeps : Keeps s (connect_and_rounds how reports) t
  -- after every history: if the login is accepted and the seat's log has room and places, it is the hub's
  pub level : (o : Pair) (v : World) → History Step o v → (lent v s.buffers).pair ≡ s → Able how s → Level s.running.log t

-- granted, with what became of the login, or refused for a short buffer with nothing changed
abbrev pub BringsLevel : How → Pair → Result (Option Status) Refusal → Pair → Type 0
BringsLevel how s (Ok login) t = Levels how s t × (login ≡ login_answer t.seat)
BringsLevel how s (Err refusal) t = (refusal ≡ ShortBuffer) × (lent_short Round s ≡ true) × (t ≡ s)
