-- The three promises of a pair, as laws over runs.
use Rattle.std.specs.Prelude.{◌≡◌, ℕ, ◌+◌, ◌-◌, ◌≤◌, true, false, List, drop, Some, None, Ok, Option}
use Rattle.wire.specs.declared.statuses.Status.TheVariants.{Accepted}
use Rattle.message_log.specs.Meaning.{Meaning, count, taken, room}
use Rattle.account.specs.Logins.{status_for}
use Rattle.rules.specs.declared.phases.How.{How}
use Rattle.rules.specs.State as Line
use Rattle.message_log.specs.Meaning as Log
use Rattle.rules.specs.State.{Pair}
use Rattle.rules.specs.SetUp.{Parts, set_up}
use Rattle.rules.specs.Seat.{in_session}
use Rattle.rules.specs.Calls.{done, connected, asked, asked_number, fetch_end}
use Rattle.rules.specs.Rounds.{Call, Connect, Round, lent_short, Effect, did}
use Rattle.promises.specs.Book.{Message}
use Rattle.promises.specs.Runs.{IsPrefix, Note, World, Run, GrantedRounds, SetUp, History}

-- Set-up, of logs that keep their law and of steady lines, makes a pair of which the promises speak.
abbrev pub SetUpBegins : Type 0
SetUpBegins =
    (g : Parts) (s : Pair) →
    Log.Sound g.hub_log → Log.Sound g.seat_log → Line.Steady g.up → Line.Steady g.down →
    set_up g ≡ Ok s → SetUp s

-- Never wrong: after every run the seat's log is a prefix of what was published in the session that it bears.
abbrev pub NeverWrong : (Pair → Call → Effect → Type 0) → Type 0
NeverWrong Rules =
    (o : Pair) (w : World) → History Rules o w →
    IsPrefix w.pair.held.messages (w.book.lists w.pair.held.session)

-- Never shorter: along a run it keeps all that it held, as long as it bears that session.
abbrev pub NeverShorter : (Pair → Call → Effect → Type 0) → Type 0
NeverShorter Rules =
    (o : Pair) (v w : World) → History Rules o v → Run Rules v w → w.pair.held.session ≡ v.pair.held.session →
    IsPrefix v.pair.held.messages w.pair.held.messages

-- what a seat's log lacks of the hub's
abbrev pub lacking : Meaning → Meaning → List Message
lacking seat hub = drop (count (in_session seat hub.session)) hub.messages

-- It can catch up: its login is accepted, and its log has room and places for what it lacks.
pub record Able (how : How) (s : Pair) : Type 0 where
  -- it connects by join or anew
  pub no_fetch : fetch_end how ≡ None
  pub accepted :
      status_for (connected how s).rows s.running.log.session (count s.running.log) (asked how s) ≡ Accepted
  pub room :
      taken s.held.overhead (lacking s.held s.running.log) ≤ room (in_session s.held s.running.log.session)
  pub places : count s.running.log ≤ s.held.places

-- h − q + 2, for h messages held by the hub and the number q that the login asks for
abbrev pub rounds_needed : How → Pair → ℕ
rounds_needed how s = count s.running.log + 2 - asked_number how s.held

-- the seat's log is the hub's, session and messages
pub record Level (log : Meaning) (s : Pair) : Type 0 where
  pub session : s.held.session ≡ log.session
  pub messages : s.held.messages ≡ log.messages

-- The seat catches up: after every run, then an accepted connect by join or anew, then h − q + 2 granted rounds, its
-- log is the hub's.
abbrev pub CatchesUp : (Pair → Call → Effect → Type 0) → Type 0
CatchesUp Rules =
    (o t : Pair) (w : World) (how : How) → History Rules o w → Able how w.pair →
    GrantedRounds Rules (rounds_needed how w.pair) (connected how w.pair) t → Level w.pair.running.log t

-- It can be done: where no buffer is too short, the connect is granted, and so many granted rounds can be made.
abbrev pub CanCatchUp : (Pair → Call → Effect → Type 0) → Type 0
CanCatchUp Rules =
    (o : Pair) (w : World) (how : How) →
    History Rules o w → fetch_end how ≡ None → lent_short Round w.pair ≡ false →
    Rules w.pair (Connect how) (did (done (connected how w.pair)))
    × ((n : ℕ) → (t : Pair) × GrantedRounds Rules n (connected how w.pair) t)

-- The seat's log holds all that the note has.
pub record Holds (o : Option Note) (log : Meaning) : Type 0 where
  pub note : Note
  pub is : o ≡ Some note
  pub session : note.session ≡ log.session
  pub all : IsPrefix note.messages log.messages

-- In step is true: a seat that reports itself in step holds all that was published when the hub send or round began
-- that wrote the packet which told it so.
abbrev pub InStepIsTrue : (Pair → Call → Effect → Type 0) → Type 0
InStepIsTrue Rules =
    (o : Pair) (w : World) → History Rules o w → w.pair.seat.in_step ≡ true → Holds w.note w.pair.held
