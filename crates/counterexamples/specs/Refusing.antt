-- Refusing the number after the highest.
--
-- A seat that holds every message asks for the one after them, and the hub has not got it yet. That is no error: the
-- seat wants what comes next. A login decision that passes numbers up to the highest alone, and not the one after it,
-- locks such a seat out, until something more is published; and at a hub that has published nothing it locks out
-- every seat that asks for number 1.
use Rattle.std.specs.Prelude.{◌≡◌, ℕ, true, false, not, ◌||◌, List, [], ◌∷◌, ◌++◌, Some, Ok, Option, ◌==◌, ◌≢◌, nat_le}
use Rattle.std.specs.Str.{bytes_eq}
use Rattle.wire.specs.declared.letters.Letter.TheVariants as L
use Rattle.wire.specs.declared.statuses.Status.{Status}
use Rattle.wire.specs.declared.statuses.Status.TheVariants.{Accepted, UnknownUser, SessionUnavailable, InvalidNumber, WrongVersion, WrongProtocol, AlreadyLoggedIn}
use Rattle.wire.specs.Limits.{packet_limit}
use Rattle.packet.specs.Values.{Value}
use Rattle.packet.specs.Decoding.{whole}
use Rattle.message_log.specs.Meaning.{count}
use Rattle.account.specs.declared.rows.Row.{Row}
use Rattle.account.specs.Rows.{found, row_at}
use Rattle.account.specs.Logins.{Asked, Check, spoken_version, of_row, first_failing, status_for}
use Rattle.rules.specs.declared.phases.How.{How}
use Rattle.rules.specs.declared.phases.How.TheVariants.{Join}
use Rattle.rules.specs.declared.phases.HubPhase.TheVariants.{Waiting}
use Rattle.rules.specs.declared.answers.Received.{Received}
use Rattle.rules.specs.declared.answers.Received.TheVariants.{Acted}
use Rattle.rules.specs.declared.answers.Report.{Report}
use Rattle.rules.specs.State.{Pair, Outcome}
use Rattle.rules.specs.Changes.{grants, hub_took}
use Rattle.rules.specs.Frames.{lack, given, left, Free, judged}
use Rattle.rules.specs.Hub.{hub_letters, decided, hub_sends}
use Rattle.rules.specs.Seat.{seat_sends}
use Rattle.rules.specs.Calls.{asked, login_of}
use Rattle.rules.specs.declared.answers.Answer.TheVariants as Answer
use Rattle.rules.specs.Rounds.{HubReceives, SeatReceives, Drains, Call, HubReceive, Round, Effect, took, stopped, lent_short, Step}
use Rattle.promises.specs.Runs.{IsPrefix}
use Rattle.promises.specs.Promises.{Level, CatchesUp}
use Rattle.counterexamples.specs.Setting.{starting_with, fresh_buffers}

-- the six checks, the last one wrong
abbrev pub narrow_checks : List Row → Option ℕ → ℕ → ℕ → Asked → List Check
narrow_checks rows row session highest asked =
    record { passes = bytes_eq asked.version spoken_version; status = WrongVersion }
    ∷ record { passes = of_row row (λ i. true); status = UnknownUser }
    ∷ record {
      passes = of_row row (λ i. bytes_eq (row_at rows i).account.protocol asked.protocol);
      status = WrongProtocol;
    }
    ∷ record { passes = of_row row (λ i. not (row_at rows i).marked); status = AlreadyLoggedIn }
    ∷ record { passes = asked.session == 0 || (asked.session == session); status = SessionUnavailable }
    ∷ record { passes = nat_le asked.number highest; status = InvalidNumber }
    ∷ []

abbrev pub narrow_status_for : List Row → ℕ → ℕ → Asked → Status
narrow_status_for rows session highest asked =
    first_failing (narrow_checks rows (found rows asked.user asked.computer) session highest asked)

-- what the right decision, and the wrong one, say of the login of a pair
abbrev pub rightly : How → Pair → Status
rightly how s = status_for s.rows s.running.log.session (count s.running.log) (asked how s)

abbrev pub narrowly : How → Pair → Status
narrowly how s = narrow_status_for s.rows s.running.log.session (count s.running.log) (asked how s)

-- The seat's log has no message without a session, and is a prefix of the hub's where both bear one session.
pub record Honest (s : Pair) : Type 0 where
  pub silent : s.held.session ≡ 0 → s.held.messages ≡ []
  pub prefix : s.held.session ≡ s.running.log.session → IsPrefix s.held.messages s.running.log.messages

-- However such a seat connects, the right decision never finds its number invalid.
abbrev pub NextNumberPasses : Type 0
NextNumberPasses = (how : How) (s : Pair) → Honest s → rightly how s ≢ InvalidNumber

-- The seat's log is the hub's, and its account has a row that no other login uses.
pub record CaughtUp (i : ℕ) (s : Pair) : Type 0 where
  pub level : Level s.running.log s
  pub row : found s.rows s.account.user s.account.computer ≡ Some i
  pub protocol : bytes_eq (row_at s.rows i).account.protocol s.account.protocol ≡ true
  pub unused : (row_at s.rows i).marked ≡ false

pub record LockedOut (s : Pair) : Type 0 where
  pub right : rightly Join s ≡ Accepted
  pub wrong : narrowly Join s ≡ InvalidNumber

-- Such a seat may join by the right decision, and never by the wrong one.
abbrev pub RefusingLocksOut : Type 0
RefusingLocksOut = (i : ℕ) (s : Pair) → CaughtUp i s → LockedOut s

-- The hub receives: a login request goes by the wrong decision, and all else is as ruled.
pub data NarrowReceives (s : Pair) : Outcome Received → Type 0 where
  no_login : (o : Outcome Received) → (o.answer ≢ Ok (Acted L.LoginRequest)) → HubReceives s o →
      NarrowReceives s o
  login : (room : ℕ) (a : Asked) → s.hub.phase ≡ Waiting → Free s.up (lack s.hub.frame) room →
      judged (hub_letters Waiting) (s.hub.frame ++ given s.up (lack s.hub.frame)) ≡ Ok (whole (login_of a)) →
      NarrowReceives s
      (grants (Acted L.LoginRequest)
      (decided (narrow_status_for s.rows s.running.log.session (count s.running.log) a) a
      (hub_took (given s.up (lack s.hub.frame)) [] (left s.up (lack s.hub.frame) room) s)))

pub record NarrowRounds (s : Pair) (report : Report) (wrote : Option Value) (t : Pair) : Type 0 where
  pub heard : Pair
  pub taken : Pair
  pub hub_drains : Drains NarrowReceives s report.hub.packets report.hub.fault heard
  pub hub_wrote : wrote ≡ (hub_sends heard).wrote
  pub seat_drains : Drains SeatReceives (hub_sends heard).after report.seat.packets report.seat.fault taken
  pub seat_sent : t ≡ (seat_sends taken).after

-- Every call does what the rules say, but for what a login request leads to.
pub data NarrowRules (s : Pair) : Call → Effect → Type 0 where
  as_ruled : (c : Call) (d : Effect) → (c ≢ HubReceive) → (c ≢ Round) → Step s c d → NarrowRules s c d
  short_buffer : (c : Call) → lent_short c s ≡ true → NarrowRules s c (stopped c s)
  hub_receives : (o : Outcome Received) → lent_short HubReceive s ≡ false → NarrowReceives s o →
      NarrowRules s HubReceive (took o)
  rounds : (report : Report) (wrote : Option Value) (t : Pair) →
      lent_short Round s ≡ false → NarrowRounds s report wrote t →
      NarrowRules s Round (record { answer = Answer.Round (Ok report); wrote = wrote; after = t })

-- a hub that has published nothing yet, and a seat without a session
abbrev pub refused_start : Pair
refused_start = starting_with [] packet_limit fresh_buffers

-- By these rules an accepted connect and the rounds that it needs do not bring the seat's log up to the hub's.
abbrev pub RefusingStrands : Type 0
RefusingStrands = CatchesUp NarrowRules → ⊥
