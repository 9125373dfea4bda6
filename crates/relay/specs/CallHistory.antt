-- What was done with a pair since it was set up.
use Rattle.std.specs.Prelude.{◌≡◌, ℕ, true, List, [], ◌∷◌, ◌++◌, length, map, Ok, Err, Option, Result}
use Rattle.wire.specs.declared.making.Unmade.{Unmade}
use Rattle.wire.specs.declared.refusals.Refusal.{Refusal}
use Rattle.wire.specs.declared.refusals.Refusal.TheVariants.{ShortBuffer}
use Rattle.wire.specs.declared.statuses.Status.{Status}
use Rattle.rules.specs.declared.phases.How.{How}
use Rattle.rules.specs.declared.answers.Answer.{Answer}
use Rattle.rules.specs.declared.answers.Report.{Report}
use Rattle.rules.specs.State.{Pair}
use Rattle.rules.specs.SetUp.{Parts, set_up}
use Rattle.rules.specs.Calls.{connected}
use Rattle.rules.specs.Rounds.{Call, Round, lent_short, Step}
use Rattle.promises.specs.Book.{Book, opened, noted}
use Rattle.promises.specs.Runs.{IsPrefix, at_first, GrantedRounds}
use Rattle.promises.specs.Promises.{Holds, Able, Level, rounds_needed}
use Rattle.relay.specs.Histories.{Leads, Followed, Performs}
use Rattle.relay.specs.Levels.{login_answer, round_with, connect_and_rounds, Levels}
use Rattle.relay.specs.Slots.{made_in, Runs}
use Rattle.relay.specs.declared.running.Slot.{Slot}

-- A pair as it was set up, the calls that were made on it with their answers, and the pair now.
pub record CallHistory : Type 0 where
  pub first : Pair
  pub calls : List (Call × Answer)
  pub pair : Pair

-- no call was made yet
abbrev pub without_calls : Pair → CallHistory
without_calls s = record { first = s; calls = []; pair = s }

-- these calls were made next, and led to this pair
abbrev pub followed_by : CallHistory → List (Call × Answer) → Pair → CallHistory
followed_by h calls t = record { first = h.first; calls = h.calls ++ calls; pair = t }

-- what was published, by session: the book is fed each call with its answer
abbrev pub book_after : Book → List (Call × Answer) → Book
book_after book [] = book
book_after book (c ∷ calls) = book_after (noted c.0 c.1 book) calls

abbrev pub book_of : CallHistory → Book
book_of h = book_after (opened h.first.running.log) h.calls

-- it happened: the first pair was set up, and its calls have led to the pair now
abbrev pub Happened : CallHistory → Type 0
Happened h = Followed h.first (at_first h.first) h.calls h.pair

-- What is promised of a history at all times.
pub record PromisesHold (h : CallHistory) : Type 0 where
  pub happened : Happened h
  -- the seat's log is a prefix of what these calls published in the session that it bears
  pub never_wrong : IsPrefix h.pair.held.messages ((book_of h).lists h.pair.held.session)
  -- a seat that reports itself in step holds all that the note has
  pub in_step_is_true : h.pair.seat.in_step ≡ true → Holds happened.now.note h.pair.held
  -- a connect by join or anew whose login is accepted, and h − q + 2 granted rounds, make the seat's log the hub's
  pub catches_up : (how : How) (t : Pair) → Able how h.pair →
      GrantedRounds Step (rounds_needed how h.pair) (connected how h.pair) t → Level h.pair.running.log t

-- what the seat held is kept, as long as its log bears its session
abbrev pub NeverShorter : CallHistory → CallHistory → Type 0
NeverShorter h after =
    after.pair.held.session ≡ h.pair.held.session → IsPrefix h.pair.held.messages after.pair.held.messages

-- a set-up begins a history without calls, or hands the parts back
abbrev pub BeginsHistory : Parts → Result CallHistory (Unmade Parts) → Type 0
BeginsHistory parts (Ok h) = (set_up parts ≡ Ok h.first) × (h ≡ without_calls h.first)
BeginsHistory parts (Err unmade) = (set_up parts ≡ Err unmade.refusal) × (unmade.given ≡ parts)

-- A call was performed, and noted.
pub record PerformsAndNotes (h : CallHistory) (call : Call) (answer : Answer) (after : CallHistory) : Type 0 where
  pub performs : Performs h.pair call answer after.pair
  pub noted : after ≡ followed_by h ((call, answer) ∷ []) after.pair
  pub never_shorter : NeverShorter h after

-- The calls of all slots were made, and noted.
pub record RunsAndNotes (h : CallHistory) (slots filled : List Slot) (after : CallHistory) : Type 0 where
  pub runs : Runs h.pair slots filled after.pair
  pub noted : after ≡ followed_by h (made_in slots runs.answers) after.pair
  pub never_shorter : NeverShorter h after

-- A connect and h − q + 2 rounds were made, and noted.
pub record LevelsAndNotes (how : How) (h after : CallHistory) : Type 0 where
  pub levels : Levels how h.pair after.pair
  pub noted : after ≡ followed_by h (connect_and_rounds how levels.reports) after.pair
  -- if the login is accepted and the seat's log has room and places, it is the hub's
  pub level : Able how h.pair → Level h.pair.running.log after.pair
  pub never_shorter : NeverShorter h after

-- granted, with what became of the login, or refused for a short buffer with nothing changed
abbrev pub BringsLevelAndNotes : How → CallHistory → Result (Option Status) Refusal → CallHistory → Type 0
BringsLevelAndNotes how h (Ok login) after = LevelsAndNotes how h after × (login ≡ login_answer after.pair.seat)
BringsLevelAndNotes how h (Err refusal) after = (refusal ≡ ShortBuffer) × (lent_short Round h.pair ≡ true) × (after ≡ h)

-- So many rounds were made, all of them granted, and noted.
pub record RoundsAndNotes (n : ℕ) (h after : CallHistory) : Type 0 where
  pub rounds : GrantedRounds Step n h.pair after.pair
  pub reports : List Report
  pub one_each : length reports ≡ n
  pub leads : Leads h.pair (map round_with reports) after.pair
  pub noted : after ≡ followed_by h (map round_with reports) after.pair
