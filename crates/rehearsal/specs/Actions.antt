-- What a line does to a pair: a step of the rules, or several, each of them counted.
use Rattle.std.specs.Prelude.{◌≡◌, ℕ, ◌+◌, Some, None, Option, Result, Ok, Err}
use Rattle.wire.specs.declared.refusals.Refusal.{Refusal}
use Rattle.wire.specs.declared.statuses.Status.{Status}
use Rattle.rules.specs.declared.answers.Answer.{Answer}
use Rattle.relay.specs.Calls.{call_of}
use Rattle.relay.specs.Histories.{Performs}
use Rattle.relay.specs.Levels.{how_of, BringsLevel}
use Rattle.rules.specs.Rounds as R
use Rattle.rules.specs.State.{Pair}
use Rattle.any_pair.specs.AnyPairs.{PairWithCounts}
use Rattle.any_pair.specs.Strangers.{Injects}
use Rattle.rehearsal.specs.declared.commands.Action.{Action}
use Rattle.rehearsal.specs.declared.commands.Action.TheVariants as D
use Rattle.rehearsal.specs.Counting.{counted}
use Rattle.rehearsal.specs.declared.sums.Sums.{Sums}
use Rattle.rehearsal.specs.declared.stages.Stage.{Stage}
use Rattle.rehearsal.specs.declared.stages.Stage.TheVariants.{Building, Running}
use Rattle.rehearsal.specs.declared.troubles.Malformed.{Malformed}
use Rattle.rehearsal.specs.declared.troubles.Malformed.TheVariants.{NotSetUp}

-- why a call was refused, if it was
abbrev pub refusal_in : Answer → Option Refusal
refusal_in (Answer.Done (Ok done)) = None
refusal_in (Answer.Done (Err refusal)) = Some refusal
refusal_in (Answer.Received (Ok received)) = None
refusal_in (Answer.Received (Err refusal)) = Some refusal
refusal_in (Answer.Sent (Ok letter)) = None
refusal_in (Answer.Sent (Err refusal)) = Some refusal
refusal_in (Answer.Round (Ok report)) = None
refusal_in (Answer.Round (Err refusal)) = Some refusal

-- what a bring-level answered, without what became of the login
abbrev pub without_login : Result (Option Status) Refusal → Result (Unit {0}) Refusal
without_login (Ok login) = Ok tt
without_login (Err refusal) = Err refusal

-- so many ticks were granted and counted
pub data Ticked (p : Pair) (s : Sums) : ℕ → Pair → Sums → Type 0 where
  none : Ticked p s 0 p s
  one_more : {n : ℕ} {q r : Pair} {t : Sums} → Ticked p s n q t → Performs q R.Tick (Answer.Done (Ok tt)) r → Ticked p s (n + 1) r (counted t None)

-- what so many ticks are answered: all were granted, or one was refused, which was the last
pub data Ticks (p : Pair) (s : Sums) (n : ℕ) : Answer → Pair → Sums → Type 0 where
  all : {q : Pair} {t : Sums} → Ticked p s n q t → Ticks p s n (Answer.Done (Ok tt)) q t
  refused : {k : ℕ} {q r : Pair} {t : Sums} {e : Refusal} → Ticked p s k q t → Performs q R.Tick (Answer.Done (Err e)) r → Ticks p s n (Answer.Done (Err e)) r (counted t (Some e))

-- What was done, what it was answered, and how it was counted. A stranger's bytes are no call.
abbrev pub Done : Action → PairWithCounts → Sums → Answer → PairWithCounts → Sums → Type 0
Done (D.Call call) p s answer q t = Performs p.pair (call_of call) answer q.pair × (t ≡ counted s (refusal_in answer))
Done (D.Ticks count) p s answer q t = Ticks p.pair s count answer q.pair t
Done (D.Level way) p s answer q t = (told : Result (Option Status) Refusal) × (answer ≡ Answer.Done (without_login told)) × BringsLevel (how_of way) p.pair told q.pair × (t ≡ counted s (refusal_in answer))
Done (D.Stranger side bytes) p s answer q t = (told : Result (Unit {0}) Refusal) × (answer ≡ Answer.Done told) × Injects side bytes.now p.pair told q.pair × (q.up ≡ p.up) × (q.down ≡ p.down) × (t ≡ s)

-- done where there is a pair, and else refused
abbrev pub PerformsAction : Stage → Sums → Action → Result Answer Malformed → Stage → Sums → Type 0
PerformsAction (Building parts) s action (Ok answer) after t = ⊥
PerformsAction (Building parts) s action (Err malformed) after t = (malformed ≡ NotSetUp) × (after ≡ Building parts) × (t ≡ s)
PerformsAction (Running pair) s action (Ok answer) (Running after) t = Done action pair s answer after t
PerformsAction (Running pair) s action (Ok answer) (Building after) t = ⊥
PerformsAction (Running pair) s action (Err malformed) after t = ⊥
