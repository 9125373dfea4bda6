-- What calls make of a pair, and of every history that led to it.
use Rattle.std.specs.Prelude.{◌≡◌, true, List, [], ◌∷◌, ◌++◌, Option}
use Rattle.packet.specs.Values.{Value}
use Rattle.rules.specs.State.{Pair}
use Rattle.rules.specs.declared.answers.Answer.{Answer}
use Rattle.rules.specs.Rounds.{Call, Effect, Step}
use Rattle.promises.specs.Runs.{IsPrefix, World, lent, stepped, Run, History}
use Rattle.promises.specs.Promises.{Holds}

-- by the rules just these calls, with these answers, lead from one pair to another
pub data Leads (s : Pair) : List (Call × Answer) → Pair → Type 0 where
  none : Leads s [] s
  one_more : {made : List (Call × Answer)} {t : Pair} → Leads s made t → (call : Call) (d : Effect) → Step t call d →
      Leads s (made ++ (call, d.answer) ∷ []) d.after

-- the same from one point of a run to a later one
pub data LeadsOn (v : World) : List (Call × Answer) → World → Type 0 where
  no_call : LeadsOn v [] v
  then : {made : List (Call × Answer)} {w : World} → LeadsOn v made w → (call : Call) (d : Effect) → Step w.pair call d →
      LeadsOn v (made ++ (call, d.answer) ∷ []) (stepped w call d)

-- What the promises say at a point of a run.
pub record Promised (o : Pair) (w : World) : Type 0 where
  pub history : History Step o w
  -- the seat's log is a prefix of what the book has for the session that it bears
  pub never_wrong : IsPrefix w.pair.held.messages (w.book.lists w.pair.held.session)
  -- it has all that it held at any earlier point, if it bore the same session there
  pub never_shorter : (v : World) → History Step o v → Run Step v w → w.pair.held.session ≡ v.pair.held.session →
      IsPrefix v.pair.held.messages w.pair.held.messages
  -- a seat that reports itself in step holds all that the note has
  pub in_step_is_true : w.pair.seat.in_step ≡ true → Holds w.note w.pair.held

-- From a point of a run these calls, with these answers, have led to this pair, and the promises hold of it.
pub record Followed (o : Pair) (v : World) (made : List (Call × Answer)) (t : Pair) : Type 0 where
  pub now : World
  pub stands : now.pair ≡ t
  pub led : LeadsOn v made now
  pub promised : Promised o now

-- so it is whatever history led to the first pair, with these buffers or with others
abbrev pub Keeps : Pair → List (Call × Answer) → Pair → Type 0
Keeps s made t =
    (o : Pair) (v : World) → History Step o v → (lent v s.buffers).pair ≡ s → Followed o (lent v s.buffers) made t

-- A call was performed: by a step of the rules, and with the promises kept.
pub record Performs (s : Pair) (call : Call) (answer : Answer) (t : Pair) : Type 0 where
  pub wrote : Option Value
  pub step : Step s call (record { answer = answer; wrote = wrote; after = t })
  pub keeps : Keeps s ((call, answer) ∷ []) t
