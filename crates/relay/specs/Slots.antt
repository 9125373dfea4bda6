-- Calls in slots, which take their answers.
use Rattle.std.specs.Prelude.{◌≡◌, List, [], ◌∷◌, length, Some}
use Rattle.rules.specs.State.{Pair}
use Rattle.rules.specs.declared.answers.Answer.{Answer}
use Rattle.rules.specs.Rounds.{Call}
use Rattle.relay.specs.Calls.{call_of}
use Rattle.relay.specs.Histories.{Leads, Keeps}
use Rattle.relay.specs.declared.running.Slot.{Slot}

-- these slots, of which the first have these answers
abbrev pub answered : List Slot → List Answer → List Slot
answered [] answers = []
answered (slot ∷ slots) [] = slot ∷ slots
answered (slot ∷ slots) (a ∷ answers) = record slot { answer = Some a } ∷ answered slots answers

-- the calls of these slots, with these answers
abbrev pub made_in : List Slot → List Answer → List (Call × Answer)
made_in [] answers = []
made_in (slot ∷ slots) [] = []
made_in (slot ∷ slots) (a ∷ answers) = (call_of slot.call, a) ∷ made_in slots answers

-- The calls of all slots were made one after the other, and each slot has the answer of its call.
pub record Runs (s : Pair) (slots filled : List Slot) (t : Pair) : Type 0 where
  pub answers : List Answer
  pub one_each : length answers ≡ length slots
  pub answered : filled ≡ answered slots answers
  pub leads : Leads s (made_in slots answers) t
  -- the promises are kept
  pub keeps : Keeps s (made_in slots answers) t
