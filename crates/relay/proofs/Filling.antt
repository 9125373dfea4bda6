-- Slots that are filled one after the other.
use Rattle.std.proofs.Common.{◌≡◌, ℕ, suc, ◌<◌, List, [], ◌∷◌, ◌++◌, length, get_or, set, Some, refl, sym, ap, ◌∙◌, subst, length-append, add-one, arith}
use Rattle.rules.specs.State.{Pair}
use Rattle.rules.specs.declared.answers.Answer.{Answer}
use Rattle.rules.specs.Rounds.{Call}
use Rattle.relay.specs.Calls.{call_of}
use Rattle.relay.specs.Histories.{Leads, none, one_more, Performs}
use Rattle.relay.specs.Slots.{answered, made_in, Runs}
use Rattle.relay.specs.declared.running.Slot.{Slot}
use Rattle.relay.specs.CallHistory.{CallHistory, followed_by, Happened, PerformsAndNotes, RunsAndNotes}
use Rattle.relay.proofs.Keeping.{leads_keep}
use Rattle.relay.proofs.History.{noted_nothing, noted_together, never_shorter}

-- the first i slots are filled, and their calls were made
pub record Filled (s : Pair) (slots : List Slot) (i : ℕ) (now : List Slot) (t : Pair) : Type 0 where
  pub answers : List Answer
  pub as_many : length answers ≡ i
  pub stand : now ≡ answered slots answers
  pub leads : Leads s (made_in slots answers) t

answered_none : (slots : List Slot) → answered slots [] ≡ slots
answered_none [] = refl
answered_none (slot ∷ slots) = refl

made_none : (slots : List Slot) → made_in slots [] ≡ []
made_none [] = refl
made_none (slot ∷ slots) = refl

pub filled_none : (s : Pair) (slots : List Slot) → Filled s slots 0 slots s
filled_none s slots = record { answers = []; as_many = refl; stand = sym (answered_none slots); leads = subst (λ x. Leads s x s) (sym (made_none slots)) none }

-- the slot behind those that are filled is as it was
next_slot : (slots : List Slot) (answers : List Answer) (d : Slot) → get_or (answered slots answers) (length answers) d ≡ get_or slots (length answers) d
next_slot [] answers d = refl
next_slot (slot ∷ slots) [] d = refl
next_slot (slot ∷ slots) (a ∷ answers) d = next_slot slots answers d

fill_next : (slots : List Slot) (answers : List Answer) (a : Answer) (d : Slot) → length answers < length slots →
    set (answered slots answers) (length answers) (record (get_or slots (length answers) d) { answer = Some a }) ≡ answered slots (answers ++ a ∷ [])
fill_next [] answers a d l = absurd (omega (arith, l))
fill_next (slot ∷ slots) [] a d l = ap (λ x. record slot { answer = Some a } ∷ x) (sym (answered_none slots))
fill_next (slot ∷ slots) (b ∷ answers) a d l = ap (λ x. record slot { answer = Some b } ∷ x) (fill_next slots answers a d (omega (arith, l)))

made_next : (slots : List Slot) (answers : List Answer) (a : Answer) (d : Slot) → length answers < length slots →
    made_in slots (answers ++ a ∷ []) ≡ made_in slots answers ++ (call_of (get_or slots (length answers) d).call, a) ∷ []
made_next [] answers a d l = absurd (omega (arith, l))
made_next (slot ∷ slots) [] a d l = ap (λ x. (call_of slot.call, a) ∷ x) (made_none slots)
made_next (slot ∷ slots) (b ∷ answers) a d l = ap (λ x. (call_of slot.call, b) ∷ x) (made_next slots answers a d (omega (arith, l)))

-- one slot more
pub record FilledNext (s : Pair) (slots : List Slot) (d : Slot) (a : Answer) (u : Pair) (answers : List Answer) (i : ℕ) (now : List Slot) : Type 0 where
  pub filled : Filled s slots (suc i) (set now i (record (get_or now i d) { answer = Some a })) u
  pub made : made_in slots filled.answers ≡ made_in slots answers ++ (call_of (get_or now i d).call, a) ∷ []

abbrev WithNext : Pair → List Slot → Slot → Answer → Pair → Pair → List Answer → ℕ → List Slot → Type 0
WithNext s slots d a t u answers i now = i < length slots → Performs t (call_of (get_or now i d).call) a u → FilledNext s slots d a u answers i now

with_next : (s t u : Pair) (slots : List Slot) (d : Slot) (a : Answer) (answers : List Answer) → Leads s (made_in slots answers) t → WithNext s slots d a t u answers (length answers) (answered slots answers)
with_next s t u slots d a answers leads l p =
    let e = next_slot slots answers d in
    let call : Call = call_of (get_or (answered slots answers) (length answers) d).call in
    let made : made_in slots (answers ++ a ∷ []) ≡ made_in slots answers ++ (call, a) ∷ [] = made_next slots answers a d l ∙ ap (λ (x : Slot). made_in slots answers ++ (call_of x.call, a) ∷ []) (sym e) in
    record {
      filled = record {
        answers = answers ++ a ∷ [];
        as_many = length-append answers (a ∷ []) ∙ add-one (length answers);
        stand = ap (λ (x : Slot). set (answered slots answers) (length answers) (record x { answer = Some a })) e ∙ fill_next slots answers a d l;
        leads = subst (λ x. Leads s x u) (sym made) (one_more leads call (record { answer = a; wrote = p.wrote; after = u }) p.step);
      };
      made = made;
    }

pub filled_next : {s t u : Pair} {slots now : List Slot} {i : ℕ} (d : Slot) (a : Answer) (f : Filled s slots i now t) → i < length slots →
    Performs t (call_of (get_or now i d).call) a u → FilledNext s slots d a u f.answers i now
filled_next {s} {t} {u} {slots} {now} {i} d a f =
    subst (λ x. WithNext s slots d a t u f.answers x now) f.as_many (subst (λ x. WithNext s slots d a t u f.answers (length f.answers) x) (sym f.stand) (with_next s t u slots d a f.answers f.leads))

-- all slots are filled
pub filled_all : {s t : Pair} {slots now : List Slot} {i : ℕ} → Filled s slots i now t → i ≡ length slots → Runs s slots now t
filled_all f all = record { answers = f.answers; one_each = f.as_many ∙ all; answered = f.stand; leads = f.leads; keeps = leads_keep f.leads }

-- the same of a history: the calls are noted, too
pub record FilledAndNoted (h : CallHistory) (slots : List Slot) (i : ℕ) (now : List Slot) (t : CallHistory) : Type 0 where
  pub filled : Filled h.pair slots i now t.pair
  pub noted : t ≡ followed_by h (made_in slots filled.answers) t.pair

pub noted_none : (h : CallHistory) (slots : List Slot) → FilledAndNoted h slots 0 slots h
unfolding filled_none
noted_none h slots = record { filled = filled_none h.pair slots; noted = noted_nothing h ∙ ap (λ x. followed_by h x h.pair) (sym (made_none slots)) }

pub noted_next : {h t u : CallHistory} {slots now : List Slot} {i : ℕ} (d : Slot) (a : Answer) → FilledAndNoted h slots i now t → i < length slots →
    PerformsAndNotes t (call_of (get_or now i d).call) a u → FilledAndNoted h slots (suc i) (set now i (record (get_or now i d) { answer = Some a })) u
noted_next {h} {u = u} {slots = slots} {now = now} {i = i} d a f l p =
    let n = filled_next d a f.filled l p.performs in
    record { filled = n.filled; noted = noted_together h (made_in slots f.filled.answers) ((call_of (get_or now i d).call, a) ∷ []) f.noted p.noted ∙ ap (λ x. followed_by h x u.pair) (sym n.made) }

pub noted_all : {h t : CallHistory} {slots now : List Slot} {i : ℕ} → Happened h → FilledAndNoted h slots i now t → i ≡ length slots → RunsAndNotes h slots now t
noted_all {h} {t} a f all =
    let keeps = leads_keep f.filled.leads in
    record {
      runs = record { answers = f.filled.answers; one_each = f.filled.as_many ∙ all; answered = f.filled.stand; leads = f.filled.leads; keeps = keeps };
      noted = f.noted;
      never_shorter = never_shorter h a keeps;
    }
