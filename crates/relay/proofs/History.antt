-- What happened, and what is promised of it.
use Rattle.std.proofs.Common.{◌≡◌, true, append_assoc, append-nil, List, [], ◌∷◌, ◌++◌, Ok, refl, sym, ap, ◌∙◌, subst}
use Rattle.rules.specs.State as Line
use Rattle.message_log.specs.Meaning as Log
use Rattle.rules.specs.State.{Pair}
use Rattle.rules.specs.SetUp.{Parts, set_up}
use Rattle.rules.specs.Calls.{connected}
use Rattle.rules.specs.declared.answers.Answer.{Answer}
use Rattle.rules.specs.Rounds.{Call, Step}
use Rattle.promises.specs.Book.{Book, opened, noted}
use Rattle.promises.specs.Runs.{IsPrefix, SetUp, World, Run, begins, goes_on, at_first, GrantedRounds}
use Rattle.promises.specs.Promises.{Holds, Able, Level, rounds_needed}
use Rattle.promises.proofs.Begun.{set_up_begins}
use Rattle.promises.proofs.Made.{catches_up}
use Rattle.relay.specs.Histories.{LeadsOn, no_call, then, Keeps, Performs}
use Rattle.relay.specs.CallHistory.{CallHistory, without_calls, followed_by, book_after, Happened, PromisesHold, NeverShorter, PerformsAndNotes}
use Rattle.relay.proofs.Keeping.{promised, led_together, keeps_on}

-- what is set up is a pair of which the promises speak
pub set_up_of : (p q : Parts) {s : Pair} → p ≡ q → Log.Sound p.hub_log → Log.Sound p.seat_log → Line.Steady p.up → Line.Steady p.down → Ok s ≡ set_up p → (set_up q ≡ Ok s) × SetUp s
set_up_of p q {s} same h k u d e = (subst (λ x. set_up x ≡ Ok s) same (sym e), set_up_begins p s h k u d (sym e))

-- nothing has happened yet
pub begins_with : (s : Pair) → SetUp s → Happened (without_calls s)
begins_with s u = record { now = at_first s; stands = refl; led = no_call; promised = promised s (at_first s) (u, begins) }

run_of : {v w : World} {made : List (Call × Answer)} → LeadsOn v made w → Run Step v w
run_of no_call = begins
run_of (then l call d s) = goes_on (run_of l) call d s

-- what keeps the promises goes on with what happened
pub happens : (h : CallHistory) {made : List (Call × Answer)} {t : Pair} → Happened h → Keeps h.pair made t → Happened (followed_by h made t)
happens h a k =
    let f = keeps_on k a.promised.history a.stands in
    record { now = f.now; stands = f.stands; led = led_together a.led f.led; promised = f.promised }

pub never_shorter : (h : CallHistory) {made : List (Call × Answer)} {t : Pair} → Happened h → Keeps h.pair made t → NeverShorter h (followed_by h made t)
never_shorter h {made} {t} a k =
    let f = keeps_on k a.promised.history a.stands in
    subst (λ x. x.held.session ≡ h.pair.held.session → IsPrefix h.pair.held.messages x.held.messages) f.stands
    (subst (λ y. f.now.pair.held.session ≡ y.held.session → IsPrefix y.held.messages f.now.pair.held.messages) a.stands (f.promised.never_shorter a.now a.promised.history (run_of f.led)))

-- the book of calls that were made
book_next : (b : Book) (made : List (Call × Answer)) (call : Call) (answer : Answer) → book_after b (made ++ (call, answer) ∷ []) ≡ noted call answer (book_after b made)
book_next b [] call answer = refl
book_next b (c ∷ made) call answer = book_next (noted c.0 c.1 b) made call answer

book_led : {o : Pair} {made : List (Call × Answer)} {w : World} → LeadsOn (at_first o) made w → w.book ≡ book_after (opened o.running.log) made
book_led no_call = refl
book_led {o} (then {made} l call d s) = ap (noted call d.answer) (book_led l) ∙ sym (book_next (opened o.running.log) made call d.answer)

pub promises_hold : {h : CallHistory} → Happened h → PromisesHold h
promises_hold {h} a =
    let p = a.promised in
    record {
      happened = a;
      never_wrong = subst (λ x. IsPrefix h.pair.held.messages (x.lists h.pair.held.session)) (book_led a.led) (subst (λ x. IsPrefix x.held.messages (a.now.book.lists x.held.session)) a.stands p.never_wrong);
      in_step_is_true = subst (λ x. x.seat.in_step ≡ true → Holds a.now.note x.held) a.stands p.in_step_is_true;
      catches_up = λ how t. subst (λ x. Able how x → GrantedRounds Step (rounds_needed how x) (connected how x) t → Level x.running.log t) a.stands (λ b q. catches_up h.first t a.now how p.history b q);
    }

-- no call is noted, and calls are noted behind others
pub noted_nothing : (h : CallHistory) → h ≡ followed_by h [] h.pair
noted_nothing h = ap (λ x. record { first = h.first; calls = x; pair = h.pair }) (sym (append-nil h.calls))

pub noted_together : (h : CallHistory) {t u : CallHistory} (made more : List (Call × Answer)) → t ≡ followed_by h made t.pair → u ≡ followed_by t more u.pair → u ≡ followed_by h (made ++ more) u.pair
noted_together h {t} {u} made more e f =
    f ∙ ap (λ (x : CallHistory). followed_by x more u.pair) e ∙ ap (λ x. record { first = h.first; calls = x; pair = u.pair }) (append_assoc h.calls made more)

-- a call that was performed, and noted
pub performs_and_notes : (h : CallHistory) (t : Pair) (call : Call) (answer : Answer) (calls : List (Call × Answer)) → Happened h → Performs h.pair call answer t → calls ≡ h.calls ++ (call, answer) ∷ [] →
    PerformsAndNotes h call answer (record { first = h.first; calls = calls; pair = t })
performs_and_notes h t call answer calls a p e =
    subst (λ x. PerformsAndNotes h call answer (record { first = h.first; calls = x; pair = t })) (sym e)
    (record { performs = p; noted = refl; never_shorter = never_shorter h a p.keeps })

pub happens_next : (h : CallHistory) (t : Pair) (call : Call) (answer : Answer) (calls : List (Call × Answer)) → Happened h → Performs h.pair call answer t → calls ≡ h.calls ++ (call, answer) ∷ [] →
    Happened (record { first = h.first; calls = calls; pair = t })
happens_next h t call answer calls a p e = subst (λ x. Happened (record { first = h.first; calls = x; pair = t })) (sym e) (happens h a p.keeps)
