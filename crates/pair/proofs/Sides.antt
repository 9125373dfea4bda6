-- What a call makes of one side of a pair, it makes of the pair.
use Rattle.std.proofs.Common.{◌≡◌, ℕ, Bool, true, false, cond, leb, List, length, None, Ok, Err, Option, Result, sym, refl, ap, subst, ◌∙◌}
use Rattle.wire.specs.declared.refusals.Refusal.{Refusal}
use Rattle.wire.specs.declared.refusals.Refusal.TheVariants.{ShortBuffer, WrongPhase}
use Rattle.wire.specs.declared.letters.Letter.{Letter}
use Rattle.message_log.specs.Calls.{takes}
use Rattle.rules.specs.declared.answers.Received.{Received}
use Rattle.rules.specs.State.{Pair, Outcome}
use Rattle.rules.specs.Changes.{refuses}
use Rattle.rules.specs.Frames.{lack, given, left}
use Rattle.rules.specs.Hub.{listens, hub_sends}
use Rattle.rules.specs.Seat.{is_apart, seat_sends}
use Rattle.rules.specs.Calls.{Done, publishes, publish, finish, busy, last_session, roll, tell, say, leave}
use Rattle.rules.specs.declared.answers.Answer.{Answer}
use Rattle.rules.specs.Rounds.{Call, Step, did, refusal, HubReceive, SeatReceive, HubSend, SeatSend, lent_short, HubReceives, SeatReceives, hub_deaf, hub_hears_bytes, seat_deaf, seat_hears_bytes, short_buffer, hub_receives, seat_receives, hub_sends_one, seat_sends_one}
use Rattle.rules.specs.Sides.{hub_side_of, with_hub_side, with_hub_core, seat_side_of, with_seat_side, with_seat_core, on_side}
use Rattle.rules.proofs.Blind.{along}
use Rattle.rules.proofs.Sides.{hub_hears_side, seat_hears_side, hub_sends_core, seat_sends_core, tell_core, say_core, leave_core}
use Rattle.framing.specs.Calling.{answered, unless_short}
use Rattle.hub.specs.Receives as Hub
use Rattle.hub.specs.Sends.{told, sends}
use Rattle.seat.specs.Receives as Seat
use Rattle.pair.specs.Steps.{Does, ReceivesAtHub, ReceivesAtSeat, SendsFromHub, SendsFromSeat}

-- a rule that looks at the hub's side alone, or at the seat's, and leaves the rest alone
abbrev pub OfHub : {R : Type 0} → (Pair → Outcome R) → Type 0
OfHub rule = (s x : Pair) → rule (with_hub_side s x) ≡ on_side (with_hub_side s) (rule x)

abbrev pub OfSeat : {R : Type 0} → (Pair → Outcome R) → Type 0
OfSeat rule = (s x : Pair) → rule (with_seat_side s x) ≡ on_side (with_seat_side s) (rule x)

pub hub_core : {R : Type 0} (rule : Pair → Outcome R) → ((s t : Pair) → rule (with_hub_core t s) ≡ on_side (with_hub_core t) (rule s)) → OfHub rule
hub_core rule h s x = h x (with_hub_side s x) ∙ ap (on_side (with_hub_side s)) (sym (h x x))

pub seat_core : {R : Type 0} (rule : Pair → Outcome R) → ((s t : Pair) → rule (with_seat_core t s) ≡ on_side (with_seat_core t) (rule s)) → OfSeat rule
seat_core rule h s x = h x (with_seat_side s x) ∙ ap (on_side (with_seat_side s)) (sym (h x x))

-- A call that made this of the hub's side, and left the rest: what holds by a short buffer, or by the rule, holds of the pair.
pub hub_calls : {R : Type 0} (rule : Pair → Outcome R) (Holds : Outcome R → Type 0) (c : Call) (s t : Pair) (r : Result R Refusal) → OfHub rule →
    (lent_short c s ≡ true → Holds (refuses ShortBuffer s)) → (lent_short c s ≡ false → Holds (rule s)) → with_hub_side s t ≡ t →
    answered r (hub_side_of t) ≡ cond (lent_short c s) (refuses ShortBuffer (hub_side_of s)) (rule (hub_side_of s)) → Holds (answered r t)
hub_calls {R} rule Holds c s t r own short long same = go (lent_short c s) refl
  where
    go : (b : Bool) → lent_short c s ≡ b → answered r (hub_side_of t) ≡ cond b (refuses ShortBuffer (hub_side_of s)) (rule (hub_side_of s)) → Holds (answered r t)
    go true q e = subst Holds (sym (ap (on_side (with_hub_side s)) e) ∙ ap (answered r) same) (short q)
    go false q e = subst Holds (own s (hub_side_of s) ∙ sym (ap (on_side (with_hub_side s)) e) ∙ ap (answered r) same) (long q)

pub seat_calls : {R : Type 0} (rule : Pair → Outcome R) (Holds : Outcome R → Type 0) (c : Call) (s t : Pair) (r : Result R Refusal) → OfSeat rule →
    (lent_short c s ≡ true → Holds (refuses ShortBuffer s)) → (lent_short c s ≡ false → Holds (rule s)) → with_seat_side s t ≡ t →
    answered r (seat_side_of t) ≡ cond (lent_short c s) (refuses ShortBuffer (seat_side_of s)) (rule (seat_side_of s)) → Holds (answered r t)
seat_calls {R} rule Holds c s t r own short long same = go (lent_short c s) refl
  where
    go : (b : Bool) → lent_short c s ≡ b → answered r (seat_side_of t) ≡ cond b (refuses ShortBuffer (seat_side_of s)) (rule (seat_side_of s)) → Holds (answered r t)
    go true q e = subst Holds (sym (ap (on_side (with_seat_side s)) e) ∙ ap (answered r) same) (short q)
    go false q e = subst Holds (own s (seat_side_of s) ∙ sym (ap (on_side (with_seat_side s)) e) ∙ ap (answered r) same) (long q)

-- the same of a call that is done or refused
told_short : (c : Call) (s : Pair) → refusal c ShortBuffer ≡ Answer.Done (Err ShortBuffer) → lent_short c s ≡ true → Does c s (Err ShortBuffer) s
told_short c s e q = subst (λ (a : Answer). Step s c (record { answer = a; wrote = None; after = s })) e (short_buffer c q)

pub hub_does : (rule : Pair → Done) (c : Call) (s t : Pair) (r : Result (Unit {0}) Refusal) → OfHub rule → refusal c ShortBuffer ≡ Answer.Done (Err ShortBuffer) → (lent_short c s ≡ false → Step s c (did (rule s))) → with_hub_side s t ≡ t →
    answered r (hub_side_of t) ≡ cond (lent_short c s) (refuses ShortBuffer (hub_side_of s)) (rule (hub_side_of s)) → Does c s r t
hub_does rule c s t r own e = hub_calls rule (λ (o : Done). Does c s o.answer o.after) c s t r own (told_short c s e)

pub seat_does : (rule : Pair → Done) (c : Call) (s t : Pair) (r : Result (Unit {0}) Refusal) → OfSeat rule → refusal c ShortBuffer ≡ Answer.Done (Err ShortBuffer) → (lent_short c s ≡ false → Step s c (did (rule s))) → with_seat_side s t ≡ t →
    answered r (seat_side_of t) ≡ cond (lent_short c s) (refuses ShortBuffer (seat_side_of s)) (rule (seat_side_of s)) → Does c s r t
seat_does rule c s t r own e = seat_calls rule (λ (o : Done). Does c s o.answer o.after) c s t r own (told_short c s e)

-- the rules of one side
pub of_publish : (m : List ℕ) → OfHub (publish m)
of_publish m s x = go (takes x.running.log (length m))
  where
    go : (r : Result (Unit {0}) Refusal) → publishes r m (with_hub_side s x) ≡ on_side (with_hub_side s) (publishes r m x)
    go (Ok y) = along (on_side (with_hub_side s)) x.running.finished _ _ _ _ refl refl
    go (Err e) = refl

pub of_finish : OfHub finish
of_finish s x = along (on_side (with_hub_side s)) x.running.finished _ _ _ _ refl refl

pub of_roll : OfHub roll
of_roll s x =
    along (on_side (with_hub_side s)) (busy x.hub.phase) _ _ _ _ refl
    (along (on_side (with_hub_side s)) (leb last_session x.running.log.session) _ _ _ _ refl refl)

pub of_tell : (m : List ℕ) → OfHub (tell m)
of_tell m = hub_core (tell m) (tell_core m)

pub of_say : (m : List ℕ) → OfSeat (say m)
of_say m = seat_core (say m) (say_core m)

pub of_leave : OfSeat leave
of_leave = seat_core leave leave_core

-- a receive, once the buffers are long, where the line is then left so much room
abbrev hub_hearing : ℕ → Pair → Outcome Received
hub_hearing room s = cond (listens s.hub.phase) (Hub.hears s room) (refuses WrongPhase s)

of_hearing : (room : ℕ) → OfHub (hub_hearing room)
of_hearing room s x =
    along (on_side (with_hub_side s)) (listens x.hub.phase) _ _ _ _ (hub_hears_side (given x.up (lack x.hub.frame)) (left x.up (lack x.hub.frame) room) x s) refl

pub hub_receives_once : (s t : Pair) (r : Result Received Refusal) → with_hub_side s t ≡ t → Hub.Receives (hub_side_of s) r (hub_side_of t) → ReceivesAtHub s r t
hub_receives_once s t r same h =
    hub_calls (hub_hearing t.up.room) (λ (o : Outcome Received). ReceivesAtHub s o.answer o.after) HubReceive s t r (of_hearing t.up.room)
    (short_buffer HubReceive) (λ q. hub_receives (hub_hearing t.up.room s) q (go q (listens s.hub.phase) refl)) same h.outcome
  where
    go : lent_short HubReceive s ≡ false → (b : Bool) → listens s.hub.phase ≡ b → HubReceives s (cond b (Hub.hears s t.up.room) (refuses WrongPhase s))
    go q true l = hub_hears_bytes t.up.room l (h.free q l)
    go q false l = hub_deaf l

abbrev seat_hearing : ℕ → Pair → Outcome Received
seat_hearing room s = cond (is_apart s.seat.phase) (refuses WrongPhase s) (Seat.hears s room)

of_seat_hearing : (room : ℕ) → OfSeat (seat_hearing room)
of_seat_hearing room s x =
    along (on_side (with_seat_side s)) (is_apart x.seat.phase) _ _ _ _ refl (seat_hears_side (given x.down (lack x.seat.frame)) (left x.down (lack x.seat.frame) room) x s)

pub seat_receives_once : (s t : Pair) (r : Result Received Refusal) → with_seat_side s t ≡ t → Seat.Receives (seat_side_of s) r (seat_side_of t) → ReceivesAtSeat s r t
seat_receives_once s t r same h =
    seat_calls (seat_hearing t.down.room) (λ (o : Outcome Received). ReceivesAtSeat s o.answer o.after) SeatReceive s t r (of_seat_hearing t.down.room)
    (short_buffer SeatReceive) (λ q. seat_receives (seat_hearing t.down.room s) q (go q (is_apart s.seat.phase) refl)) same h.outcome
  where
    go : lent_short SeatReceive s ≡ false → (b : Bool) → is_apart s.seat.phase ≡ b → SeatReceives s (cond b (refuses WrongPhase s) (Seat.hears s t.down.room))
    go q true l = seat_deaf l
    go q false l = seat_hears_bytes t.down.room l (h.free q l)

-- a send of the hub, whose packet the call does not tell
pub hub_sends_due : (s t : Pair) (r : Result (Option Letter) Refusal) → with_hub_side s t ≡ t → answered r (hub_side_of t) ≡ unless_short sends (hub_side_of s) → SendsFromHub s r t
hub_sends_due s t r =
    hub_calls sends (λ (o : Outcome (Option Letter)). SendsFromHub s o.answer o.after) HubSend s t r (hub_core sends (λ x y. ap told (hub_sends_core x y)))
    (λ q. (None, short_buffer HubSend q)) (λ q. ((hub_sends s).wrote, hub_sends_one q))

pub seat_sends_due : (s t : Pair) (r : Result (Option Letter) Refusal) → with_seat_side s t ≡ t → answered r (seat_side_of t) ≡ unless_short seat_sends (seat_side_of s) → SendsFromSeat s r t
seat_sends_due s t r =
    seat_calls seat_sends (λ (o : Outcome (Option Letter)). SendsFromSeat s o.answer o.after) SeatSend s t r (seat_core seat_sends seat_sends_core)
    (short_buffer SeatSend) seat_sends_one
