-- What an end does on its own side it does in the pair.
use Rattle.std.proofs.Common.{◌≡◌, ℕ, ◌+◌, Bool, true, false, cond, ◌&&◌, eqb, ltb, leb, List, [], ◌∷◌, ◌++◌, length, Some, None, Ok, Err, Option, Result, refl, ap}
use Rattle.wire.specs.declared.faults.PacketFault.{PacketFault}
use Rattle.wire.specs.declared.refusals.Refusal.{Refusal}
use Rattle.wire.specs.declared.refusals.Refusal.TheVariants.{BadPacket, LogFull, LineFull, WrongPhase, MessageTooLong}
use Rattle.wire.specs.Limits.{message_limit}
use Rattle.wire.specs.declared.letters.Letter.TheVariants as L
use Rattle.wire.specs.declared.statuses.Status.{Status}
use Rattle.wire.specs.declared.statuses.Status.TheVariants.{Accepted}
use Rattle.wire.specs.declared.goodbyes.GoodByeReason.{GoodByeReason}
use Rattle.wire.specs.declared.goodbyes.GoodByeReason.TheVariants as G
use Rattle.wire.specs.declared.logouts.LogoutReason.{LogoutReason}
use Rattle.wire.specs.declared.logouts.LogoutReason.TheVariants as X
use Rattle.packet.specs.Values.{Value, encode, letter, good_bye, logout_request, login_response, synchronization_complete, sequenced, unsequenced, seat_heartbeat, retransmission_request, hub_heartbeat, end_of_session}
use Rattle.packet.specs.Decoding.{Decoded, part, whole}
use Rattle.line.specs.Lines.{LineView, fits}
use Rattle.message_log.specs.Meaning.{count, nth}
use Rattle.message_log.specs.Calls.{takes, has}
use Rattle.account.specs.Logins.{Asked}
use Rattle.rules.specs.declared.phases.HubPhase.{HubPhase}
use Rattle.rules.specs.declared.phases.HubPhase.TheVariants.{Shut, Waiting, Answering, Rejecting, Serving, Filling}
use Rattle.rules.specs.declared.phases.SeatPhase.{SeatPhase}
use Rattle.rules.specs.declared.phases.SeatPhase.TheVariants.{Apart, Asking, Live}
use Rattle.rules.specs.declared.answers.Received.{Received}
use Rattle.rules.specs.declared.answers.Received.TheVariants.{Acted}
use Rattle.rules.specs.State.{Pair, Outcome}
use Rattle.rules.specs.Changes.{grants, refuses, hub_to, hub_leaves, hub_writes, hub_took, seat_to, seat_writes, seat_took}
use Rattle.rules.specs.Frames.{judged}
use Rattle.rules.specs.Hub.{hub_gone, hub_letters, admitted, decided, hub_acts, hub_judges, hub_hears, beat_after, first_number, owes, Due, due, none_due, sent_all, hub_due, Sending, hub_posts, is_shut, hub_sends}
use Rattle.rules.specs.Seat.{seat_gone, is_apart, seat_letters, suits, next_number, seat_keeps, seat_skips, seat_complete, seat_acts, seat_judges, seat_hears, seat_requested, live_due, seat_due, seat_posts, seat_sends}
use Rattle.rules.specs.Calls.{done, is_serving, is_live, tell, say, leave, hub_timed, seat_timed, waiting_limit, silence_limit}
use Rattle.rules.specs.Sides.{with_hub_side, with_seat_side, with_hub_core, with_seat_core, on_side, on_core}
use Rattle.rules.proofs.Cases.{Act, hub_acts_lem, seat_acts_lem}
use Rattle.wire.specs.declared.letters.Letter.{Letter}
use Rattle.rules.proofs.Blind.{along}

-- receives of the hub
abbrev OfHub : Act → Type 0
OfHub f = (s t : Pair) → f (with_hub_side t s) ≡ on_side (with_hub_side t) (f s)

hub_gone_side : (r : GoodByeReason) (s t : Pair) → hub_gone r (with_hub_side t s) ≡ with_hub_side t (hub_gone r s)
hub_gone_side r s t = go (fits s.down (encode (good_bye r [])))
  where
    go : (b : Bool) → hub_leaves Shut (cond b (hub_writes (good_bye r []) (with_hub_side t s)) (with_hub_side t s)) ≡ with_hub_side t (hub_leaves Shut (cond b (hub_writes (good_bye r []) s) s))
    go true = refl
    go false = refl

hub_refused : (x : Refusal) (r : GoodByeReason) → OfHub (λ s. refuses x (hub_gone r s))
hub_refused x r s t = ap (λ u. refuses {R = Received} x u) (hub_gone_side r s t)

admitted_side : (o : Option ℕ) (n : ℕ) (s t : Pair) → admitted o n (with_hub_side t s) ≡ with_hub_side t (admitted o n s)
admitted_side None n s t = refl
admitted_side (Some i) n s t = refl

decided_side : (x : Status) (a : Asked) (s t : Pair) → decided x a (with_hub_side t s) ≡ with_hub_side t (decided x a s)
decided_side Accepted a s t = admitted_side _ a.number s t
decided_side status a s t = refl

hub_acts_side : (p : HubPhase) (v : Value) → OfHub (λ s. hub_acts p v s)
hub_acts_side p v =
    hub_acts_lem OfHub (λ f. hub_refused (BadPacket f) G.BadPacket) (λ r s t. refl) (λ r s t. refl) (λ a e s t. refl)
    (λ a s t. ap (λ u. grants (Acted L.LoginRequest) u) (decided_side _ a s t)) p v

hub_judges_side : (r : Result Decoded PacketFault) (got frame : List ℕ) (w : LineView) (s t : Pair) → hub_judges r got frame w (with_hub_side t s) ≡ on_side (with_hub_side t) (hub_judges r got frame w s)
hub_judges_side (Ok part) got frame w s t = refl
hub_judges_side (Ok (whole v)) got frame w s t = hub_acts_side s.hub.phase v (hub_took got [] w s) t
hub_judges_side (Err f) got frame w s t = hub_refused (BadPacket f) G.BadPacket (hub_took got [] w s) t

pub hub_hears_side : (got : List ℕ) (w : LineView) (s t : Pair) → hub_hears got w (with_hub_side t s) ≡ on_side (with_hub_side t) (hub_hears got w s)
hub_hears_side [] w s t = refl
hub_hears_side (b ∷ bs) w s t = hub_judges_side (judged (hub_letters s.hub.phase) (s.hub.frame ++ (b ∷ bs))) (b ∷ bs) (s.hub.frame ++ (b ∷ bs)) w s t

-- receives of the seat
abbrev OfSeat : Act → Type 0
OfSeat f = (s t : Pair) → f (with_seat_side t s) ≡ on_side (with_seat_side t) (f s)

seat_gone_side : (r : LogoutReason) (s t : Pair) → seat_gone r (with_seat_side t s) ≡ with_seat_side t (seat_gone r s)
seat_gone_side r s t = go (fits s.up (encode (logout_request r [])))
  where
    go : (b : Bool) → seat_to Apart (cond b (seat_writes (logout_request r []) (with_seat_side t s)) (with_seat_side t s)) ≡ with_seat_side t (seat_to Apart (cond b (seat_writes (logout_request r []) s) s))
    go true = refl
    go false = refl

seat_refused : (x : Refusal) (r : LogoutReason) → OfSeat (λ s. refuses x (seat_gone r s))
seat_refused x r s t = ap (λ u. refuses {R = Received} x u) (seat_gone_side r s t)

keeps_side : (r : Result (Unit {0}) Refusal) (m : List ℕ) → OfSeat (λ s. seat_keeps r m s)
keeps_side (Ok x) m s t = refl
keeps_side (Err x) m s t = seat_refused LogFull X.Terminating s t

skips_side : (o : Option ℕ) → OfSeat (λ s. seat_skips o s)
skips_side None s t = seat_refused _ X.BadPacket s t
skips_side (Some e) s t = refl

completes_side : (o : Option ℕ) → OfSeat (λ s. seat_complete o s)
completes_side None s t = refl
completes_side (Some e) s t = seat_refused _ X.BadPacket s t

seat_acts_side : (p : SeatPhase) (v : Value) → OfSeat (λ s. seat_acts p v s)
seat_acts_side p v =
    seat_acts_lem OfSeat (λ f. seat_refused (BadPacket f) X.BadPacket) (λ r s t. refl) (λ r s t. refl)
    (λ x n s t. along (on_side (with_seat_side t)) (suits s.seat.session x) _ _ _ _ refl (seat_refused _ X.BadPacket s t))
    (λ x s t. refl)
    (λ n m s t. along (on_side (with_seat_side t)) (eqb n (next_number s.held)) _ _ _ _ (keeps_side (takes s.held (length m)) m s t)
    (along (on_side (with_seat_side t)) (ltb n (next_number s.held)) _ _ _ _ refl (skips_side s.seat.fetch s t)))
    (λ s t. completes_side s.seat.fetch s t) p v

seat_judges_side : (r : Result Decoded PacketFault) (got frame : List ℕ) (w : LineView) (s t : Pair) → seat_judges r got frame w (with_seat_side t s) ≡ on_side (with_seat_side t) (seat_judges r got frame w s)
seat_judges_side (Ok part) got frame w s t = refl
seat_judges_side (Ok (whole v)) got frame w s t = seat_acts_side s.seat.phase v (seat_took got [] w s) t
seat_judges_side (Err f) got frame w s t = seat_refused (BadPacket f) X.BadPacket (seat_took got [] w s) t

pub seat_hears_side : (got : List ℕ) (w : LineView) (s t : Pair) → seat_hears got w (with_seat_side t s) ≡ on_side (with_seat_side t) (seat_hears got w s)
seat_hears_side [] w s t = refl
seat_hears_side (b ∷ bs) w s t = seat_judges_side (judged (seat_letters s.seat.phase s.seat.fetch) (s.seat.frame ++ (b ∷ bs))) (b ∷ bs) (s.seat.frame ++ (b ∷ bs)) w s t

-- sends of the hub: neither the up line nor the frame is looked at
hub_posts_core : (v : Value) (u s t : Pair) → hub_posts (Some v) (with_hub_core t u) (with_hub_core t s) ≡ on_core (with_hub_core t) (hub_posts (Some v) u s)
hub_posts_core v u s t = go (fits s.down (encode v))
  where
    go : (b : Bool) → cond b (record { answer = Ok (Some (letter v)); wrote = Some v; after = hub_writes v (with_hub_core t u) }) (record { answer = Err LineFull; wrote = None; after = with_hub_core t s }) ≡ on_core (with_hub_core t) (cond b (record { answer = Ok (Some (letter v)); wrote = Some v; after = hub_writes v u }) (record { answer = Err LineFull; wrote = None; after = s }))
    go true = refl
    go false = refl

abbrev posts : Due → Pair → Sending
posts d s = hub_posts d.packet d.then s

sent_all_core : (q n : ℕ) (d : Bool) (s t : Pair) → posts (sent_all q n d (with_hub_core t s)) (with_hub_core t s) ≡ on_core (with_hub_core t) (posts (sent_all q n d s) s)
sent_all_core q n true s t = hub_posts_core synchronization_complete (hub_to (Serving q n false) s) s t
sent_all_core q n false s t = go s.running.finished (ltb beat_after s.hub.unsent)
  where
    go : (a b : Bool) → posts (cond a (due end_of_session (hub_leaves Shut (with_hub_core t s))) (cond b (due hub_heartbeat (with_hub_core t s)) (none_due (with_hub_core t s)))) (with_hub_core t s) ≡ on_core (with_hub_core t) (posts (cond a (due end_of_session (hub_leaves Shut s)) (cond b (due hub_heartbeat s) (none_due s))) s)
    go true b = hub_posts_core end_of_session (hub_leaves Shut s) s t
    go false true = hub_posts_core hub_heartbeat s s t
    go false false = refl

serving_core : (q n : ℕ) (d b : Bool) (s t : Pair) → posts (cond b (due (sequenced n (nth s.running.log n)) (hub_to (Serving q (n + 1) d) (with_hub_core t s))) (sent_all q n d (with_hub_core t s))) (with_hub_core t s) ≡ on_core (with_hub_core t) (posts (cond b (due (sequenced n (nth s.running.log n)) (hub_to (Serving q (n + 1) d) s)) (sent_all q n d s)) s)
serving_core q n d true s t = hub_posts_core (sequenced n (nth s.running.log n)) (hub_to (Serving q (n + 1) d) s) s t
serving_core q n d false s t = sent_all_core q n d s t

filling_core : (n l : ℕ) (b : Bool) (s t : Pair) → posts (cond b (due (sequenced n (nth s.running.log n)) (hub_to (Filling (n + 1) l) (with_hub_core t s))) (none_due (hub_leaves Shut (with_hub_core t s)))) (with_hub_core t s) ≡ on_core (with_hub_core t) (posts (cond b (due (sequenced n (nth s.running.log n)) (hub_to (Filling (n + 1) l) s)) (none_due (hub_leaves Shut s))) s)
filling_core n l true s t = hub_posts_core (sequenced n (nth s.running.log n)) (hub_to (Filling (n + 1) l) s) s t
filling_core n l false s t = refl

pub hub_sends_core : (s t : Pair) → hub_sends (with_hub_core t s) ≡ on_core (with_hub_core t) (hub_sends s)
hub_sends_core s t = go s.hub.phase
  where
    go : (h : HubPhase) → cond (is_shut h) (record { answer = Err WrongPhase; wrote = None; after = with_hub_core t s }) (posts (hub_due h (with_hub_core t s)) (with_hub_core t s)) ≡ on_core (with_hub_core t) (cond (is_shut h) (record { answer = Err WrongPhase; wrote = None; after = s }) (posts (hub_due h s) s))
    go Shut = refl
    go Waiting = refl
    go (Answering q) = hub_posts_core (login_response Accepted s.running.log.session (count s.running.log)) (hub_to (Serving q (first_number q (count s.running.log)) (owes q (count s.running.log))) s) s t
    go (Rejecting x) = hub_posts_core (login_response x 0 0) (hub_leaves Shut s) s t
    go (Serving q n d) = serving_core q n d (has s.running.log n) s t
    go (Filling n l) = filling_core n l (leb n l && has s.running.log n) s t

pub tell_core : (m : List ℕ) (s t : Pair) → tell m (with_hub_core t s) ≡ on_side (with_hub_core t) (tell m s)
tell_core m s t = go (ltb message_limit (length m)) (fits s.down (encode (unsequenced m))) (is_serving s.hub.phase)
  where
    go : (a b c : Bool) → cond a (refuses {R = Unit {0}} MessageTooLong (with_hub_core t s)) (cond b (cond c (done (hub_writes (unsequenced m) (with_hub_core t s))) (refuses WrongPhase (with_hub_core t s))) (refuses LineFull (with_hub_core t s))) ≡ on_side (with_hub_core t) (cond a (refuses MessageTooLong s) (cond b (cond c (done (hub_writes (unsequenced m) s)) (refuses WrongPhase s)) (refuses LineFull s)))
    go true b c = refl
    go false true true = refl
    go false true false = refl
    go false false c = refl

hub_gone_core : (r : GoodByeReason) (s t : Pair) → hub_gone r (with_hub_core t s) ≡ with_hub_core t (hub_gone r s)
hub_gone_core r s t = go (fits s.down (encode (good_bye r [])))
  where
    go : (b : Bool) → hub_leaves Shut (cond b (hub_writes (good_bye r []) (with_hub_core t s)) (with_hub_core t s)) ≡ with_hub_core t (hub_leaves Shut (cond b (hub_writes (good_bye r []) s) s))
    go true = refl
    go false = refl

pub hub_timed_core : (h : HubPhase) (s t : Pair) → hub_timed h (with_hub_core t s) ≡ with_hub_core t (hub_timed h s)
hub_timed_core Waiting s t = along (with_hub_core t) (ltb waiting_limit s.hub.waited) _ _ _ _ (hub_gone_core G.LoginTimeout s t) refl
hub_timed_core (Serving q n d) s t = along (with_hub_core t) (ltb silence_limit s.hub.silent) _ _ _ _ refl refl
hub_timed_core phase s t = refl

-- sends of the seat: neither the down line nor the frame is looked at
seat_posts_core : (v : Value) (u s t : Pair) → seat_posts (Some v) (with_seat_core t u) (with_seat_core t s) ≡ on_side (with_seat_core t) (seat_posts (Some v) u s)
seat_posts_core v u s t = go (fits s.up (encode v))
  where
    go : (b : Bool) → cond b (grants (Some (letter v)) (seat_writes v (with_seat_core t u))) (refuses LineFull (with_seat_core t s)) ≡ on_side (with_seat_core t) (cond b (grants (Some (letter v)) (seat_writes v u)) (refuses LineFull s))
    go true = refl
    go false = refl

abbrev seat_posts_lem : Due → Pair → Outcome (Option Letter)
seat_posts_lem d s = seat_posts d.packet d.then s

live_core : (f : Option ℕ) (s t : Pair) → seat_posts_lem (live_due f (with_seat_core t s)) (with_seat_core t s) ≡ on_side (with_seat_core t) (seat_posts_lem (live_due f s) s)
live_core None s t = go (ltb beat_after s.seat.unsent)
  where
    go : (b : Bool) → seat_posts_lem (cond b (due seat_heartbeat (with_seat_core t s)) (none_due (with_seat_core t s))) (with_seat_core t s) ≡ on_side (with_seat_core t) (seat_posts_lem (cond b (due seat_heartbeat s) (none_due s)) s)
    go true = seat_posts_core seat_heartbeat s s t
    go false = refl
live_core (Some e) s t = go s.seat.requested (ltb (count s.held) e)
  where
    go : (a b : Bool) → seat_posts_lem (cond a (none_due (with_seat_core t s)) (cond b (due (retransmission_request (next_number s.held) e) (seat_requested (with_seat_core t s))) (none_due (with_seat_core t s)))) (with_seat_core t s) ≡ on_side (with_seat_core t) (seat_posts_lem (cond a (none_due s) (cond b (due (retransmission_request (next_number s.held) e) (seat_requested s)) (none_due s))) s)
    go true b = refl
    go false true = seat_posts_core (retransmission_request (next_number s.held) e) (seat_requested s) s t
    go false false = refl

pub seat_sends_core : (s t : Pair) → seat_sends (with_seat_core t s) ≡ on_side (with_seat_core t) (seat_sends s)
seat_sends_core s t = go s.seat.phase
  where
    go : (p : SeatPhase) → cond (is_apart p) (refuses WrongPhase (with_seat_core t s)) (seat_posts_lem (seat_due p (with_seat_core t s)) (with_seat_core t s)) ≡ on_side (with_seat_core t) (cond (is_apart p) (refuses WrongPhase s) (seat_posts_lem (seat_due p s) s))
    go Apart = refl
    go Asking = refl
    go Live = live_core s.seat.fetch s t

pub say_core : (m : List ℕ) (s t : Pair) → say m (with_seat_core t s) ≡ on_side (with_seat_core t) (say m s)
say_core m s t = go (ltb message_limit (length m)) (fits s.up (encode (unsequenced m))) (is_live s.seat.phase)
  where
    go : (a b c : Bool) → cond a (refuses {R = Unit {0}} MessageTooLong (with_seat_core t s)) (cond b (cond c (done (seat_writes (unsequenced m) (with_seat_core t s))) (refuses WrongPhase (with_seat_core t s))) (refuses LineFull (with_seat_core t s))) ≡ on_side (with_seat_core t) (cond a (refuses MessageTooLong s) (cond b (cond c (done (seat_writes (unsequenced m) s)) (refuses WrongPhase s)) (refuses LineFull s)))
    go true b c = refl
    go false true true = refl
    go false true false = refl
    go false false c = refl

pub leave_core : (s t : Pair) → leave (with_seat_core t s) ≡ on_side (with_seat_core t) (leave s)
leave_core s t = go (fits s.up (encode (logout_request X.Done []))) (is_apart s.seat.phase)
  where
    go : (a b : Bool) → cond a (cond b (refuses {R = Unit {0}} WrongPhase (with_seat_core t s)) (done (seat_to Apart (seat_writes (logout_request X.Done []) (with_seat_core t s))))) (refuses LineFull (with_seat_core t s)) ≡ on_side (with_seat_core t) (cond a (cond b (refuses WrongPhase s) (done (seat_to Apart (seat_writes (logout_request X.Done []) s)))) (refuses LineFull s))
    go true true = refl
    go true false = refl
    go false b = refl

pub seat_timed_core : (s t : Pair) → seat_timed (with_seat_core t s) ≡ with_seat_core t (seat_timed s)
seat_timed_core s t = along (with_seat_core t) (is_apart s.seat.phase) _ _ _ _ refl (along (with_seat_core t) (ltb silence_limit s.seat.silent) _ _ _ _ refl refl)
