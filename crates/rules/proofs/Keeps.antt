-- Steady lines stay sound and buffers last, from call to call.
use Rattle.std.proofs.Common.{◌≡◌, ℕ, ◌+◌, ◌≤◌, Bool, true, false, cond, ◌&&◌, eqb, ltb, leb, List, [], ◌∷◌, ◌++◌, length, get_or, drop, Some, None, Ok, Err, Option, Result, sym, refl, ap, subst, arith, length-append, length-drop}
use Rattle.std.proofs.lemmas.Bool.{cond_both, ltb-false}
use Rattle.wire.specs.declared.faults.Fault.{Fault}
use Rattle.wire.specs.declared.faults.PacketFault.{PacketFault}
use Rattle.wire.specs.declared.refusals.Refusal.{Refusal}
use Rattle.wire.specs.declared.refusals.Refusal.TheVariants.{MessageTooLong, LineFull, WrongPhase, SessionFinished, HubBusy, LastSession, NoSession, NothingToFetch}
use Rattle.wire.specs.Limits.{message_limit}
use Rattle.wire.specs.declared.letters.Letter.{Letter}
use Rattle.wire.specs.declared.letters.Letter.TheVariants as L
use Rattle.wire.specs.declared.statuses.Status.{Status}
use Rattle.wire.specs.declared.statuses.Status.TheVariants.{Accepted}
use Rattle.wire.specs.declared.goodbyes.GoodByeReason.{GoodByeReason}
use Rattle.wire.specs.declared.goodbyes.GoodByeReason.TheVariants as G
use Rattle.wire.specs.declared.logouts.LogoutReason.{LogoutReason}
use Rattle.wire.specs.declared.logouts.LogoutReason.TheVariants as X
use Rattle.packet.specs.Values.{Value, encode, sequenced, unsequenced, synchronization_complete, retransmission_request, good_bye, logout_request, end_of_session, hub_heartbeat, seat_heartbeat}
use Rattle.packet.specs.Decoding.{Decoded, part, whole, decode}
use Rattle.packet.proofs.Fronts.{decode_short}
use Rattle.packet.proofs.Back.{length_encode}
use Rattle.line.specs.Lines.{LineView, joined, cleared, fits}
use Rattle.message_log.specs.Meaning.{count, nth, added}
use Rattle.message_log.specs.Calls.{fronted, takes, has}
use Rattle.account.specs.Logins.{Asked}
use Rattle.rules.specs.declared.phases.HubPhase.{HubPhase}
use Rattle.rules.specs.declared.phases.HubPhase.TheVariants.{Shut, Waiting, Answering, Rejecting, Serving, Filling}
use Rattle.rules.specs.declared.phases.SeatPhase.{SeatPhase}
use Rattle.rules.specs.declared.phases.SeatPhase.TheVariants.{Apart, Asking, Live}
use Rattle.rules.specs.declared.phases.How.{How}
use Rattle.rules.specs.declared.phases.How.TheVariants.{Join, Anew, Fetch}
use Rattle.rules.specs.declared.answers.Received.{Received}
use Rattle.rules.specs.declared.answers.Received.TheVariants.{Acted}
use Rattle.rules.specs.declared.answers.Report.{Report}
use Rattle.rules.specs.State.{Steady, Buffers, Pair, Outcome}
use Rattle.rules.specs.Changes.{with_log, grants, refuses, hub_to, hub_writes, hub_took, hub_leaves, seat_writes, seat_took, seat_to, wiped}
use Rattle.rules.specs.Frames.{lack, given, left, Free, among, judged}
use Rattle.rules.specs.Hub.{hub_gone, hub_letters, decided, admitted, hub_acts, hub_judges, hub_hears, Due, due, none_due, beat_after, hub_due, sent_all, Sending, is_shut, hub_posts, hub_sends}
use Rattle.rules.specs.Seat.{seat_gone, seat_letters, is_apart, next_number, seat_keeps, seat_skips, seat_complete, seat_acts, seat_judges, seat_hears, seat_due, seat_requested, live_due, seat_posts, seat_sends}
use Rattle.rules.specs.Calls.{done, asked, asking, login_of, connect, connected, publishes, busy, last_session, is_serving, is_live, tick, hub_timed, counted, waiting_limit, silence_limit}
use Rattle.rules.specs.Rounds.{HubReceives, hub_deaf, hub_hears_bytes, SeatReceives, seat_deaf, seat_hears_bytes, Drains, ends, more, Rounds, Call, Effect, Step, short_buffer, connects, cuts, publishes as publishing, finishes, rolls, tells, says, leaves, hub_receives, seat_receives, hub_sends_one, seat_sends_one, ticks, rounds}
use Rattle.rules.specs.Laws.{LinesStaySound, BuffersLast, FramesStayParts, FrameBuffersKeep}
use Rattle.rules.proofs.Cases.{Act, hub_acts_lem, seat_acts_lem}
use Rattle.rules.proofs.Frames.{Filled, filled_same, filled_none, filled_trans, filled_laid, placed_part, given_short}

-- what of a pair counts here
pub record Sight : Type 0 where
  pub up : LineView
  pub down : LineView
  pub hub_frame : List ℕ
  pub seat_frame : List ℕ
  pub buffers : Buffers

abbrev sight : Pair → Sight
sight s = record { up = s.up; down = s.down; hub_frame = s.hub.frame; seat_frame = s.seat.frame; buffers = s.buffers }

pub record Kept (x y : Sight) : Type 0 where
  pub up : Steady x.up → Steady y.up
  pub down : Steady x.down → Steady y.down
  pub hub : Filled x.hub_frame x.buffers.hub_frame y.hub_frame y.buffers.hub_frame
  pub seat : Filled x.seat_frame x.buffers.seat_frame y.seat_frame y.buffers.seat_frame
  pub out : length x.buffers.out ≤ length y.buffers.out

abbrev pub Keeps : Pair → Pair → Type 0
Keeps s t = Kept (sight s) (sight t)

hub_same : (s : Pair) → Filled s.hub.frame s.buffers.hub_frame s.hub.frame s.buffers.hub_frame
hub_same s = filled_same s.hub.frame s.buffers.hub_frame

seat_same : (s : Pair) → Filled s.seat.frame s.buffers.seat_frame s.seat.frame s.buffers.seat_frame
seat_same s = filled_same s.seat.frame s.buffers.seat_frame

pub keeps_same : (s : Pair) → Keeps s s
keeps_same s = record { up = λ x. x; down = λ x. x; hub = hub_same s; seat = seat_same s; out = omega arith }

pub keeps_trans : {x y z : Sight} → Kept x y → Kept y z → Kept x z
keeps_trans p q =
    record {
      up = λ i. q.up (p.up i);
      down = λ i. q.down (p.down i);
      hub = filled_trans p.hub q.hub;
      seat = filled_trans p.seat q.seat;
      out = omega (arith, p.out, q.out);
    }

-- one of two, and the pair in it
one_of : {A : Type 0} (pair : A → Pair) (s : Pair) (b : Bool) (x y : A) → Keeps s (pair x) → Keeps s (pair y) → Keeps s (pair (cond b x y))
one_of pair s true x y p q = p
one_of pair s false x y p q = q

either : {R : Type 0} (s : Pair) (b : Bool) (x y : Outcome R) → Keeps s x.after → Keeps s y.after → Keeps s (cond b x y).after
either s = one_of (λ o. o.after) s

-- a packet behind what waits
joined_sound : (v : LineView) (x : Value) → Steady v → Steady (joined v (encode x))
joined_sound v x i =
    record {
      sound =
          record {
            empty = λ e. absurd (omega (arith, length_encode x, length-append v.waiting (encode x), ap length e));
            within = omega (arith, i.within);
            size = i.sound.size;
            some = i.sound.some;
          };
      within = omega (arith, i.within);
    }

cleared_sound : (v : LineView) → Steady v → Steady (cleared v)
cleared_sound v i = record { sound = record { empty = λ e. refl; within = omega arith; size = i.sound.size; some = i.sound.some }; within = omega arith }

left_sound : (v : LineView) (n room : ℕ) → Free v n room → Steady v → Steady (left v n room)
left_sound v n room f i = record { sound = record { empty = f.empty; within = f.within; size = i.sound.size; some = i.sound.some }; within = f.within }

fronted_longer : (m b : List ℕ) → length b ≤ length (fronted m b)
fronted_longer m b = omega (arith, length-append m (drop (length m) b), length-drop (length m) b)

hub_writes_keeps : (v : Value) (s : Pair) → Keeps s (hub_writes v s)
hub_writes_keeps v s =
    record { up = λ x. x; down = joined_sound s.down v; hub = hub_same s; seat = seat_same s; out = fronted_longer (encode v) s.buffers.out }

seat_writes_keeps : (v : Value) (s : Pair) → Keeps s (seat_writes v s)
seat_writes_keeps v s =
    record { up = joined_sound s.up v; down = λ x. x; hub = hub_same s; seat = seat_same s; out = fronted_longer (encode v) s.buffers.out }

hub_gone_keeps : (r : GoodByeReason) (s : Pair) → Keeps s (hub_gone r s)
hub_gone_keeps r s = cond_both (fits s.down (encode (good_bye r []))) (hub_writes (good_bye r []) s) s (λ t. Keeps s t) (λ e. hub_writes_keeps (good_bye r []) s) (λ e. keeps_same s)

seat_gone_keeps : (r : LogoutReason) (s : Pair) → Keeps s (seat_gone r s)
seat_gone_keeps r s = cond_both (fits s.up (encode (logout_request r []))) (seat_writes (logout_request r []) s) s (λ t. Keeps s t) (λ e. seat_writes_keeps (logout_request r []) s) (λ e. keeps_same s)

abbrev Keeping : Act → Type 0
Keeping f = (s : Pair) → Keeps s (f s).after

admitted_keeps : (o : Option ℕ) (n : ℕ) (s : Pair) → Keeps s (admitted o n s)
admitted_keeps None n s = keeps_same s
admitted_keeps (Some i) n s = keeps_same s

decided_keeps : (t : Status) (a : Asked) (s : Pair) → Keeps s (decided t a s)
decided_keeps Accepted a s = admitted_keeps _ a.number s
decided_keeps status a s = keeps_same s

hub_acts_keep : (p : HubPhase) (v : Value) → Keeping (λ s. hub_acts p v s)
hub_acts_keep p v = hub_acts_lem Keeping (λ f s. hub_gone_keeps _ s) (λ r s. keeps_same s) (λ r s. keeps_same s) (λ a e s. keeps_same s) (λ a s. decided_keeps _ a s) p v

kept_message : (r : Result (Unit {0}) Refusal) (m : List ℕ) (s : Pair) → Keeps s (seat_keeps r m s).after
kept_message (Ok x) m s = keeps_same s
kept_message (Err r) m s = seat_gone_keeps _ s

skipped : (o : Option ℕ) (s : Pair) → Keeps s (seat_skips o s).after
skipped None s = seat_gone_keeps _ s
skipped (Some e) s = keeps_same s

completed : (o : Option ℕ) (s : Pair) → Keeps s (seat_complete o s).after
completed None s = keeps_same s
completed (Some e) s = seat_gone_keeps _ s

seat_acts_keep : (p : SeatPhase) (v : Value) → Keeping (λ s. seat_acts p v s)
seat_acts_keep p v =
    seat_acts_lem Keeping (λ f s. seat_gone_keeps _ s) (λ r s. keeps_same s) (λ r s. keeps_same s)
    (λ x n s. either s _ _ _ (keeps_same s) (seat_gone_keeps _ s))
    (λ t s. keeps_same s)
    (λ n m s.
    let above : Outcome Received = seat_skips s.seat.fetch s in
    let old : Outcome Received = grants (Acted L.Sequenced) s in
    either s (eqb n (next_number s.held)) (seat_keeps (takes s.held (length m)) m s) (cond (ltb n (next_number s.held)) old above) (kept_message (takes s.held (length m)) m s)
    (either s (ltb n (next_number s.held)) old above (keeps_same s) (skipped s.seat.fetch s)))
    (λ s. completed _ s) p v

-- the bytes taken are no more than the frame lacked, and what is then in the frame is a part
hub_took_keeps : (got frame : List ℕ) (up : LineView) (s : Pair) → (Steady s.up → Steady up) → length got ≤ lack s.hub.frame → decode frame ≡ Ok part → Keeps s (hub_took got frame up s)
hub_took_keeps got frame up s h l e =
    record { up = h; down = λ x. x; hub = filled_laid s.hub.frame s.buffers.hub_frame got frame l e; seat = seat_same s; out = omega arith }

seat_took_keeps : (got frame : List ℕ) (down : LineView) (s : Pair) → (Steady s.down → Steady down) → length got ≤ lack s.seat.frame → decode frame ≡ Ok part → Keeps s (seat_took got frame down s)
seat_took_keeps got frame down s h l e =
    record { up = λ x. x; down = h; hub = hub_same s; seat = filled_laid s.seat.frame s.buffers.seat_frame got frame l e; out = omega arith }

no_frame : decode [] ≡ Ok part
no_frame = decode_short [] (omega arith)

hub_judges_keep : (r : Result Decoded PacketFault) (got frame : List ℕ) (up : LineView) (s : Pair) → (Steady s.up → Steady up) → length got ≤ lack s.hub.frame → (r ≡ Ok part → decode frame ≡ Ok part) → Keeps s (hub_judges r got frame up s).after
hub_judges_keep (Ok part) got frame up s h l e = hub_took_keeps got frame up s h l (e refl)
hub_judges_keep (Ok (whole v)) got frame up s h l e = keeps_trans (hub_took_keeps got [] up s h l no_frame) (hub_acts_keep s.hub.phase v (hub_took got [] up s))
hub_judges_keep (Err f) got frame up s h l e = keeps_trans (hub_took_keeps got [] up s h l no_frame) (hub_gone_keeps _ (hub_took got [] up s))

hub_hears_keep : (got : List ℕ) (up : LineView) (s : Pair) → (Steady s.up → Steady up) → length got ≤ lack s.hub.frame → Keeps s (hub_hears got up s).after
hub_hears_keep [] up s h l = record { up = h; down = λ x. x; hub = hub_same s; seat = seat_same s; out = omega arith }
hub_hears_keep (b ∷ bs) up s h l =
    let frame : List ℕ = s.hub.frame ++ (b ∷ bs) in
    hub_judges_keep (judged (hub_letters s.hub.phase) frame) (b ∷ bs) frame up s h l (λ e. placed_part (among (hub_letters s.hub.phase) (get_or frame 2 0)) (decode frame) e)

seat_judges_keep : (r : Result Decoded PacketFault) (got frame : List ℕ) (down : LineView) (s : Pair) → (Steady s.down → Steady down) → length got ≤ lack s.seat.frame → (r ≡ Ok part → decode frame ≡ Ok part) → Keeps s (seat_judges r got frame down s).after
seat_judges_keep (Ok part) got frame down s h l e = seat_took_keeps got frame down s h l (e refl)
seat_judges_keep (Ok (whole v)) got frame down s h l e = keeps_trans (seat_took_keeps got [] down s h l no_frame) (seat_acts_keep s.seat.phase v (seat_took got [] down s))
seat_judges_keep (Err f) got frame down s h l e = keeps_trans (seat_took_keeps got [] down s h l no_frame) (seat_gone_keeps _ (seat_took got [] down s))

seat_hears_keep : (got : List ℕ) (down : LineView) (s : Pair) → (Steady s.down → Steady down) → length got ≤ lack s.seat.frame → Keeps s (seat_hears got down s).after
seat_hears_keep [] down s h l = record { up = λ x. x; down = h; hub = hub_same s; seat = seat_same s; out = omega arith }
seat_hears_keep (b ∷ bs) down s h l =
    let frame : List ℕ = s.seat.frame ++ (b ∷ bs) in
    let letters : List Letter = seat_letters s.seat.phase s.seat.fetch in
    seat_judges_keep (judged letters frame) (b ∷ bs) frame down s h l (λ e. placed_part (among letters (get_or frame 2 0)) (decode frame) e)

pub hub_receives_keep : (s : Pair) (o : Outcome Received) → HubReceives s o → Keeps s o.after
hub_receives_keep s _ (hub_deaf e) = keeps_same s
hub_receives_keep s _ (hub_hears_bytes room e f) =
    let n : ℕ = lack s.hub.frame in
    hub_hears_keep (given s.up n) (left s.up n room) s (left_sound s.up n room f) (given_short s.up n)

pub seat_receives_keep : (s : Pair) (o : Outcome Received) → SeatReceives s o → Keeps s o.after
seat_receives_keep s _ (seat_deaf e) = keeps_same s
seat_receives_keep s _ (seat_hears_bytes room e f) =
    let n : ℕ = lack s.seat.frame in
    seat_hears_keep (given s.down n) (left s.down n room) s (left_sound s.down n room f) (given_short s.down n)

-- what is due leaves lines and buffers alone until it is written
due_one : (s : Pair) (b : Bool) (x y : Due) → Keeps s x.then → Keeps s y.then → Keeps s (cond b x y).then
due_one s = one_of (λ d. d.then) s

hub_due_keeps : (p : HubPhase) (s : Pair) → Keeps s (hub_due p s).then
hub_due_keeps Shut s = keeps_same s
hub_due_keeps Waiting s = keeps_same s
hub_due_keeps (Answering q) s = keeps_same s
hub_due_keeps (Rejecting t) s = keeps_same s
hub_due_keeps (Serving q n o) s = due_one s (has s.running.log n) (due (sequenced n (nth s.running.log n)) (hub_to (Serving q (n + 1) o) s)) (sent_all q n o s) (keeps_same s) (all_sent o s.running.finished (ltb beat_after s.hub.unsent))
  where
    all_sent : (a b c : Bool) → Keeps s (cond a (due synchronization_complete (hub_to (Serving q n false) s)) (cond b (due end_of_session (hub_leaves Shut s)) (cond c (due hub_heartbeat s) (none_due s)))).then
    all_sent true b c = keeps_same s
    all_sent false true c = keeps_same s
    all_sent false false true = keeps_same s
    all_sent false false false = keeps_same s
hub_due_keeps (Filling n l) s = due_one s (leb n l && has s.running.log n) (due (sequenced n (nth s.running.log n)) (hub_to (Filling (n + 1) l) s)) (none_due (hub_leaves Shut s)) (keeps_same s) (keeps_same s)

hub_posts_keep : (o : Option Value) (then s : Pair) → Keeps s then → Keeps s (hub_posts o then s).after
hub_posts_keep None then s h = h
hub_posts_keep (Some v) then s h = cond_both (fits s.down (encode v)) _ _ (λ (x : Sending). Keeps s x.after) (λ e. keeps_trans h (hub_writes_keeps v then)) (λ e. keeps_same s)

pub hub_sends_keep : (s : Pair) → Keeps s (hub_sends s).after
hub_sends_keep s = cond_both (is_shut s.hub.phase) _ _ (λ (x : Sending). Keeps s x.after) (λ e. keeps_same s) (λ e. hub_posts_keep _ _ s (hub_due_keeps s.hub.phase s))

live_due_keeps : (o : Option ℕ) (s : Pair) → Keeps s (live_due o s).then
live_due_keeps None s = due_one s (ltb beat_after s.seat.unsent) (due seat_heartbeat s) (none_due s) (keeps_same s) (keeps_same s)
live_due_keeps (Some end) s = asks s.seat.requested (ltb (count s.held) end)
  where
    asks : (a b : Bool) → Keeps s (cond a (none_due s) (cond b (due (retransmission_request (next_number s.held) end) (seat_requested s)) (none_due s))).then
    asks true b = keeps_same s
    asks false true = keeps_same s
    asks false false = keeps_same s

seat_due_keeps : (p : SeatPhase) (s : Pair) → Keeps s (seat_due p s).then
seat_due_keeps Apart s = keeps_same s
seat_due_keeps Asking s = keeps_same s
seat_due_keeps Live s = live_due_keeps s.seat.fetch s

seat_posts_keep : (o : Option Value) (then s : Pair) → Keeps s then → Keeps s (seat_posts o then s).after
seat_posts_keep None then s h = h
seat_posts_keep (Some v) then s h = cond_both (fits s.up (encode v)) _ _ (λ (x : Outcome (Option Letter)). Keeps s x.after) (λ e. keeps_trans h (seat_writes_keeps v then)) (λ e. keeps_same s)

pub seat_sends_keep : (s : Pair) → Keeps s (seat_sends s).after
seat_sends_keep s = cond_both (is_apart s.seat.phase) _ _ (λ (x : Outcome (Option Letter)). Keeps s x.after) (λ e. keeps_same s) (λ e. seat_posts_keep _ _ s (seat_due_keeps s.seat.phase s))

-- the other calls
wiped_keeps : (s : Pair) → Keeps s (wiped s)
wiped_keeps s =
    record {
      up = cleared_sound s.up;
      down = cleared_sound s.down;
      hub = filled_none s.hub.frame s.buffers.hub_frame;
      seat = filled_none s.seat.frame s.buffers.seat_frame;
      out = omega arith;
    }

connected_keeps : (how : How) (s : Pair) → Keeps s (connected how s)
connected_keeps how s = keeps_trans (wiped_keeps s) (seat_writes_keeps (login_of (asked how s)) (asking how (hub_leaves Waiting (wiped s))))

connect_keeps : (how : How) (s : Pair) → Keeps s (connect how s).after
connect_keeps Join s = connected_keeps Join s
connect_keeps Anew s = connected_keeps Anew s
connect_keeps (Fetch end) s = fetches (eqb s.held.session 0) (leb end (count s.held))
  where
    fetches : (a b : Bool) → Keeps s (cond a (refuses NoSession s) (cond b (refuses NothingToFetch s) (done (connected (Fetch end) s)))).after
    fetches true b = keeps_same s
    fetches false true = keeps_same s
    fetches false false = connected_keeps (Fetch end) s

publish_keeps : (r : Result (Unit {0}) Refusal) (m : List ℕ) (s : Pair) → Keeps s (publishes r m s).after
publish_keeps (Ok x) m s = either s s.running.finished (refuses SessionFinished s) (done (with_log s (added s.running.log m) false)) (keeps_same s) (keeps_same s)
publish_keeps (Err r) m s = keeps_same s

roll_keeps : (a b : Bool) (s t : Pair) → Keeps s t → Keeps s (cond a (refuses HubBusy s) (cond b (refuses LastSession s) (done t))).after
roll_keeps true b s t h = keeps_same s
roll_keeps false true s t h = keeps_same s
roll_keeps false false s t h = h

-- a message that is too long, a full line, a wrong phase, or a packet written
written_keeps : (a b c : Bool) (s t : Pair) → Keeps s t → Keeps s (cond a (refuses MessageTooLong s) (cond b (cond c (done t) (refuses WrongPhase s)) (refuses LineFull s))).after
written_keeps true b c s t h = keeps_same s
written_keeps false false c s t h = keeps_same s
written_keeps false true false s t h = keeps_same s
written_keeps false true true s t h = h

leave_keeps : (a b : Bool) (s t : Pair) → Keeps s t → Keeps s (cond a (cond b (refuses WrongPhase s) (done t)) (refuses LineFull s)).after
leave_keeps false b s t h = keeps_same s
leave_keeps true true s t h = keeps_same s
leave_keeps true false s t h = h

hub_timed_keeps : (p : HubPhase) (s : Pair) → Keeps s (hub_timed p s)
hub_timed_keeps Waiting s = one_of (λ t. t) s (ltb waiting_limit s.hub.waited) (hub_gone G.LoginTimeout s) s (hub_gone_keeps G.LoginTimeout s) (keeps_same s)
hub_timed_keeps (Serving q n o) s = one_of (λ t. t) s (ltb silence_limit s.hub.silent) (hub_leaves Shut s) s (keeps_same s) (keeps_same s)
hub_timed_keeps phase s = keeps_same s

seat_timed_keeps : (a b : Bool) (s : Pair) → Keeps s (cond a s (cond b (seat_to Apart s) s))
seat_timed_keeps true b s = keeps_same s
seat_timed_keeps false true s = keeps_same s
seat_timed_keeps false false s = keeps_same s

tick_keeps : (s : Pair) → Keeps s (tick s)
tick_keeps s =
    let t : Pair = hub_timed s.hub.phase (counted s) in
    keeps_trans (hub_timed_keeps s.hub.phase (counted s)) (seat_timed_keeps (is_apart t.seat.phase) (ltb silence_limit t.seat.silent) t)

pub drains_keep : (R : Pair → Outcome Received → Type 0) → ((s : Pair) (o : Outcome Received) → R s o → Keeps s o.after) →
    (s : Pair) (n : ℕ) (f : Option Fault) (t : Pair) → Drains R s n f t → Keeps s t
drains_keep R h _ _ _ _ (ends s o f r g) = h s o r
drains_keep R h _ _ _ _ (more s o k n f t r g rest) = keeps_trans (h s o r) (drains_keep R h o.after n f t rest)

round_keeps : (s : Pair) (report : Report) (w : Option Value) (t : Pair) → Rounds s report w t → Keeps s t
round_keeps s report w t r =
    subst (λ u. Keeps s u) (sym r.seat_sent)
    (keeps_trans (drains_keep HubReceives hub_receives_keep _ _ _ _ r.hub_drains)
    (keeps_trans (hub_sends_keep r.heard)
    (keeps_trans (drains_keep SeatReceives seat_receives_keep _ _ _ _ r.seat_drains) (seat_sends_keep r.taken))))

pub step_keeps : (s : Pair) (c : Call) (d : Effect) → Step s c d → Keeps s d.after
step_keeps s _ _ (short_buffer c e) = keeps_same s
step_keeps s _ _ (connects how e) = connect_keeps how s
step_keeps s _ _ cuts = wiped_keeps s
step_keeps s _ _ (publishing m) = publish_keeps (takes s.running.log (length m)) m s
step_keeps s _ _ finishes = either s s.running.finished (refuses SessionFinished s) (done (with_log s s.running.log true)) (keeps_same s) (keeps_same s)
step_keeps s _ _ rolls = roll_keeps (busy s.hub.phase) (leb last_session s.running.log.session) s _ (keeps_same s)
step_keeps s _ _ (tells m e) = written_keeps (ltb message_limit (length m)) (fits s.down (encode (unsequenced m))) (is_serving s.hub.phase) s (hub_writes (unsequenced m) s) (hub_writes_keeps (unsequenced m) s)
step_keeps s _ _ (says m e) = written_keeps (ltb message_limit (length m)) (fits s.up (encode (unsequenced m))) (is_live s.seat.phase) s (seat_writes (unsequenced m) s) (seat_writes_keeps (unsequenced m) s)
step_keeps s _ _ (leaves e) = leave_keeps (fits s.up (encode (logout_request X.Done []))) (is_apart s.seat.phase) s (seat_to Apart (seat_writes (logout_request X.Done []) s)) (seat_writes_keeps (logout_request X.Done []) s)
step_keeps s _ _ (hub_receives o e r) = hub_receives_keep s o r
step_keeps s _ _ (seat_receives o e r) = seat_receives_keep s o r
step_keeps s _ _ (hub_sends_one e) = hub_sends_keep s
step_keeps s _ _ (seat_sends_one e) = seat_sends_keep s
step_keeps s _ _ (ticks e) = tick_keeps s
step_keeps s _ _ (rounds report w t e r) = round_keeps s report w t r

pub lines_stay_sound : LinesStaySound
lines_stay_sound s c d x i = record { up = (step_keeps s c d x).up i.up; down = (step_keeps s c d x).down i.down }

pub buffers_last : BuffersLast
buffers_last s c d x = let k = step_keeps s c d x in record { hub_frame = k.hub.longer; seat_frame = k.seat.longer; out = k.out }

pub frames_stay_parts : FramesStayParts
frames_stay_parts s c d x i = record { hub = (step_keeps s c d x).hub.stays i.hub; seat = (step_keeps s c d x).seat.stays i.seat }

pub frame_buffers_keep : FrameBuffersKeep
frame_buffers_keep s c d x i =
    let k = step_keeps s c d x in
    record { hub = λ h. k.hub.size i.hub (ltb-false _ _ h); seat = λ h. k.seat.size i.seat (ltb-false _ _ h) }
