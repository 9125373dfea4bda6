-- What the rules may lead to, case by case, for arguments that go by cases: refusals and departures are one case each.
use Rattle.std.proofs.Common.{◌≡◌, ℕ, ◌+◌, ◌<◌, ◌≤◌, min, Bool, true, false, cond, ◌&&◌, ◌||◌, eqb, ltb, leb, ◌⊎◌, List, [], ◌∷◌, ◌++◌, length, Some, None, Ok, Err, Option, Result, sym, refl, ap, ◌∙◌, subst, inl, inr, ⊎_elim, arith, length-take}
use Rattle.std.specs.List.{AllByRecursion as All}
use Rattle.std.proofs.lemmas.Bool.{cond_both, cases_Bool, eqb-true, ltb-true, ltb-false, leb-true, leb-false, or_cases, and_parts}
use Rattle.std.proofs.lemmas.List.{take-append-drop}
use Rattle.wire.specs.declared.faults.Field.TheVariants as Field
use Rattle.wire.specs.declared.faults.PacketFault.{PacketFault}
use Rattle.wire.specs.declared.faults.PacketFault.TheVariants.{OutOfPlace, WrongContent}
use Rattle.wire.specs.declared.refusals.Refusal.{Refusal}
use Rattle.wire.specs.declared.refusals.Refusal.TheVariants.{MessageTooLong, LineFull, WrongPhase, SessionFinished, HubBusy, LastSession, NoSession, NothingToFetch}
use Rattle.wire.specs.Limits.{message_limit}
use Rattle.wire.specs.declared.letters.Letter.{Letter}
use Rattle.wire.specs.declared.letters.Letter.TheVariants as L
use Rattle.wire.specs.declared.statuses.Status.{Status}
use Rattle.wire.specs.declared.statuses.Status.TheVariants.{Accepted, UnknownUser, SessionUnavailable, InvalidNumber, WrongVersion, WrongProtocol, AlreadyLoggedIn}
use Rattle.wire.specs.declared.goodbyes.GoodByeReason.TheVariants as G
use Rattle.wire.specs.declared.logouts.LogoutReason.{LogoutReason}
use Rattle.wire.specs.declared.logouts.LogoutReason.TheVariants as X
use Rattle.packet.specs.Values.{Value, login_request, login_response, sequenced, unsequenced, synchronization_complete, retransmission_request, logout_request, good_bye, end_of_session, hub_heartbeat, seat_heartbeat, test, letter, encode}
use Rattle.packet.specs.Decoding.{Decoded, part, whole}
use Rattle.line.specs.Lines.{LineView, handed, fits}
use Rattle.message_log.specs.Meaning.{count, nth, begun, added}
use Rattle.message_log.specs.Calls.{has, takes}
use Rattle.account.specs.declared.rows.Row.{Row}
use Rattle.account.specs.Rows.{found}
use Rattle.account.specs.Logins.{Asked, Check, checks, first_failing, status_for}
use Rattle.rules.specs.declared.phases.HubPhase.{HubPhase}
use Rattle.rules.specs.declared.phases.HubPhase.TheVariants.{Shut, Waiting, Answering, Rejecting, Serving, Filling}
use Rattle.rules.specs.declared.phases.SeatPhase.{SeatPhase}
use Rattle.rules.specs.declared.phases.SeatPhase.TheVariants.{Apart, Asking, Live}
use Rattle.rules.specs.declared.phases.How.{How}
use Rattle.rules.specs.declared.phases.How.TheVariants.{Join, Anew, Fetch}
use Rattle.rules.specs.declared.answers.Received.{Received}
use Rattle.rules.specs.declared.answers.Received.TheVariants.{Nothing, Part, Acted, Message}
use Rattle.rules.specs.State.{Pair, Outcome}
use Rattle.rules.specs.Changes.{with_up, with_down, with_held, with_log, grants, refuses, hub_to, hub_leaves, hub_admits, hub_writes, hub_took, seat_with, seat_to, seat_writes, seat_took}
use Rattle.rules.specs.Frames.{lack, given, left, Free, judged}
use Rattle.rules.specs.Hub.{hub_gone, hub_bad, listens, hub_letters, decided, logs_in, admitted, refills, Due, due, none_due, hub_acts, hub_judges, hub_hears, message_offset, beat_after, first_number, owes, sent_all, hub_due, Sending, hub_posts, is_shut, hub_sends}
use Rattle.rules.specs.Seat.{seat_gone, seat_bad, is_apart, seat_letters, suits, in_session, next_number, seat_rejected, seat_answered, seat_keeps, seat_skips, seat_message, seat_complete, seat_acts, seat_judges, seat_hears, seat_requested, live_due, seat_due, seat_posts, seat_sends}
use Rattle.rules.specs.Calls.{Done, done, login_of, connected, connect, publishes, publish, finish, busy, last_session, roll, is_serving, is_live, tell, say, leave, hub_timed, seat_timed, waiting_limit, silence_limit}
use Rattle.rules.specs.Rounds.{HubReceives, hub_deaf, hub_hears_bytes, SeatReceives, seat_deaf, seat_hears_bytes}

-- a call that is refused changes nothing; one that is granted leads to t
pub data Tried (s t : Pair) (Fact : Type 0) : Done → Type 0 where
  refused : (r : Refusal) → Tried s t Fact (refuses r s)
  granted : Fact → Tried s t Fact (done t)

pub connect_tried : (how : How) (s : Pair) → Tried s (connected how s) (Unit {0}) (connect how s)
connect_tried Join s = granted tt
connect_tried Anew s = granted tt
connect_tried (Fetch end) s =
    cond_both (eqb s.held.session 0) (refuses NoSession s) (cond (leb end (count s.held)) (refuses NothingToFetch s) (done (connected (Fetch end) s))) (Tried s (connected (Fetch end) s) (Unit {0}))
    (λ t. refused NoSession)
    (λ t. cond_both (leb end (count s.held)) (refuses NothingToFetch s) (done (connected (Fetch end) s)) (Tried s (connected (Fetch end) s) (Unit {0})) (λ u. refused NothingToFetch) (λ u. granted tt))

pub publish_tried : (m : List ℕ) (s : Pair) → Tried s (with_log s (added s.running.log m) false) (takes s.running.log (length m) ≡ Ok tt) (publish m s)
publish_tried m s = go (takes s.running.log (length m)) refl
  where
    go : (r : Result (Unit {0}) Refusal) → takes s.running.log (length m) ≡ r → Tried s (with_log s (added s.running.log m) false) (takes s.running.log (length m) ≡ Ok tt) (publishes r m s)
    go (Ok tt) e = cond_both s.running.finished (refuses SessionFinished s) (done (with_log s (added s.running.log m) false)) (Tried s _ _) (λ t. refused SessionFinished) (λ t. granted e)
    go (Err r) e = refused r

pub finish_tried : (s : Pair) → Tried s (with_log s s.running.log true) (Unit {0}) (finish s)
finish_tried s = cond_both s.running.finished (refuses SessionFinished s) (done (with_log s s.running.log true)) (Tried s _ _) (λ t. refused SessionFinished) (λ t. granted tt)

pub roll_tried : (s : Pair) → Tried s (with_log s (begun s.running.log (s.running.log.session + 1)) false) ((busy s.hub.phase ≡ false) × (s.running.log.session < last_session)) (roll s)
roll_tried s =
    cond_both (busy s.hub.phase) (refuses HubBusy s) (cond (leb last_session s.running.log.session) (refuses LastSession s) (done (with_log s (begun s.running.log (s.running.log.session + 1)) false))) (Tried s _ _)
    (λ t. refused HubBusy)
    (λ t. cond_both (leb last_session s.running.log.session) (refuses LastSession s) (done (with_log s (begun s.running.log (s.running.log.session + 1)) false)) (Tried s _ _) (λ u. refused LastSession) (λ u. granted (t, leb-false _ _ u)))

-- what a message needs to be told: its length, and the phase
said : (m : List ℕ) (room able : Bool) (s t : Pair) → Tried s t ((length m ≤ message_limit) × (able ≡ true)) (cond (ltb message_limit (length m)) (refuses MessageTooLong s) (cond room (cond able (done t) (refuses WrongPhase s)) (refuses LineFull s)))
said m room able s t =
    cond_both (ltb message_limit (length m)) (refuses MessageTooLong s) (cond room (cond able (done t) (refuses WrongPhase s)) (refuses LineFull s)) (Tried s t _)
    (λ a. refused MessageTooLong)
    (λ a. cond_both room (cond able (done t) (refuses WrongPhase s)) (refuses LineFull s) (Tried s t _)
    (λ b. cond_both able (done t) (refuses WrongPhase s) (Tried s t _) (λ c. granted (ltb-false _ _ a, c)) (λ c. refused WrongPhase))
    (λ b. refused LineFull))

pub tell_tried : (m : List ℕ) (s : Pair) → Tried s (hub_writes (unsequenced m) s) ((length m ≤ message_limit) × (is_serving s.hub.phase ≡ true)) (tell m s)
tell_tried m s = said m (fits s.down (encode (unsequenced m))) (is_serving s.hub.phase) s (hub_writes (unsequenced m) s)

pub say_tried : (m : List ℕ) (s : Pair) → Tried s (seat_writes (unsequenced m) s) ((length m ≤ message_limit) × (is_live s.seat.phase ≡ true)) (say m s)
say_tried m s = said m (fits s.up (encode (unsequenced m))) (is_live s.seat.phase) s (seat_writes (unsequenced m) s)

pub leave_tried : (s : Pair) → Tried s (seat_to Apart (seat_writes (logout_request X.Done []) s)) (Unit {0}) (leave s)
leave_tried s =
    cond_both (fits s.up (encode (logout_request X.Done []))) (cond (is_apart s.seat.phase) (refuses WrongPhase s) (done (seat_to Apart (seat_writes (logout_request X.Done []) s)))) (refuses LineFull s) (Tried s _ _)
    (λ a. cond_both (is_apart s.seat.phase) (refuses WrongPhase s) (done (seat_to Apart (seat_writes (logout_request X.Done []) s))) (Tried s _ _) (λ b. refused WrongPhase) (λ b. granted tt))
    (λ a. refused LineFull)

-- what a take did
pub record Took (v : LineView) (n : ℕ) (got : List ℕ) (w : LineView) : Type 0 where
  pub front : v.waiting ≡ got ++ w.waiting
  pub count : length got ≡ handed v n
  pub empty : w.waiting ≡ [] → w.room ≡ w.full
  pub full : w.full ≡ v.full
  pub limit : w.limit ≡ v.limit

pub took : (v : LineView) (n room : ℕ) → Free v n room → Took v n (given v n) (left v n room)
took v n room f = record {
  front = sym (take-append-drop (handed v n) v.waiting);
  count = length-take (handed v n) v.waiting ∙ omega arith;
  empty = f.empty;
  full = refl;
  limit = refl;
}

pub got_within : (v : LineView) (n : ℕ) (got : List ℕ) (w : LineView) → Took v n got w → length got ≤ n
got_within v n got w t = omega (arith, t.count)

-- a login that is accepted passed every check
all_pass : (cs : List Check) → All (λ c. c.status ≡ Accepted → ⊥) cs → first_failing cs ≡ Accepted → All (λ c. c.passes ≡ true) cs
all_pass [] n e = tt
all_pass (c ∷ cs) n e =
    ⊎_elim
    (λ t. (t, all_pass cs n.1 (sym (ap (λ b. cond b (first_failing cs) c.status) t) ∙ e)))
    (λ t. absurd (n.0 (sym (ap (λ b. cond b (first_failing cs) c.status) t) ∙ e)))
    (cases_Bool c.passes)

none_accepts : (rows : List Row) (row : Option ℕ) (x h : ℕ) (a : Asked) → All (λ c. c.status ≡ Accepted → ⊥) (checks rows row x h a)
none_accepts rows row x h a = (λ e. (cc), (λ e. (cc), (λ e. (cc), (λ e. (cc), (λ e. (cc), (λ e. (cc), tt))))))

pub record Passed (rows : List Row) (x h : ℕ) (a : Asked) : Type 0 where
  pub row : ℕ
  pub is : found rows a.user a.computer ≡ Some row
  pub session : (a.session ≡ 0) ⊎ (a.session ≡ x)
  pub number : a.number ≤ h + 1

passed_by : (rows : List Row) (row : Option ℕ) (x h : ℕ) (a : Asked) → found rows a.user a.computer ≡ row → first_failing (checks rows row x h a) ≡ Accepted → Passed rows x h a
passed_by rows None x h a f e = (cc (all_pass (checks rows None x h a) (none_accepts rows None x h a) e).1.0)
passed_by rows (Some i) x h a f e =
    let p = all_pass (checks rows (Some i) x h a) (none_accepts rows (Some i) x h a) e in
    record {
      row = i;
      is = f;
      session = ⊎_elim (λ t. inl (eqb-true _ _ t)) (λ t. inr (eqb-true _ _ t)) (or_cases _ _ p.1.1.1.1.0);
      number = leb-true _ _ p.1.1.1.1.1.0;
    }

pub passed : (rows : List Row) (x h : ℕ) (a : Asked) → status_for rows x h a ≡ Accepted → Passed rows x h a
passed rows x h a e = passed_by rows (found rows a.user a.computer) x h a refl e

-- the hub acts on a packet
abbrev pub asks : List ℕ → List ℕ → List ℕ → List ℕ → ℕ → ℕ → Asked
asks v u c p x n = record { version = v; user = u; computer = c; protocol = p; session = x; number = n }

abbrev pub NoLogin : Value → Type 0
NoLogin v = (a : Asked) → v ≡ login_of a → ⊥

pub data HubActed (s : Pair) : HubPhase → Value → Outcome Received → Type 0 where
  hub_bad_lem : (h : HubPhase) (v : Value) (fault : PacketFault) → HubActed s h v (hub_bad fault s)
  hub_admits_lem : (v u c p : List ℕ) (x n i : ℕ) → status_for s.rows s.running.log.session (count s.running.log) (asks v u c p x n) ≡ Accepted → HubActed s Waiting (login_request v u c p x n) (grants (Acted L.LoginRequest) (hub_admits i (Answering n) s))
  hub_rejects : (v u c p : List ℕ) (x n : ℕ) (t : Status) → (t ≡ Accepted → ⊥) → status_for s.rows s.running.log.session (count s.running.log) (asks v u c p x n) ≡ t → HubActed s Waiting (login_request v u c p x n) (grants (Acted L.LoginRequest) (hub_to (Rejecting t) s))
  hub_refills : (q n a e : ℕ) (d : Bool) → q ≡ 0 → HubActed s (Serving q n d) (retransmission_request a e) (grants (Acted L.RetransmissionRequest) (hub_to (Filling a (min e (count s.running.log))) s))
  hub_leaves_lem : (h : HubPhase) (v : Value) (l : Letter) → HubActed s h v (grants (Acted l) (hub_leaves Shut s))
  hub_stays : (h : HubPhase) (v : Value) (r : Received) → NoLogin v → HubActed s h v (grants r s)

login_acted : (s : Pair) (v u c p : List ℕ) (x n : ℕ) → HubActed s Waiting (login_request v u c p x n) (grants (Acted L.LoginRequest) (logs_in (asks v u c p x n) s))
login_acted s v u c p x n = go (status_for s.rows s.running.log.session (count s.running.log) a) refl
  where
    a : Asked
    a = asks v u c p x n

    go : (t : Status) → status_for s.rows s.running.log.session (count s.running.log) (asks v u c p x n) ≡ t → HubActed s Waiting (login_request v u c p x n) (grants (Acted L.LoginRequest) (decided t (asks v u c p x n) s))
    go Accepted e =
        let y = passed s.rows s.running.log.session (count s.running.log) (asks v u c p x n) e in
        subst (λ (o : Option ℕ). HubActed s Waiting (login_request v u c p x n) (grants (Acted L.LoginRequest) (admitted o n s))) (sym y.is) (hub_admits_lem v u c p x n y.row e)
    go UnknownUser e = hub_rejects v u c p x n UnknownUser (λ z. (cc)) e
    go SessionUnavailable e = hub_rejects v u c p x n SessionUnavailable (λ z. (cc)) e
    go InvalidNumber e = hub_rejects v u c p x n InvalidNumber (λ z. (cc)) e
    go WrongVersion e = hub_rejects v u c p x n WrongVersion (λ z. (cc)) e
    go WrongProtocol e = hub_rejects v u c p x n WrongProtocol (λ z. (cc)) e
    go AlreadyLoggedIn e = hub_rejects v u c p x n AlreadyLoggedIn (λ z. (cc)) e

refills_acted : (s : Pair) (q n a e : ℕ) (d : Bool) → q ≡ 0 → HubActed s (Serving q n d) (retransmission_request a e) (refills a e s)
refills_acted s q n a e d z =
    cond_both (eqb a 0) (hub_bad (WrongContent Field.Start) s) (cond (ltb e a) (hub_bad (WrongContent Field.End) s) (grants (Acted L.RetransmissionRequest) (hub_to (Filling a (min e (count s.running.log))) s))) (HubActed s _ _)
    (λ t. hub_bad_lem _ _ _)
    (λ t. cond_both (ltb e a) (hub_bad (WrongContent Field.End) s) (grants (Acted L.RetransmissionRequest) (hub_to (Filling a (min e (count s.running.log))) s)) (HubActed s _ _) (λ u. hub_bad_lem _ _ _) (λ u. hub_refills q n a e d z))

pub hub_acted : (s : Pair) (h : HubPhase) (v : Value) → HubActed s h v (hub_acts h v s)
hub_acted s Waiting (login_request v u c p x n) = login_acted s v u c p x n
hub_acted s Waiting v = hub_bad_lem _ _ _
hub_acted s (Serving q n d) (unsequenced m) = hub_stays _ _ _ (λ a e. (cc))
hub_acted s (Serving q n d) (retransmission_request a e) =
    cond_both (eqb q 0) (refills a e s) (hub_bad OutOfPlace s) (HubActed s _ _) (λ t. refills_acted s q n a e d (eqb-true _ _ t)) (λ t. hub_bad_lem _ _ _)
hub_acted s (Serving q n d) (logout_request r t) = hub_leaves_lem _ _ _
hub_acted s (Serving q n d) seat_heartbeat = hub_stays _ _ _ (λ a e. (cc))
hub_acted s (Serving q n d) (test t) = hub_stays _ _ _ (λ a e. (cc))
hub_acted s (Serving q n d) v = hub_bad_lem _ _ _
hub_acted s (Filling n l) (unsequenced m) = hub_stays _ _ _ (λ a e. (cc))
hub_acted s (Filling n l) (logout_request r t) = hub_leaves_lem _ _ _
hub_acted s (Filling n l) seat_heartbeat =
    cond_both (leb n l) s (hub_leaves Shut s) (λ t. HubActed s (Filling n l) seat_heartbeat (grants (Acted L.SeatHeartbeat) t)) (λ t. hub_stays _ _ _ (λ a e. (cc))) (λ t. hub_leaves_lem _ _ _)
hub_acted s (Filling n l) (test t) = hub_stays _ _ _ (λ a e. (cc))
hub_acted s (Filling n l) v = hub_bad_lem _ _ _
hub_acted s phase v = hub_bad_lem _ _ _

-- the hub receives
pub data HubHeard (s : Pair) : Outcome Received → Type 0 where
  hub_refused : listens s.hub.phase ≡ false → HubHeard s (refuses WrongPhase s)
  hub_none : (up : LineView) → listens s.hub.phase ≡ true → Took s.up (lack s.hub.frame) [] up → HubHeard s (grants Nothing (with_up s up))
  hub_part : (b : ℕ) (bs : List ℕ) (up : LineView) → listens s.hub.phase ≡ true → Took s.up (lack s.hub.frame) (b ∷ bs) up → judged (hub_letters s.hub.phase) (s.hub.frame ++ (b ∷ bs)) ≡ Ok part → HubHeard s (grants Part (hub_took (b ∷ bs) (s.hub.frame ++ (b ∷ bs)) up s))
  hub_fault : (b : ℕ) (bs : List ℕ) (up : LineView) (fault : PacketFault) → listens s.hub.phase ≡ true → Took s.up (lack s.hub.frame) (b ∷ bs) up → judged (hub_letters s.hub.phase) (s.hub.frame ++ (b ∷ bs)) ≡ Err fault → HubHeard s (hub_bad fault (hub_took (b ∷ bs) [] up s))
  hub_whole : (b : ℕ) (bs : List ℕ) (up : LineView) (v : Value) → listens s.hub.phase ≡ true → Took s.up (lack s.hub.frame) (b ∷ bs) up → judged (hub_letters s.hub.phase) (s.hub.frame ++ (b ∷ bs)) ≡ Ok (whole v) → HubHeard s (hub_acts s.hub.phase v (hub_took (b ∷ bs) [] up s))

pub hub_heard_lem : (s : Pair) (o : Outcome Received) → HubReceives s o → HubHeard s o
hub_heard_lem s _ (hub_deaf l) = hub_refused l
hub_heard_lem s _ (hub_hears_bytes room l f) = go (given s.up (lack s.hub.frame)) (took s.up (lack s.hub.frame) room f)
  where
    up : LineView
    up = left s.up (lack s.hub.frame) room

    judges : (b : ℕ) (bs : List ℕ) → Took s.up (lack s.hub.frame) (b ∷ bs) (left s.up (lack s.hub.frame) room) → (r : Result Decoded PacketFault) → judged (hub_letters s.hub.phase) (s.hub.frame ++ (b ∷ bs)) ≡ r → HubHeard s (hub_judges r (b ∷ bs) (s.hub.frame ++ (b ∷ bs)) (left s.up (lack s.hub.frame) room) s)
    judges b bs t (Ok part) e = hub_part b bs _ l t e
    judges b bs t (Ok (whole v)) e = hub_whole b bs _ v l t e
    judges b bs t (Err fault) e = hub_fault b bs _ fault l t e

    go : (got : List ℕ) → Took s.up (lack s.hub.frame) got (left s.up (lack s.hub.frame) room) → HubHeard s (hub_hears got (left s.up (lack s.hub.frame) room) s)
    go [] t = hub_none _ l t
    go (b ∷ bs) t = judges b bs t (judged (hub_letters s.hub.phase) (s.hub.frame ++ (b ∷ bs))) refl

-- the seat has left
pub record Left (s t : Pair) : Type 0 where
  pub phase : t.seat.phase ≡ Apart
  pub in_step : t.seat.in_step ≡ s.seat.in_step
  pub held : t.held ≡ s.held
  pub account : t.account ≡ s.account
  pub hub : t.hub ≡ s.hub
  pub running : t.running ≡ s.running
  pub down : t.down ≡ s.down

pub seat_gone_lem : (reason : LogoutReason) (s : Pair) → Left s (seat_gone reason s)
seat_gone_lem reason s =
    cond_both (fits s.up (encode (logout_request reason []))) (seat_writes (logout_request reason []) s) s (λ t. Left s (seat_to Apart t))
    (λ t. record { phase = refl; in_step = refl; held = refl; account = refl; hub = refl; running = refl; down = refl })
    (λ t. record { phase = refl; in_step = refl; held = refl; account = refl; hub = refl; running = refl; down = refl })

-- the seat acts on a packet
pub data SeatActed (s : Pair) : SeatPhase → Value → Outcome Received → Type 0 where
  seat_leaves : (p : SeatPhase) (v : Value) (o : Outcome Received) → Left s o.after → SeatActed s p v o
  seat_accepts : (x top : ℕ) → suits s.seat.session x ≡ true → SeatActed s Asking (login_response Accepted x top) (grants (Acted L.LoginResponse) (seat_with Live (s.seat.in_step || eqb (top + 1) s.seat.number) s.seat.status (with_held s (in_session s.held x))))
  seat_keeps_lem : (n : ℕ) (m : List ℕ) → n ≡ next_number s.held → takes s.held (length m) ≡ Ok tt → SeatActed s Live (sequenced n m) (grants (Acted L.Sequenced) (with_held s (added s.held m)))
  seat_passes : (n : ℕ) (m : List ℕ) → n < next_number s.held → SeatActed s Live (sequenced n m) (grants (Acted L.Sequenced) s)
  seat_skips_lem : (n e : ℕ) (m : List ℕ) → s.seat.fetch ≡ Some e → SeatActed s Live (sequenced n m) (grants (Acted L.Sequenced) s)
  seat_completes : s.seat.fetch ≡ None → SeatActed s Live synchronization_complete (grants (Acted L.SynchronizationComplete) (seat_with Live true s.seat.status s))
  seat_told : (m : List ℕ) → SeatActed s Live (unsequenced m) (grants (Message message_offset (length m)) s)
  seat_beaten : SeatActed s Live hub_heartbeat (grants (Acted L.HubHeartbeat) s)
  seat_tested : (t : List ℕ) → SeatActed s Live (test t) (grants (Acted L.Test) s)

bad_acted : (s : Pair) (p : SeatPhase) (v : Value) (fault : PacketFault) → SeatActed s p v (seat_bad fault s)
bad_acted s p v fault = seat_leaves p v (seat_bad fault s) (seat_gone_lem X.BadPacket s)

apart_acted : (s : Pair) (p : SeatPhase) (v : Value) (l : Letter) → SeatActed s p v (grants (Acted l) (seat_to Apart s))
apart_acted s p v l = seat_leaves p v _ (record { phase = refl; in_step = refl; held = refl; account = refl; hub = refl; running = refl; down = refl })

rejected_acted : (s : Pair) (v : Value) (t : Status) → SeatActed s Asking v (seat_rejected t s)
rejected_acted s v t = seat_leaves Asking v _ (record { phase = refl; in_step = refl; held = refl; account = refl; hub = refl; running = refl; down = refl })

answered : (s : Pair) (t : Status) (x top : ℕ) → SeatActed s Asking (login_response t x top) (seat_answered t x top s)
answered s Accepted x top = cond_both (suits s.seat.session x) (grants (Acted L.LoginResponse) (seat_with Live (s.seat.in_step || eqb (top + 1) s.seat.number) s.seat.status (with_held s (in_session s.held x)))) (seat_bad (WrongContent Field.Session) s) (SeatActed s Asking (login_response Accepted x top)) (λ t. seat_accepts x top t) (λ t. bad_acted s Asking _ _)
answered s status x top = rejected_acted s _ status

message_acted : (s : Pair) (n : ℕ) (m : List ℕ) → SeatActed s Live (sequenced n m) (seat_message n m s)
message_acted s n m =
    cond_both (eqb n (next_number s.held)) (seat_keeps (takes s.held (length m)) m s) (cond (ltb n (next_number s.held)) (grants (Acted L.Sequenced) s) (seat_skips s.seat.fetch s)) (SeatActed s Live (sequenced n m))
    (λ t. keeps (eqb-true _ _ t) (takes s.held (length m)) refl)
    (λ t. cond_both (ltb n (next_number s.held)) (grants (Acted L.Sequenced) s) (seat_skips s.seat.fetch s) (SeatActed s Live (sequenced n m)) (λ u. seat_passes n m (ltb-true _ _ u)) (λ u. skips s.seat.fetch refl))
  where
    keeps : n ≡ next_number s.held → (r : Result (Unit {0}) Refusal) → takes s.held (length m) ≡ r → SeatActed s Live (sequenced n m) (seat_keeps r m s)
    keeps e (Ok tt) q = seat_keeps_lem n m e q
    keeps e (Err r) q = seat_leaves Live _ _ (seat_gone_lem X.Terminating s)

    skips : (f : Option ℕ) → s.seat.fetch ≡ f → SeatActed s Live (sequenced n m) (seat_skips f s)
    skips None q = bad_acted s Live _ _
    skips (Some e) q = seat_skips_lem n e m q

complete_acted : (s : Pair) (f : Option ℕ) → s.seat.fetch ≡ f → SeatActed s Live synchronization_complete (seat_complete f s)
complete_acted s None q = seat_completes q
complete_acted s (Some e) q = bad_acted s Live _ _

pub seat_acted : (s : Pair) (p : SeatPhase) (v : Value) → SeatActed s p v (seat_acts p v s)
seat_acted s Apart v = bad_acted s Apart v _
seat_acted s Asking (login_response t x n) = answered s t x n
seat_acted s Asking (good_bye r t) = apart_acted s _ _ _
seat_acted s Asking v = bad_acted s _ _ _
seat_acted s Live (sequenced n m) = message_acted s n m
seat_acted s Live (unsequenced m) = seat_told m
seat_acted s Live synchronization_complete = complete_acted s s.seat.fetch refl
seat_acted s Live (good_bye r t) = apart_acted s _ _ _
seat_acted s Live end_of_session = apart_acted s _ _ _
seat_acted s Live hub_heartbeat = seat_beaten
seat_acted s Live (test t) = seat_tested t
seat_acted s Live v = bad_acted s _ _ _

-- the seat receives
pub data SeatHeard (s : Pair) : Outcome Received → Type 0 where
  seat_refused : is_apart s.seat.phase ≡ true → SeatHeard s (refuses WrongPhase s)
  seat_none : (down : LineView) → is_apart s.seat.phase ≡ false → Took s.down (lack s.seat.frame) [] down → SeatHeard s (grants Nothing (with_down s down))
  seat_part : (b : ℕ) (bs : List ℕ) (down : LineView) → is_apart s.seat.phase ≡ false → Took s.down (lack s.seat.frame) (b ∷ bs) down → judged (seat_letters s.seat.phase s.seat.fetch) (s.seat.frame ++ (b ∷ bs)) ≡ Ok part → SeatHeard s (grants Part (seat_took (b ∷ bs) (s.seat.frame ++ (b ∷ bs)) down s))
  seat_fault : (b : ℕ) (bs : List ℕ) (down : LineView) (fault : PacketFault) → is_apart s.seat.phase ≡ false → Took s.down (lack s.seat.frame) (b ∷ bs) down → judged (seat_letters s.seat.phase s.seat.fetch) (s.seat.frame ++ (b ∷ bs)) ≡ Err fault → SeatHeard s (seat_bad fault (seat_took (b ∷ bs) [] down s))
  seat_whole : (b : ℕ) (bs : List ℕ) (down : LineView) (v : Value) → is_apart s.seat.phase ≡ false → Took s.down (lack s.seat.frame) (b ∷ bs) down → judged (seat_letters s.seat.phase s.seat.fetch) (s.seat.frame ++ (b ∷ bs)) ≡ Ok (whole v) → SeatHeard s (seat_acts s.seat.phase v (seat_took (b ∷ bs) [] down s))

pub seat_heard_lem : (s : Pair) (o : Outcome Received) → SeatReceives s o → SeatHeard s o
seat_heard_lem s _ (seat_deaf l) = seat_refused l
seat_heard_lem s _ (seat_hears_bytes room l f) = go (given s.down (lack s.seat.frame)) (took s.down (lack s.seat.frame) room f)
  where
    judges : (b : ℕ) (bs : List ℕ) → Took s.down (lack s.seat.frame) (b ∷ bs) (left s.down (lack s.seat.frame) room) → (r : Result Decoded PacketFault) → judged (seat_letters s.seat.phase s.seat.fetch) (s.seat.frame ++ (b ∷ bs)) ≡ r → SeatHeard s (seat_judges r (b ∷ bs) (s.seat.frame ++ (b ∷ bs)) (left s.down (lack s.seat.frame) room) s)
    judges b bs t (Ok part) e = seat_part b bs _ l t e
    judges b bs t (Ok (whole v)) e = seat_whole b bs _ v l t e
    judges b bs t (Err fault) e = seat_fault b bs _ fault l t e

    go : (got : List ℕ) → Took s.down (lack s.seat.frame) got (left s.down (lack s.seat.frame) room) → SeatHeard s (seat_hears got (left s.down (lack s.seat.frame) room) s)
    go [] t = seat_none _ l t
    go (b ∷ bs) t = judges b bs t (judged (seat_letters s.seat.phase s.seat.fetch) (s.seat.frame ++ (b ∷ bs))) refl

-- the packet that the hub owes, and the pair once it is written
pub data HubOwes (s : Pair) : Value → Pair → Type 0 where
  owes_answer : (q : ℕ) → s.hub.phase ≡ Answering q → HubOwes s (login_response Accepted s.running.log.session (count s.running.log)) (hub_to (Serving q (first_number q (count s.running.log)) (owes q (count s.running.log))) s)
  owes_rejection : (t : Status) → s.hub.phase ≡ Rejecting t → HubOwes s (login_response t 0 0) (hub_leaves Shut s)
  owes_message : (q n : ℕ) (d : Bool) → s.hub.phase ≡ Serving q n d → has s.running.log n ≡ true → HubOwes s (sequenced n (nth s.running.log n)) (hub_to (Serving q (n + 1) d) s)
  owes_complete : (q n : ℕ) → s.hub.phase ≡ Serving q n true → has s.running.log n ≡ false → HubOwes s synchronization_complete (hub_to (Serving q n false) s)
  owes_end : (q n : ℕ) → s.hub.phase ≡ Serving q n false → HubOwes s end_of_session (hub_leaves Shut s)
  owes_beat : (q n : ℕ) → s.hub.phase ≡ Serving q n false → HubOwes s hub_heartbeat s
  owes_fill : (n l : ℕ) → s.hub.phase ≡ Filling n l → has s.running.log n ≡ true → HubOwes s (sequenced n (nth s.running.log n)) (hub_to (Filling (n + 1) l) s)

pub data HubSent (s : Pair) : Sending → Type 0 where
  sent_refused : (r : Refusal) → HubSent s (record { answer = Err r; wrote = None; after = s })
  sent_none : HubSent s (record { answer = Ok None; wrote = None; after = s })
  sent_all_lem : HubSent s (record { answer = Ok None; wrote = None; after = hub_leaves Shut s })
  sent_packet : (v : Value) (t : Pair) → HubOwes s v t → HubSent s (record { answer = Ok (Some (letter v)); wrote = Some v; after = hub_writes v t })

posted : (s : Pair) (v : Value) (t : Pair) → HubOwes s v t → HubSent s (hub_posts (Some v) t s)
posted s v t o = cond_both (fits s.down (encode v)) (record { answer = Ok (Some (letter v)); wrote = Some v; after = hub_writes v t }) (record { answer = Err LineFull; wrote = None; after = s }) (HubSent s) (λ f. sent_packet v t o) (λ f. sent_refused LineFull)

abbrev posts : Due → Pair → Sending
posts d s = hub_posts d.packet d.then s

pub hub_sent_lem : (s : Pair) → HubSent s (hub_sends s)
hub_sent_lem s = go s.hub.phase refl
  where
    all : (q n : ℕ) (d : Bool) → s.hub.phase ≡ Serving q n d → has s.running.log n ≡ false → HubSent s (posts (sent_all q n d s) s)
    all q n true e h = posted s _ _ (owes_complete q n e h)
    all q n false e h =
        cond_both s.running.finished (due end_of_session (hub_leaves Shut s)) (cond (ltb beat_after s.hub.unsent) (due hub_heartbeat s) (none_due s)) (λ d. HubSent s (posts d s))
        (λ t. posted s _ _ (owes_end q n e))
        (λ t. cond_both (ltb beat_after s.hub.unsent) (due hub_heartbeat s) (none_due s) (λ d. HubSent s (posts d s)) (λ u. posted s _ _ (owes_beat q n e)) (λ u. sent_none))

    go : (h : HubPhase) → s.hub.phase ≡ h → HubSent s (cond (is_shut h) (record { answer = Err WrongPhase; wrote = None; after = s }) (posts (hub_due h s) s))
    go Shut e = sent_refused WrongPhase
    go Waiting e = sent_none
    go (Answering q) e = posted s _ _ (owes_answer q e)
    go (Rejecting t) e = posted s _ _ (owes_rejection t e)
    go (Serving q n d) e =
        cond_both (has s.running.log n) (due (sequenced n (nth s.running.log n)) (hub_to (Serving q (n + 1) d) s)) (sent_all q n d s) (λ d. HubSent s (posts d s))
        (λ t. posted s _ _ (owes_message q n d e t))
        (λ t. all q n d e t)
    go (Filling n l) e =
        cond_both (leb n l && has s.running.log n) (due (sequenced n (nth s.running.log n)) (hub_to (Filling (n + 1) l) s)) (none_due (hub_leaves Shut s)) (λ d. HubSent s (posts d s))
        (λ t. posted s _ _ (owes_fill n l e (and_parts _ _ t).1))
        (λ t. sent_all_lem)

-- what the seat sends
pub data SeatSent (s : Pair) : Outcome (Option Letter) → Type 0 where
  seat_sent_refused : (r : Refusal) → SeatSent s (refuses r s)
  seat_sent_none : SeatSent s (grants None s)
  seat_sent_request : (v : Value) → s.seat.phase ≡ Live → SeatSent s (grants (Some (letter v)) (seat_writes v (seat_requested s)))
  seat_sent_beat : (v : Value) → s.seat.phase ≡ Live → SeatSent s (grants (Some (letter v)) (seat_writes v s))

abbrev seat_posts_lem : Due → Pair → Outcome (Option Letter)
seat_posts_lem d s = seat_posts d.packet d.then s

pub seat_sent : (s : Pair) → SeatSent s (seat_sends s)
seat_sent s = go s.seat.phase refl
  where
    live : (f : Option ℕ) → s.seat.phase ≡ Live → SeatSent s (seat_posts_lem (live_due f s) s)
    live None e =
        cond_both (ltb beat_after s.seat.unsent) (due seat_heartbeat s) (none_due s) (λ d. SeatSent s (seat_posts_lem d s))
        (λ t. cond_both (fits s.up (encode seat_heartbeat)) (grants (Some (letter seat_heartbeat)) (seat_writes seat_heartbeat s)) (refuses LineFull s) (SeatSent s) (λ u. seat_sent_beat seat_heartbeat e) (λ u. seat_sent_refused LineFull))
        (λ t. seat_sent_none)
    live (Some f) e =
        let v : Value = retransmission_request (next_number s.held) f in
        cond_both s.seat.requested (none_due s) (cond (ltb (count s.held) f) (due v (seat_requested s)) (none_due s)) (λ d. SeatSent s (seat_posts_lem d s))
        (λ t. seat_sent_none)
        (λ t. cond_both (ltb (count s.held) f) (due v (seat_requested s)) (none_due s) (λ d. SeatSent s (seat_posts_lem d s))
        (λ u. cond_both (fits s.up (encode v)) (grants (Some (letter v)) (seat_writes v (seat_requested s))) (refuses LineFull s) (SeatSent s) (λ w. seat_sent_request v e) (λ w. seat_sent_refused LineFull))
        (λ u. seat_sent_none))

    go : (p : SeatPhase) → s.seat.phase ≡ p → SeatSent s (cond (is_apart p) (refuses WrongPhase s) (seat_posts_lem (seat_due p s) s))
    go Apart e = seat_sent_refused WrongPhase
    go Asking e = seat_sent_none
    go Live e = live s.seat.fetch e

-- time
pub data HubTimed (s : Pair) : Pair → Type 0 where
  hub_lasts : HubTimed s s
  hub_lost : HubTimed s (hub_leaves Shut s)
  hub_late : HubTimed s (hub_gone G.LoginTimeout s)

pub hub_timed_lem : (h : HubPhase) (s : Pair) → HubTimed s (hub_timed h s)
hub_timed_lem Waiting s = cond_both (ltb waiting_limit s.hub.waited) (hub_gone G.LoginTimeout s) s (HubTimed s) (λ t. hub_late) (λ t. hub_lasts)
hub_timed_lem (Serving q n d) s = cond_both (ltb silence_limit s.hub.silent) (hub_leaves Shut s) s (HubTimed s) (λ t. hub_lost) (λ t. hub_lasts)
hub_timed_lem phase s = hub_lasts

pub data SeatTimed (s : Pair) : Pair → Type 0 where
  seat_lasts : SeatTimed s s
  seat_lost : SeatTimed s (seat_to Apart s)

pub seat_timed_lem : (s : Pair) → SeatTimed s (seat_timed s)
seat_timed_lem s = cond_both (is_apart s.seat.phase) s (cond (ltb silence_limit s.seat.silent) (seat_to Apart s) s) (SeatTimed s) (λ t. seat_lasts) (λ t. cond_both (ltb silence_limit s.seat.silent) (seat_to Apart s) s (SeatTimed s) (λ u. seat_lost) (λ u. seat_lasts))
