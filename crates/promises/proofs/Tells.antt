-- What each call keeps of the third promise, and so what each run does.
use Rattle.std.proofs.Common.{◌≡◌, ℕ, ◌+◌, ◌-◌, ◌^◌, ◌<◌, ◌≤◌, min, Bool, true, false, ◌||◌, eqb, leb, ◌⊎◌, List, [], ◌∷◌, ◌++◌, length, Some, None, Ok, Err, Option, sym, refl, ap, ◌∙◌, subst, inl, inr, ⊎_elim, arith}
use Rattle.std.specs.List.{flat_map, AllByRecursion as All}
use Rattle.std.proofs.lemmas.List.{append-nil, length_push}
use Rattle.std.proofs.lemmas.Bool.{cond_both, eqb-true, eq-eqb, ne_eqb, cond-true, cond-false, cases_eq, cases_lt, or_cases, and_left, and_from, le-leb}
use Rattle.wire.specs.declared.faults.Fault.{Fault}
use Rattle.wire.specs.declared.refusals.Refusal.{Refusal}
use Rattle.wire.specs.declared.refusals.Refusal.TheVariants.{ShortBuffer}
use Rattle.wire.specs.declared.letters.Letter.{Letter}
use Rattle.wire.specs.declared.statuses.Status.{Status}
use Rattle.wire.specs.declared.statuses.Status.TheVariants.{Accepted}
use Rattle.wire.specs.declared.goodbyes.GoodByeReason.{GoodByeReason}
use Rattle.wire.specs.declared.goodbyes.GoodByeReason.TheVariants as G
use Rattle.wire.specs.declared.logouts.LogoutReason.TheVariants as X
use Rattle.packet.specs.Values.{Value, Valid, login_request, login_response, sequenced, unsequenced, synchronization_complete, logout_request, good_bye, end_of_session, hub_heartbeat, test, encode}
use Rattle.packet.specs.Decoding.{part, whole}
use Rattle.line.specs.Lines.{LineView, fits}
use Rattle.message_log.specs.Meaning.{Meaning, count, room, begun, size_limit}
use Rattle.message_log.specs.Meaning as Log
use Rattle.message_log.specs.Calls.{has}
use Rattle.message_log.proofs.Verdicts.{verdict_ok}
use Rattle.account.specs.Logins.{spoken_version}
use Rattle.rules.specs.declared.phases.HubPhase.{HubPhase}
use Rattle.rules.specs.declared.phases.HubPhase.TheVariants.{Shut, Waiting, Answering, Rejecting, Serving, Filling}
use Rattle.rules.specs.declared.phases.SeatPhase.{SeatPhase}
use Rattle.rules.specs.declared.phases.SeatPhase.TheVariants.{Apart, Asking, Live}
use Rattle.rules.specs.declared.phases.How.{How}
use Rattle.rules.specs.declared.phases.How.TheVariants.{Join, Anew, Fetch}
use Rattle.rules.specs.declared.answers.Received.{Received}
use Rattle.rules.specs.declared.answers.Report.{Report}
use Rattle.rules.specs.State.{SeatEnd, Account, Pair, Outcome}
use Rattle.rules.specs.Changes.{hub_leaves, hub_writes, hub_took, seat_took, seat_to, seat_writes}
use Rattle.rules.specs.Frames.{lack, judged}
use Rattle.rules.specs.Hub.{hub_gone, hub_letters, first_number, owes, Sending, hub_sends}
use Rattle.rules.specs.Seat.{seat_gone, in_session, next_number, is_apart, seat_letters, seat_sends}
use Rattle.rules.specs.Calls.{Done, cut, counted, hub_timed, tick, busy, is_serving, is_live, connected, fetch_end}
use Rattle.rules.specs.declared.answers.Answer.{Answer}
use Rattle.rules.specs.Rounds.{HubReceives, SeatReceives, Drains, ends, more, Rounds, Call, Connect, Cut, Publish, Finish, Roll, Tell, Say, Leave, HubReceive, SeatReceive, HubSend, SeatSend, Tick, Round, Effect, Step, short_buffer, connects, cuts, publishes, finishes, rolls, tells, says, leaves, hub_receives, seat_receives, hub_sends_one, seat_sends_one, ticks, rounds, refusal}
use Rattle.promises.specs.Book.{Message, Book, opened, added, turned, noted}
use Rattle.promises.specs.Runs.{IsPrefix, Note, accepts, written, renoted, World, Run, begins, goes_on, lends_others, SetUp, History}
use Rattle.promises.specs.Promises.{Holds, InStepIsTrue}
use Rattle.promises.proofs.Fronts.{IsPrefix-push, IsPrefix-trans, IsPrefix-length, IsPrefix-shorter}
use Rattle.promises.proofs.Frames.{Short, short_nil}
use Rattle.promises.proofs.Packets.{sesm}
use Rattle.packet.proofs.Valids.{unsequenced_valid, response_valid}
use Rattle.packet.proofs.Valids as valids
use Rattle.promises.proofs.Arrivals.{still_part, now_whole}
use Rattle.promises.proofs.Cases.{Tried, refused, granted, connect_tried, publish_tried, finish_tried, roll_tried, tell_tried, say_tried, leave_tried, passed, asks, NoLogin, Took, got_within, HubActed, hub_bad_lem, hub_admits_lem, hub_rejects, hub_refills, hub_leaves_lem, hub_stays, hub_acted, HubHeard, hub_refused, hub_none, hub_part, hub_fault, hub_whole, hub_heard_lem, seat_gone_lem, SeatActed, seat_leaves, seat_accepts, seat_keeps_lem, seat_passes, seat_skips_lem, seat_completes, seat_told, seat_beaten, seat_tested, seat_acted, SeatHeard, seat_refused, seat_none, seat_part, seat_fault, seat_whole, seat_heard_lem, HubOwes, owes_answer, owes_rejection, owes_message, owes_complete, owes_end, owes_beat, owes_fill, HubSent, sent_refused, sent_none, sent_all_lem, sent_packet, hub_sent_lem, SeatSent, seat_sent_refused, seat_sent_none, seat_sent_request, seat_sent_beat, seat_sent, HubTimed, hub_lasts, hub_lost, hub_late, hub_timed_lem, SeatTimed, seat_lasts, seat_lost, seat_timed_lem}
use Rattle.promises.proofs.Sound.{Sound, list_grows}
use Rattle.promises.proofs.Keeps.{Kept, read_valid, rejecting_keeps, not_apart, hub_receives_keep, hub_sent_keep, seat_receives_keep, drains_keep, set_up_sound, run_keeps}
use Rattle.promises.proofs.Truth.{View, view, hubbed, its_login, Leads, goal, Stage, Asked, Joined, Way, gone, fetches, joins, Tru, Truth, rehub, after, tru_writes, joined_plain, at_stage, joined_answer, joined_complete}

not_accepts : (x : Status) → (x ≡ Accepted → ⊥) → accepts x ≡ false
not_accepts Accepted ne = absurd (ne refl)
not_accepts status ne = refl

-- all is sent where the next number is not held
pub past_all : (k : Meaning) (n : ℕ) → 0 < n → has k n ≡ false → count k < n
past_all k n po h =
    ⊎_elim (λ l. l) (λ l. (cc (h, and_from (leb 1 n) (leb n (count k)) (le-leb 1 n po) (le-leb n (count k) l)))) (cases_lt (count k) n)

-- the hub writes what it owes
owed_tru : (o : Option Note) (b : Book) (s : Pair) (v : Value) (t : Pair) → HubOwes s v t → Sound b s → Truth o b s → Truth (written s.seat.number b (Some v) o) b (hub_writes v t)
owed_tru o b s _ _ (owes_answer q ph) i tr =
    let k : Meaning = s.running.log in
    let v : Value = login_response Accepted k.session (count k) in
    tru_writes o b (view s) (Serving q (first_number q (count k)) (owes q (count k))) v (λ y. joined_answer o b (view s) q ph i.running i.kept v refl (response_valid Accepted k.session (count k) i.small (omega (arith, i.few, i.places))) y) tr
owed_tru o b s _ _ (owes_rejection x ph) i tr =
    let na = not_accepts x (rejecting_keeps b s x ph i) in
    let v : Value = login_response x 0 0 in
    let e : written s.seat.number b (Some v) o ≡ o = cond-false _ _ _ (and_left _ _ na) in
    tru_writes o b (view s) Shut v (λ y. subst (λ z. Joined z (after (view s) Shut v)) (sym e) (joined_plain o (view s) Shut v y (response_valid x 0 0 (omega arith) (omega arith)) tt (λ c l. (λ a. (cc (a, na)), λ a z. (cc (a, na)), omega arith)))) tr
owed_tru o b s _ _ (owes_message q n d ph rd) i tr =
    let v : Value = sequenced n (Log.nth s.running.log n) in
    let gs : goal s.hub.phase ≡ n - 1 = ap goal ph in
    tru_writes o b (view s) (Serving q (n + 1) d) v (λ y. let st = at_stage o (view s) (Serving q n d) y ph in joined_plain o (view s) (Serving q (n + 1) d) v y (read_valid b _ _ _ _ _ _ n rd i) (st.0, omega arith, st.2) (λ c l. (omega (arith, st.1), λ e. omega arith, λ e. omega arith))) tr
owed_tru o b s _ _ (owes_complete q n ph rd) i tr =
    tru_writes o b (view s) (Serving q n false) synchronization_complete (λ y. joined_complete o b (view s) q n ph (past_all s.running.log n (at_stage o (view s) (Serving q n true) y ph).1 rd) i.running i.kept tr.notes y) tr
owed_tru o b s _ _ (owes_end q n ph) i tr =
    tru_writes o b (view s) Shut end_of_session (λ y. joined_plain o (view s) Shut end_of_session y (record { fields = tt; fits = refl }) tt (λ c l. omega arith)) tr
owed_tru o b s _ _ (owes_beat q n ph) i tr =
    tru_writes o b (view s) s.hub.phase hub_heartbeat (λ y. joined_plain o (view s) s.hub.phase hub_heartbeat y (record { fields = tt; fits = refl }) (subst (λ h. Stage (after (view s) s.hub.phase hub_heartbeat) o (y.packets ++ (hub_heartbeat ∷ [])) y.session h) (sym ph) (at_stage o (view s) (Serving q n false) y ph)) (λ c l. l)) tr
owed_tru o b s _ _ (owes_fill n l ph rd) i tr =
    tru_writes o b (view s) (Filling (n + 1) l) (sequenced n (Log.nth s.running.log n)) (λ y. absurd (at_stage o (view s) (Filling n l) y ph)) tr

-- the hub shuts
shut_tru : (o : Option Note) (b : Book) (w : View) (f u : List ℕ) → Tru o b w → Tru o b (hubbed w Shut f u w.down)
shut_tru o b w f u tr = rehub o b w Shut f u (λ y. (tt, omega arith)) tr

hub_sent_tru : (o : Option Note) (b : Book) (s : Pair) (x : Sending) → HubSent s x → Sound b s → Truth o b s → Truth (written s.seat.number b x.wrote o) b x.after
hub_sent_tru o b s _ (sent_refused r) i tr = tr
hub_sent_tru o b s _ sent_none i tr = tr
hub_sent_tru o b s _ sent_all_lem i tr = shut_tru o b (view s) s.hub.frame s.up.waiting tr
hub_sent_tru o b s _ (sent_packet v t d) i tr = owed_tru o b s v t d i tr

gone_tru : (o : Option Note) (b : Book) (s : Pair) (r : GoodByeReason) → Tru o b (hubbed (view s) Shut s.hub.frame s.up.waiting s.down.waiting) → Truth o b (hub_gone r s)
gone_tru o b s r tr =
    cond_both (fits s.down (encode (good_bye r []))) (hub_writes (good_bye r []) s) s (λ u. Truth o b (hub_leaves Shut u))
    (λ t. tru_writes o b (hubbed (view s) Shut s.hub.frame s.up.waiting s.down.waiting) Shut (good_bye r []) (λ y. joined_plain o _ Shut (good_bye r []) y (record { fields = tt; fits = refl }) tt (λ c l. omega arith)) tr)
    (λ t. tr)

-- the login that the hub hears is the one that the seat wrote
asked_small : (b : Book) (s : Pair) → Sound b s → Asked (view s) → s.seat.session < 256
asked_small b s i (inl (a, n)) = omega arith
asked_small b s i (inr (a, po, n)) = omega (arith, i.older, i.small)

number_small : (o : Option Note) (b : Book) (s : Pair) → Truth o b s → Asked (view s) → s.seat.number < 256 ^ 8
number_small o b s tr (inl (a, n)) = omega arith
number_small o b s tr (inr (a, po, n)) = omega (arith, tr.few, tr.places)

pub login_valid : (o : Option Note) (b : Book) (s : Pair) → Sound b s → Truth o b s → Asked (view s) → Valid (its_login (view s))
login_valid o b s i tr a = valids.login_valid spoken_version s.account.user s.account.computer s.account.protocol s.seat.session s.seat.number refl tr.user tr.computer tr.protocol (asked_small b s i a) (number_small o b s tr a)

module _ (o : Option Note) (b : Book) (s : Pair) (u : LineView) (x : ℕ) (xs : List ℕ) (tk : Took s.up (lack s.hub.frame) (x ∷ xs) u) (i : Sound b s) (tr : Truth o b s) (y : Joined o (view s)) (ls : List Letter) where
  came_login : (v : Value) → judged ls (s.hub.frame ++ (x ∷ xs)) ≡ Ok (whole v) → Stage (view s) o y.packets y.session Waiting → v ≡ its_login (view s)
  came_login v ju st =
      let c = now_whole ls s.hub.frame (x ∷ xs) u.waiting (its_login (view s) ∷ []) (ap (λ z. s.hub.frame ++ z) (sym tk.front) ∙ st.3) st.4 (login_valid o b s i tr (y.asks st.2).0, tt) (omega arith) (got_within s.up (lack s.hub.frame) (x ∷ xs) u tk) v ju in
      let e : its_login (view s) ∷ [] ≡ v ∷ c.rest = c.is in cc

  part_stage : (h : HubPhase) → judged ls (s.hub.frame ++ (x ∷ xs)) ≡ Ok part → Stage (view s) o y.packets y.session h → Stage (hubbed (view s) h (s.hub.frame ++ (x ∷ xs)) u.waiting s.down.waiting) o y.packets y.session h
  part_stage Shut ju st = tt
  part_stage Waiting ju st =
      let r = still_part ls s.hub.frame (x ∷ xs) u.waiting (its_login (view s) ∷ []) (ap (λ z. s.hub.frame ++ z) (sym tk.front) ∙ st.3) st.4 (login_valid o b s i tr (y.asks st.2).0, tt) (omega arith) (got_within s.up (lack s.hub.frame) (x ∷ xs) u tk) ju in
      (st.0, st.1, st.2, r.1, r.0)
  part_stage (Answering q) ju st = st
  part_stage (Rejecting r) ju st = st
  part_stage (Serving q n d) ju st = st
  part_stage (Filling n l) ju st = st

  whole_stage : (v : Value) (h : HubPhase) → judged ls (s.hub.frame ++ (x ∷ xs)) ≡ Ok (whole v) → (v ≡ its_login (view s) → ⊥) → Stage (view s) o y.packets y.session h → Stage (hubbed (view s) h [] u.waiting s.down.waiting) o y.packets y.session h
  whole_stage v Shut ju nl st = tt
  whole_stage v Waiting ju nl st = absurd (nl (came_login v ju st))
  whole_stage v (Answering q) ju nl st = st
  whole_stage v (Rejecting r) ju nl st = st
  whole_stage v (Serving q n d) ju nl st = st
  whole_stage v (Filling n l) ju nl st = st

same_login : (v u c p : List ℕ) (x n : ℕ) (w : View) → login_request v u c p x n ≡ its_login w → (x ≡ w.asked) × (n ≡ w.number)
same_login v u c p x n w e = (cc, cc)

hub_heard_tru : (o : Option Note) (b : Book) (s : Pair) (p : Outcome Received) → HubHeard s p → Sound b s → Truth o b s → Truth o b p.after
hub_heard_tru o b s _ (hub_refused l) i tr = tr
hub_heard_tru o b s _ (hub_none u l tk) i tr = subst (λ z. Tru o b (hubbed (view s) s.hub.phase s.hub.frame z s.down.waiting)) tk.front tr
hub_heard_tru o b s _ (hub_part x xs u l tk ju) i tr = rehub o b (view s) s.hub.phase (s.hub.frame ++ (x ∷ xs)) u.waiting (λ y. (part_stage o b s u x xs tk i tr y (hub_letters s.hub.phase) s.hub.phase ju y.stage, omega arith)) tr
hub_heard_tru o b s _ (hub_fault x xs u fault l tk ju) i tr = gone_tru o b (hub_took (x ∷ xs) [] u s) G.BadPacket (shut_tru o b (view s) [] u.waiting tr)
hub_heard_tru o b s _ (hub_whole x xs u v l tk ju) i tr = go s.hub.phase v _ refl ju (hub_acted (hub_took (x ∷ xs) [] u s) s.hub.phase v)
  where
    ls : List Letter
    ls = hub_letters s.hub.phase

    stays : (v : Value) → judged (hub_letters s.hub.phase) (s.hub.frame ++ (x ∷ xs)) ≡ Ok (whole v) → NoLogin v → Truth o b (hub_took (x ∷ xs) [] u s)
    stays v ju nl = rehub o b (view s) s.hub.phase [] u.waiting (λ y. (whole_stage o b s u x xs tk i tr y (hub_letters s.hub.phase) v s.hub.phase ju (nl (asks spoken_version s.account.user s.account.computer s.account.protocol s.seat.session s.seat.number)) y.stage, omega arith)) tr

    go : (h : HubPhase) (v : Value) (p : Outcome Received) → s.hub.phase ≡ h → judged (hub_letters s.hub.phase) (s.hub.frame ++ (x ∷ xs)) ≡ Ok (whole v) → HubActed (hub_took (x ∷ xs) [] u s) h v p → Truth o b p.after
    go _ _ _ ph ju (hub_bad_lem h v fault) = gone_tru o b (hub_took (x ∷ xs) [] u s) G.BadPacket (shut_tru o b (view s) [] u.waiting tr)
    go _ _ _ ph ju (hub_admits_lem v u' c p z n j st) = rehub o b (view s) (Answering n) [] u.waiting (λ y.
        let sg = at_stage o (view s) Waiting y ph in
        let same = same_login v u' c p z n (view s) (came_login o b s u x xs tk i tr y (hub_letters s.hub.phase) (login_request v u' c p z n) ju sg) in
        let ss : (s.seat.session ≡ 0) ⊎ (s.seat.session ≡ s.running.log.session) = ⊎_elim (λ e. inl (sym same.0 ∙ e)) (λ e. inr (sym same.0 ∙ e)) (passed s.rows s.running.log.session (count s.running.log) (asks v u' c p z n) st).session in
        ((sg.0, sg.1, sg.2, same.1, ss), omega arith)) tr
    go _ _ _ ph ju (hub_rejects v u' c p z n t ne st) = rehub o b (view s) (Rejecting t) [] u.waiting (λ y. ((at_stage o (view s) Waiting y ph).0, omega arith)) tr
    go _ _ _ ph ju (hub_refills q n a e d z) = rehub o b (view s) (Filling a (min e (count s.running.log))) [] u.waiting (λ y. absurd (omega (arith, z, (at_stage o (view s) (Serving q n d) y ph).0))) tr
    go _ _ _ ph ju (hub_leaves_lem h v l) = shut_tru o b (view s) [] u.waiting tr
    go _ _ _ ph ju (hub_stays h v r nl) = stays v ju nl

hub_receives_tru : (o : Option Note) (b : Book) (s : Pair) (p : Outcome Received) → HubReceives s p → Sound b s → Truth o b s → Truth o b p.after
hub_receives_tru o b s p r = hub_heard_tru o b s p (hub_heard_lem s p r)

-- the seat's side
abbrev seated : View → SeatPhase → Bool → Meaning → View
seated w p st l = record { hub = w.hub; hub_frame_lem = w.hub_frame_lem; up = w.up; user = w.user; computer = w.computer; protocol = w.protocol; seat = p; asked = w.asked; number = w.number; fetch = w.fetch; in_step = st; frame = w.frame; kept = w.kept; held = l; down = w.down }

-- a packet has come to a seat that joined; w is the view without it
pub record Came (o : Option Note) (w : View) (v : Value) : Type 0 where
  pub session : ℕ
  pub rest : List Value
  pub stream : w.frame ++ w.down ≡ flat_map encode rest
  pub short : Short sesm w.frame rest
  pub valid : All Valid rest
  pub no_fetch : w.fetch ≡ None
  pub notes : (k : Note) → o ≡ Some k → k.session ≡ session
  pub asks : w.seat ≡ Asking → Asked w × (w.in_step ≡ false)
  pub live : w.seat ≡ Live → w.held.session ≡ session
  pub stages : (x : View) → x.kept ≡ w.kept → Stage x o rest session w.hub
  pub leads : Leads o session w.number (count (in_session w.held session)) (v ∷ rest) (goal w.hub)

late_stage : (o : Option Note) (w : View) (v : Value) (rest ps : List Value) (x : ℕ) (h : HubPhase) → ps ≡ v ∷ rest → Stage w o ps x h → (z : View) → z.kept ≡ w.kept → Stage z o rest x h
late_stage o w v rest ps x Shut e st z k = tt
late_stage o w v rest ps x Waiting e st z k = (cc (st.0, e))
late_stage o w v rest ps x (Answering q) e st z k = (cc (st.0, e))
late_stage o w v rest ps x (Rejecting r) e st z k = (cc (st, e))
late_stage o w v rest ps x (Serving q n d) e st z k = (st.0, st.1, ap (λ (l : Meaning). l.session) k ∙ st.2)
late_stage o w v rest ps x (Filling n l) e st z k = st

module _ (o : Option Note) (s : Pair) (d : LineView) (x : ℕ) (xs : List ℕ) (tk : Took s.down (lack s.seat.frame) (x ∷ xs) d) (ls : List Letter) (y : Joined o (view s)) where
  came : (v : Value) → judged ls (s.seat.frame ++ (x ∷ xs)) ≡ Ok (whole v) → Came o (view (seat_took (x ∷ xs) [] d s)) v
  came v ju =
      let c = now_whole ls s.seat.frame (x ∷ xs) d.waiting y.packets (ap (λ z. s.seat.frame ++ z) (sym tk.front) ∙ y.stream) y.short y.valid (omega arith) (got_within s.down (lack s.seat.frame) (x ∷ xs) d tk) v ju in
      record { session = y.session; rest = c.rest; stream = c.waits; short = short_nil sesm c.rest; valid = (subst (All Valid) c.is y.valid).1; no_fetch = y.no_fetch; notes = y.notes; asks = y.asks; live = y.live; stages = late_stage o (view s) v c.rest y.packets y.session s.hub.phase c.is y.stage; leads = subst (λ ps. Leads o y.session s.seat.number (count (in_session s.held y.session)) ps (goal s.hub.phase)) c.is y.leads }

  seat_part_joined : judged ls (s.seat.frame ++ (x ∷ xs)) ≡ Ok part → Joined o (view (seat_took (x ∷ xs) (s.seat.frame ++ (x ∷ xs)) d s))
  seat_part_joined ju =
      let r = still_part ls s.seat.frame (x ∷ xs) d.waiting y.packets (ap (λ z. s.seat.frame ++ z) (sym tk.front) ∙ y.stream) y.short y.valid (omega arith) (got_within s.down (lack s.seat.frame) (x ∷ xs) d tk) ju in
      record { session = y.session; packets = y.packets; stream = r.1; short = r.0; valid = y.valid; no_fetch = y.no_fetch; notes = y.notes; asks = y.asks; live = y.live; stage = restage s.hub.phase y.stage; leads = y.leads }
    where
      restage : (h : HubPhase) → Stage (view s) o y.packets y.session h → Stage (view (seat_took (x ∷ xs) (s.seat.frame ++ (x ∷ xs)) d s)) o y.packets y.session h
      restage Shut st = tt
      restage Waiting st = st
      restage (Answering q) st = st
      restage (Rejecting r) st = st
      restage (Serving q n e) st = st
      restage (Filling n l) st = st

settle : (o : Option Note) (w : View) (v : Value) (cm : Came o w v) (p : SeatPhase) (st : Bool) (l : Meaning) → (p ≡ Asking → Asked (seated w p st l) × (st ≡ false)) → (p ≡ Live → l.session ≡ cm.session) → Leads o cm.session w.number (count (in_session l cm.session)) cm.rest (goal w.hub) → Joined o (seated w p st l)
settle o w v cm p st l a b c = record { session = cm.session; packets = cm.rest; stream = cm.stream; short = cm.short; valid = cm.valid; no_fetch = cm.no_fetch; notes = cm.notes; asks = a; live = b; stage = cm.stages (seated w p st l) refl; leads = c }

holds_from : (o : Option Note) (b : Book) (l : Meaning) → IsPrefix l.messages (b.lists l.session) → ((k : Note) → o ≡ Some k → IsPrefix k.messages (b.lists k.session)) → (k : Note) → o ≡ Some k → k.session ≡ l.session → length k.messages ≤ count l → Holds o l
holds_from o b l pre nt k e se le = record { note = k; is = e; session = se; all = IsPrefix-shorter k.messages l.messages (b.lists l.session) (subst (λ x. IsPrefix k.messages (b.lists x)) se (nt k e)) pre le }

-- the seat is apart
apart_tru : (o : Option Note) (b : Book) (s t : Pair) → t.seat.phase ≡ Apart → t.seat.in_step ≡ s.seat.in_step → t.held ≡ s.held → t.account ≡ s.account → Truth o b s → Truth o b t
apart_tru o b s t ap' st he me tr = record { notes = tr.notes; truth = λ e. subst (Holds o) (sym he) (tr.truth (sym st ∙ e)); user = ap (λ (r : Account). length r.user) me ∙ tr.user; computer = ap (λ (r : Account). length r.computer) me ∙ tr.computer; protocol = ap (λ (r : Account). length r.protocol) me ∙ tr.protocol; few = subst (λ (l : Meaning). count l ≤ l.places) (sym he) tr.few; places = subst (λ (l : Meaning). l.places ≤ size_limit) (sym he) tr.places; way = gone ap' }

pub in_session_at : (l : Meaning) (x : ℕ) → l.session ≡ x → in_session l x ≡ l
in_session_at l x e = cond-true _ _ _ (eq-eqb l.session x e)

pub in_session_is : (l : Meaning) (x : ℕ) → (in_session l x).session ≡ x
in_session_is l x = cond_both (eqb l.session x) l (begun l x) (λ z. z.session ≡ x) (λ t. eqb-true _ _ t) (λ t. refl)

in_session_few : (l : Meaning) (x : ℕ) → count l ≤ l.places → l.places ≤ size_limit → (count (in_session l x) ≤ (in_session l x).places) × ((in_session l x).places ≤ size_limit)
in_session_few l x a b = cond_both (eqb l.session x) l (begun l x) (λ (z : Meaning). (count z ≤ z.places) × (z.places ≤ size_limit)) (λ t. (a, b)) (λ t. (omega arith, b))

module _ (o : Option Note) (b : Book) (s : Pair) (d : LineView) (x : ℕ) (xs : List ℕ) (na : is_apart s.seat.phase ≡ false) (tk : Took s.down (lack s.seat.frame) (x ∷ xs) d) where
  abbrev heard : Pair
  heard = seat_took (x ∷ xs) [] d s

  abbrev letters : List Letter
  letters = seat_letters s.seat.phase s.seat.fetch

  -- the packet changes neither the seat nor its log
  came_same : (v : Value) (tr : Truth o b s) → judged letters (s.seat.frame ++ (x ∷ xs)) ≡ Ok (whole v) → ((cm : Came o (view heard) v) → Leads o cm.session s.seat.number (count (in_session s.held cm.session)) cm.rest (goal s.hub.phase)) → Truth o b heard
  came_same v tr ju k = record { notes = tr.notes; truth = tr.truth; user = tr.user; computer = tr.computer; protocol = tr.protocol; few = tr.few; places = tr.places; way = go tr.way }
    where
      go : Way o (view s) → Way o (view heard)
      go (gone e) = absurd (not_apart s.seat.phase na e)
      go (fetches e f n i) = fetches e f n i
      go (joins y) = let cm = came o s d x xs tk letters y v ju in joins (settle o (view heard) v cm s.seat.phase s.seat.in_step s.held cm.asks cm.live (k cm))

  -- an accepted response
  accepts_tru : (z top : ℕ) → s.seat.phase ≡ Asking → judged letters (s.seat.frame ++ (x ∷ xs)) ≡ Ok (whole (login_response Accepted z top)) → IsPrefix (in_session s.held z).messages (b.lists (in_session s.held z).session) → Truth o b s → Tru o b (seated (view heard) Live (s.seat.in_step || eqb (top + 1) s.seat.number) (in_session s.held z))
  accepts_tru z top ph ju pre tr = go tr.way
    where
      l : Meaning
      l = in_session s.held z

      st : Bool
      st = s.seat.in_step || eqb (top + 1) s.seat.number

      fp : (count (in_session s.held z) ≤ (in_session s.held z).places) × ((in_session s.held z).places ≤ size_limit)
      fp = in_session_few s.held z tr.few tr.places

      go : Way o (view s) → Tru o b (seated (view heard) Live (s.seat.in_step || eqb (top + 1) s.seat.number) (in_session s.held z))
      go (gone e) = absurd (not_apart s.seat.phase na e)
      go (fetches e f n g) =
          let e1 : eqb (top + 1) s.seat.number ≡ false = ne_eqb (top + 1) s.seat.number (λ q. omega arith) in
          let e2 : (s.seat.in_step || eqb (top + 1) s.seat.number) ≡ false = rw (g, e1) refl in
          record { notes = tr.notes; truth = λ q. (cc (q, e2)); user = tr.user; computer = tr.computer; protocol = tr.protocol; few = fp.0; places = fp.1; way = fetches e f n e2 }
      go (joins y) =
          let v : Value = login_response Accepted z top in
          let n : Meaning = in_session s.held z in
          let cm = came o s d x xs tk letters y v ju in
          let ask = cm.asks ph in
          let zs : z ≡ cm.session = cm.leads.0 refl in
          let le : n ≡ in_session s.held cm.session = ap (in_session s.held) zs in
          let same : in_session n cm.session ≡ n = in_session_at n cm.session (in_session_is s.held z ∙ zs) in
          let ll : count n ≡ count (in_session s.held cm.session) = ap count le in
          let l2 : count (in_session n cm.session) ≡ count (in_session s.held cm.session) = ap count same ∙ ll in
          record {
            notes = tr.notes;
            truth = λ q. ⊎_elim (λ r. (cc (r, ask.1)))
                (λ r. let re = cm.leads.1 refl (eqb-true _ _ r) in
                holds_from o b n pre tr.notes re.0 re.1 (cm.notes re.0 re.1 ∙ sym zs ∙ sym (in_session_is s.held z)) (omega (arith, re.2, ll)))
                (or_cases s.seat.in_step (eqb (top + 1) s.seat.number) q);
            user = tr.user;
            computer = tr.computer;
            protocol = tr.protocol;
            few = fp.0;
            places = fp.1;
            way = joins (settle o (view heard) v cm Live (s.seat.in_step || eqb (top + 1) s.seat.number) n (λ q. (cc)) (λ q. in_session_is s.held z ∙ zs) (subst (λ c. Leads o cm.session s.seat.number c cm.rest (goal s.hub.phase)) (sym l2) cm.leads.2));
          }

  -- the next message is kept
  keeps_tru : (n : ℕ) (m : Message) → s.seat.phase ≡ Live → n ≡ next_number s.held → count s.held < s.held.places → judged letters (s.seat.frame ++ (x ∷ xs)) ≡ Ok (whole (sequenced n m)) → Truth o b s → Tru o b (seated (view heard) s.seat.phase s.seat.in_step (Log.added s.held m))
  keeps_tru n m ph nu lt ju tr = go tr.way
    where
      l : Meaning
      l = Log.added s.held m

      lp : count (Log.added s.held m) ≡ count s.held + 1
      lp = length_push s.held.messages m

      tru : s.seat.in_step ≡ true → Holds o (Log.added s.held m)
      tru q = let h = tr.truth q in record { note = h.note; is = h.is; session = h.session; all = IsPrefix-trans h.note.messages s.held.messages (Log.added s.held m).messages h.all (IsPrefix-push s.held.messages m) }

      go : Way o (view s) → Tru o b (seated (view heard) s.seat.phase s.seat.in_step (Log.added s.held m))
      go (gone e) = absurd (not_apart s.seat.phase na e)
      go (fetches e f k g) = record { notes = tr.notes; truth = tru; user = tr.user; computer = tr.computer; protocol = tr.protocol; few = omega (arith, lt, lp); places = tr.places; way = fetches e f k g }
      go (joins y) =
          let v : Value = sequenced n m in
          let a : Meaning = Log.added s.held m in
          let cm = came o s d x xs tk letters y v ju in
          let se : s.held.session ≡ cm.session = cm.live ph in
          let c0 : count (in_session s.held cm.session) ≡ count s.held = ap count (in_session_at s.held cm.session se) in
          let c1 : count (in_session a cm.session) ≡ count (in_session s.held cm.session) + 1 = ap count (in_session_at a cm.session se) ∙ omega (arith, lp, c0) in
          record {
            notes = tr.notes;
            truth = tru;
            user = tr.user;
            computer = tr.computer;
            protocol = tr.protocol;
            few = omega (arith, lt, lp);
            places = tr.places;
            way = joins (settle o (view heard) v cm s.seat.phase s.seat.in_step a (λ q. (cc (q, ph))) (λ q. se) (subst (λ c. Leads o cm.session s.seat.number c cm.rest (goal s.hub.phase)) (sym c1) (cm.leads.1 (omega arith))));
          }

  -- synchronization complete
  completes_tru : s.seat.phase ≡ Live → s.seat.fetch ≡ None → judged letters (s.seat.frame ++ (x ∷ xs)) ≡ Ok (whole synchronization_complete) → IsPrefix s.held.messages (b.lists s.held.session) → Truth o b s → Tru o b (seated (view heard) Live true s.held)
  completes_tru ph fe ju pre tr = go tr.way
    where
      go : Way o (view s) → Tru o b (seated (view heard) Live true s.held)
      go (gone e) = absurd (not_apart s.seat.phase na e)
      go (fetches e f n g) = (cc (f, fe))
      go (joins y) =
          let cm = came o s d x xs tk letters y synchronization_complete ju in
          let se : s.held.session ≡ cm.session = cm.live ph in
          let c0 : count (in_session s.held cm.session) ≡ count s.held = ap count (in_session_at s.held cm.session se) in
          let re = cm.leads.0 in
          record {
            notes = tr.notes;
            truth = λ q. holds_from o b s.held pre tr.notes re.0 re.1 (cm.notes re.0 re.1 ∙ sym se) (omega (arith, re.2));
            user = tr.user;
            computer = tr.computer;
            protocol = tr.protocol;
            few = tr.few;
            places = tr.places;
            way = joins (settle o (view heard) synchronization_complete cm Live true s.held (λ q. (cc)) (λ q. se) cm.leads.1);
          }

  seat_acted_tru : (p : SeatPhase) (v : Value) (r : Outcome Received) → s.seat.phase ≡ p → SeatActed heard p v r → judged letters (s.seat.frame ++ (x ∷ xs)) ≡ Ok (whole v) → Sound b r.after → Truth o b s → Truth o b r.after
  seat_acted_tru _ _ _ ph (seat_leaves p v r g) ju i tr = apart_tru o b s r.after g.phase g.in_step g.held g.account tr
  seat_acted_tru _ _ _ ph (seat_accepts z top su) ju i tr = accepts_tru z top ph ju i.held tr
  seat_acted_tru _ _ _ ph (seat_keeps_lem n m nu ok) ju i tr =
      let fit = verdict_ok s.held.session (room s.held) (s.held.places - count s.held) s.held.overhead (length m) ok in
      keeps_tru n m ph nu (omega (arith, fit.2)) ju tr
  seat_acted_tru _ _ _ ph (seat_passes n m nu) ju i tr = came_same (sequenced n m) tr ju (λ cm.
      let c0 : count (in_session s.held cm.session) ≡ count s.held = ap count (in_session_at s.held cm.session (cm.live ph)) in
      cm.leads.2 (omega arith))
  seat_acted_tru _ _ _ ph (seat_skips_lem n e m fe) ju i tr = came_same (sequenced n m) tr ju (λ cm. (cc (cm.no_fetch, fe)))
  seat_acted_tru _ _ _ ph (seat_completes fe) ju i tr = completes_tru ph fe ju i.held tr
  seat_acted_tru _ _ _ ph (seat_told m) ju i tr = came_same (unsequenced m) tr ju (λ cm. cm.leads)
  seat_acted_tru _ _ _ ph seat_beaten ju i tr = came_same hub_heartbeat tr ju (λ cm. cm.leads)
  seat_acted_tru _ _ _ ph (seat_tested t) ju i tr = came_same (test t) tr ju (λ cm. cm.leads)

seat_heard_tru : (o : Option Note) (b : Book) (s : Pair) (p : Outcome Received) → SeatHeard s p → Sound b p.after → Truth o b s → Truth o b p.after
seat_heard_tru o b s _ (seat_refused ph) i tr = tr
seat_heard_tru o b s _ (seat_none d na tk) i tr = subst (λ z. Tru o b (hubbed (view s) s.hub.phase s.hub.frame s.up.waiting z)) tk.front tr
seat_heard_tru o b s _ (seat_part x xs d na tk ju) i tr = record { notes = tr.notes; truth = tr.truth; user = tr.user; computer = tr.computer; protocol = tr.protocol; few = tr.few; places = tr.places; way = go tr.way }
  where
    go : Way o (view s) → Way o (view (seat_took (x ∷ xs) (s.seat.frame ++ (x ∷ xs)) d s))
    go (gone e) = absurd (not_apart s.seat.phase na e)
    go (fetches e f n g) = fetches e f n g
    go (joins y) = joins (seat_part_joined o s d x xs tk (seat_letters s.seat.phase s.seat.fetch) y ju)
seat_heard_tru o b s _ (seat_fault x xs d fault na tk ju) i tr =
    let g = seat_gone_lem X.BadPacket (seat_took (x ∷ xs) [] d s) in apart_tru o b s (seat_gone X.BadPacket (seat_took (x ∷ xs) [] d s)) g.phase g.in_step g.held g.account tr
seat_heard_tru o b s _ (seat_whole x xs d v na tk ju) i tr = seat_acted_tru o b s d x xs na tk s.seat.phase v _ refl (seat_acted (seat_took (x ∷ xs) [] d s) s.seat.phase v) ju i tr

seat_receives_tru : (o : Option Note) (b : Book) (s : Pair) (p : Outcome Received) → SeatReceives s p → Sound b s → Truth o b s → Truth o b p.after
seat_receives_tru o b s p r i = seat_heard_tru o b s p (seat_heard_lem s p r) (seat_receives_keep b s p r i).sound

-- a seat that is live writes
live_stage : (o : Option Note) (w : View) (u : List ℕ) (ps : List Value) (x : ℕ) (h : HubPhase) → w.seat ≡ Live → Stage w o ps x h → Stage (hubbed w h w.hub_frame_lem u w.down) o ps x h
live_stage o w u ps x Shut l st = tt
live_stage o w u ps x Waiting l st = (cc (l, st.2))
live_stage o w u ps x (Answering q) l st = st
live_stage o w u ps x (Rejecting r) l st = st
live_stage o w u ps x (Serving q n d) l st = st
live_stage o w u ps x (Filling n m) l st = st

live_writes : (o : Option Note) (b : Book) (s : Pair) (v : Value) → s.seat.phase ≡ Live → Truth o b s → Truth o b (seat_writes v s)
live_writes o b s v l tr = rehub o b (view s) s.hub.phase s.hub.frame (s.up.waiting ++ encode v) (λ y. (live_stage o (view s) (s.up.waiting ++ encode v) y.packets y.session s.hub.phase l y.stage, omega arith)) tr

seat_sent_tru : (o : Option Note) (b : Book) (s : Pair) (p : Outcome (Option Letter)) → SeatSent s p → Truth o b s → Truth o b p.after
seat_sent_tru o b s _ (seat_sent_refused r) tr = tr
seat_sent_tru o b s _ seat_sent_none tr = tr
seat_sent_tru o b s _ (seat_sent_request v ph) tr = live_writes o b s v ph tr
seat_sent_tru o b s _ (seat_sent_beat v ph) tr = live_writes o b s v ph tr

-- the hub's receives leave the seat
gone_seat : (s : Pair) (r : GoodByeReason) → (hub_gone r s).seat ≡ s.seat
gone_seat s r = cond_both (fits s.down (encode (good_bye r []))) (hub_writes (good_bye r []) s) s (λ u. u.seat ≡ s.seat) (λ t. refl) (λ t. refl)

hub_acted_seat : (s : Pair) (h : HubPhase) (v : Value) (p : Outcome Received) → HubActed s h v p → p.after.seat ≡ s.seat
hub_acted_seat s _ _ _ (hub_bad_lem h v fault) = gone_seat s G.BadPacket
hub_acted_seat s _ _ _ (hub_admits_lem v u c p x n j st) = refl
hub_acted_seat s _ _ _ (hub_rejects v u c p x n t ne st) = refl
hub_acted_seat s _ _ _ (hub_refills q n a e d z) = refl
hub_acted_seat s _ _ _ (hub_leaves_lem h v l) = refl
hub_acted_seat s _ _ _ (hub_stays h v r nl) = refl

hub_heard_seat : (s : Pair) (p : Outcome Received) → HubHeard s p → p.after.seat ≡ s.seat
hub_heard_seat s _ (hub_refused l) = refl
hub_heard_seat s _ (hub_none u l k) = refl
hub_heard_seat s _ (hub_part x xs u l k j) = refl
hub_heard_seat s _ (hub_fault x xs u fault l k j) = gone_seat (hub_took (x ∷ xs) [] u s) G.BadPacket
hub_heard_seat s _ (hub_whole x xs u v l k j) = hub_acted_seat (hub_took (x ∷ xs) [] u s) _ v _ (hub_acted (hub_took (x ∷ xs) [] u s) s.hub.phase v)

pub hub_drains_seat : {s : Pair} {n : ℕ} {x : Option Fault} {t : Pair} → Drains HubReceives s n x t → t.seat ≡ s.seat
hub_drains_seat (ends s o x r g) = hub_heard_seat s o (hub_heard_lem s o r)
hub_drains_seat (more s o j n x t r g d) = hub_drains_seat d ∙ hub_heard_seat s o (hub_heard_lem s o r)

drains_tru : (o : Option Note) (b : Book) (R : Pair → Outcome Received → Type 0) → ((s : Pair) (p : Outcome Received) → R s p → Sound b s → Kept b s p.after) → ((s : Pair) (p : Outcome Received) → R s p → Sound b s → Truth o b s → Truth o b p.after) → {s : Pair} {n : ℕ} {x : Option Fault} {t : Pair} → Drains R s n x t → Sound b s → Truth o b s → Truth o b t
drains_tru o b R k l (ends s p x r g) i tr = l s p r i tr
drains_tru o b R k l (more s p j n x t r g d) i tr = drains_tru o b R k l d (k s p r i).sound (l s p r i tr)

rounds_tru : (o : Option Note) (b : Book) (s : Pair) (p : Report) (w : Option Value) (t : Pair) → Rounds s p w t → Sound b s → Truth o b s → Truth (written s.seat.number b w o) b t
rounds_tru o b s p w t r q tr =
    let h = drains_tru o b HubReceives (hub_receives_keep b) (hub_receives_tru o b) r.hub_drains q tr in
    let hs = (drains_keep b HubReceives (hub_receives_keep b) r.hub_drains q).sound in
    let e : written r.heard.seat.number b (hub_sends r.heard).wrote o ≡ written s.seat.number b w o = ap (λ (z : SeatEnd). written z.number b (hub_sends r.heard).wrote o) (hub_drains_seat r.hub_drains) ∙ ap (λ z. written s.seat.number b z o) (sym r.hub_wrote) in
    let n : Option Note = written s.seat.number b w o in
    let m = subst (λ z. Truth z b (hub_sends r.heard).after) e (hub_sent_tru o b r.heard (hub_sends r.heard) (hub_sent_lem r.heard) hs h) in
    let ms = (hub_sent_keep b r.heard (hub_sends r.heard) (hub_sent_lem r.heard) hs).sound in
    let d = drains_tru n b SeatReceives (seat_receives_keep b) (seat_receives_tru n b) r.seat_drains ms m in
    subst (Truth n b) (sym r.seat_sent) (seat_sent_tru n b r.taken (seat_sends r.taken) (seat_sent r.taken) d)

hub_timed_tru : (o : Option Note) (b : Book) (s t : Pair) → HubTimed s t → Truth o b s → Truth o b t
hub_timed_tru o b s _ hub_lasts tr = tr
hub_timed_tru o b s _ hub_lost tr = shut_tru o b (view s) s.hub.frame s.up.waiting tr
hub_timed_tru o b s _ hub_late tr = gone_tru o b s G.LoginTimeout (shut_tru o b (view s) s.hub.frame s.up.waiting tr)

seat_timed_tru : (o : Option Note) (b : Book) (s t : Pair) → SeatTimed s t → Truth o b s → Truth o b t
seat_timed_tru o b s _ seat_lasts tr = tr
seat_timed_tru o b s _ seat_lost tr = apart_tru o b s (seat_to Apart s) refl refl refl refl tr

-- a new connection
pub new_joined : (s : Pair) (how : How) → fetch_end how ≡ None → Asked (view (connected how s)) → Joined None (view (connected how s))
new_joined s how fe a = record { session = 0; packets = []; stream = refl; short = tt; valid = tt; no_fetch = fe; notes = λ k e. (cc); asks = λ z. (a, refl); live = λ z. (cc); stage = (refl, refl, refl, sym (append-nil _), sesm.some (its_login (view (connected how s)))); leads = omega arith }

pub new_tru : (o : Option Note) (b : Book) (s : Pair) (how : How) → Way None (view (connected how s)) → Truth o b s → Truth None b (connected how s)
new_tru o b s how w tr = record { notes = λ k e. (cc); truth = λ e. (cc); user = tr.user; computer = tr.computer; protocol = tr.protocol; few = tr.few; places = tr.places; way = w }

asked_join : (b : Book) (s : Pair) → Sound b s → Asked (view (connected Join s))
asked_join b s i = ⊎_elim
    (λ z. inl (z, let e : b.lists s.held.session ≡ [] = ap b.lists z ∙ i.none in omega (arith, IsPrefix-length s.held.messages (b.lists s.held.session) i.held, ap length e)))
    (λ z. inr (refl, ne_pos s.held.session z, refl))
    (cases_eq s.held.session 0)
  where
    ne_pos : (n : ℕ) → (n ≡ 0 → ⊥) → 0 < n
    ne_pos n h = ⊎_elim (λ l. l) (λ l. absurd (h (omega arith))) (cases_lt 0 n)

pub connect_asked : (b : Book) (s : Pair) (how : How) → fetch_end how ≡ None → Sound b s → Asked (view (connected how s))
connect_asked b s Join fe i = asked_join b s i
connect_asked b s Anew fe i = inl (refl, refl)
connect_asked b s (Fetch e) fe i = (cc)

connected_tru : (o : Option Note) (b : Book) (s : Pair) (how : How) → Sound b s → Truth o b s → Truth None b (connected how s)
connected_tru o b s Join i tr = new_tru o b s Join (joins (new_joined s Join refl (asked_join b s i))) tr
connected_tru o b s Anew i tr = new_tru o b s Anew (joins (new_joined s Anew refl (inl (refl, refl)))) tr
connected_tru o b s (Fetch e) i tr = new_tru o b s (Fetch e) (fetches e refl refl refl) tr

-- the hub's log changes
abbrev rekept : View → Meaning → View
rekept v k = record { hub = v.hub; hub_frame_lem = v.hub_frame_lem; up = v.up; user = v.user; computer = v.computer; protocol = v.protocol; seat = v.seat; asked = v.asked; number = v.number; fetch = v.fetch; in_step = v.in_step; frame = v.frame; kept = k; held = v.held; down = v.down }

rekept_way : (o : Option Note) (v : View) (k : Meaning) → ((ps : List Value) (x : ℕ) → Stage v o ps x v.hub → Stage (rekept v k) o ps x v.hub) → Way o v → Way o (rekept v k)
rekept_way o v k f (gone e) = gone e
rekept_way o v k f (fetches e x y z) = fetches e x y z
rekept_way o v k f (joins y) = joins (record { session = y.session; packets = y.packets; stream = y.stream; short = y.short; valid = y.valid; no_fetch = y.no_fetch; notes = y.notes; asks = y.asks; live = y.live; stage = f y.packets y.session y.stage; leads = y.leads })

same_session_stage : (o : Option Note) (v : View) (k : Meaning) → k.session ≡ v.kept.session → (h : HubPhase) (ps : List Value) (x : ℕ) → Stage v o ps x h → Stage (rekept v k) o ps x h
same_session_stage o v k e Shut ps x st = tt
same_session_stage o v k e Waiting ps x st = st
same_session_stage o v k e (Answering q) ps x st = (st.0, st.1, st.2, st.3, ⊎_elim (λ z. inl z) (λ z. inr (z ∙ sym e)) st.4)
same_session_stage o v k e (Rejecting r) ps x st = st
same_session_stage o v k e (Serving q n d) ps x st = (st.0, st.1, e ∙ st.2)
same_session_stage o v k e (Filling n l) ps x st = st

rolled_stage : (o : Option Note) (v : View) (k : Meaning) (h : HubPhase) → busy h ≡ false → (ps : List Value) (x : ℕ) → Stage v o ps x h → Stage (rekept v k) o ps x h
rolled_stage o v k Shut bu ps x st = tt
rolled_stage o v k Waiting bu ps x st = st
rolled_stage o v k (Answering q) bu ps x st = (cc)
rolled_stage o v k (Rejecting r) bu ps x st = st
rolled_stage o v k (Serving q n d) bu ps x st = (cc)
rolled_stage o v k (Filling n l) bu ps x st = st

published_tru : (o : Option Note) (b : Book) (s : Pair) (m : Message) → Truth o b s → Tru o (added b m) (rekept (view s) (Log.added s.running.log m))
published_tru o b s m tr = record { notes = λ k q. IsPrefix-trans k.messages (b.lists k.session) ((added b m).lists k.session) (tr.notes k q) (list_grows b m k.session); truth = tr.truth; user = tr.user; computer = tr.computer; protocol = tr.protocol; few = tr.few; places = tr.places; way = rekept_way o (view s) (Log.added s.running.log m) (same_session_stage o (view s) (Log.added s.running.log m) refl s.hub.phase) tr.way }

rolled_tru : (o : Option Note) (b : Book) (s : Pair) → busy s.hub.phase ≡ false → Truth o b s → Tru o (turned b) (rekept (view s) (begun s.running.log (s.running.log.session + 1)))
rolled_tru o b s e tr = record { notes = tr.notes; truth = tr.truth; user = tr.user; computer = tr.computer; protocol = tr.protocol; few = tr.few; places = tr.places; way = rekept_way o (view s) (begun s.running.log (s.running.log.session + 1)) (rolled_stage o (view s) (begun s.running.log (s.running.log.session + 1)) s.hub.phase e) tr.way }

told_tru : (o : Option Note) (b : Book) (s : Pair) (m : Message) → is_serving s.hub.phase ≡ true → Valid (unsequenced m) → Truth o b s → Truth o b (hub_writes (unsequenced m) s)
told_tru o b s m se va tr =
    let v : Value = unsequenced m in
    tru_writes o b (view s) s.hub.phase v (λ y. joined_plain o (view s) s.hub.phase v y va (go s.hub.phase se y.packets y.session y.stage) (λ c z. z)) tr
  where
    go : (h : HubPhase) → is_serving h ≡ true → (ps : List Value) (x : ℕ) → Stage (view s) o ps x h → Stage (after (view s) s.hub.phase (unsequenced m)) o (ps ++ (unsequenced m ∷ [])) x h
    go Shut e ps x st = tt
    go Waiting e ps x st = (cc)
    go (Answering q) e ps x st = (cc)
    go (Rejecting r) e ps x st = (cc)
    go (Serving q n d) e ps x st = st
    go (Filling n l) e ps x st = (cc)

live_is : (p : SeatPhase) → is_live p ≡ true → p ≡ Live
live_is Apart e = (cc)
live_is Asking e = (cc)
live_is Live e = refl

-- a call that is refused changes nothing, and neither book nor note
tried_tru : (o p : Option Note) (b c : Book) (s t : Pair) (Fact : Type 0) (r : Done) → Tried s t Fact r → (Fact → Truth p c t) → (n : Answer → Book) (k : Answer → Option Note) → ((x : Refusal) → (n (Answer.Done (Err x)) ≡ b) × (k (Answer.Done (Err x)) ≡ o)) → n (Answer.Done (Ok tt)) ≡ c → k (Answer.Done (Ok tt)) ≡ p → Truth o b s → Truth (k (Answer.Done r.answer)) (n (Answer.Done r.answer)) r.after
tried_tru o p b c s t Fact _ (refused x) f n k e g h tr = subst (λ z. Truth z (n (Answer.Done (Err x))) s) (sym (e x).1) (subst (λ z. Truth o z s) (sym (e x).0) tr)
tried_tru o p b c s t Fact _ (granted x) f n k e g h tr = subst (λ z. Truth z (n (Answer.Done (Ok tt))) t) (sym h) (subst (λ z. Truth p z t) (sym g) (f x))

short_noted : (c : Call) (b : Book) (o : Option Note) (q : ℕ) → (noted c (refusal c ShortBuffer) b ≡ b) × (renoted c (refusal c ShortBuffer) None q b o ≡ o)
short_noted (Connect how) b o q = (refl, refl)
short_noted Cut b o q = (refl, refl)
short_noted (Publish m) b o q = (refl, refl)
short_noted Finish b o q = (refl, refl)
short_noted Roll b o q = (refl, refl)
short_noted (Tell m) b o q = (refl, refl)
short_noted (Say m) b o q = (refl, refl)
short_noted Leave b o q = (refl, refl)
short_noted HubReceive b o q = (refl, refl)
short_noted SeatReceive b o q = (refl, refl)
short_noted HubSend b o q = (refl, refl)
short_noted SeatSend b o q = (refl, refl)
short_noted Tick b o q = (refl, refl)
short_noted Round b o q = (refl, refl)

pub step_tru : (o : Option Note) (b : Book) (s : Pair) (c : Call) (d : Effect) → Step s c d → Sound b s → Truth o b s → Truth (renoted c d.answer d.wrote s.seat.number b o) (noted c d.answer b) d.after
step_tru o b s _ _ (short_buffer c e) i tr = let n = short_noted c b o s.seat.number in subst (λ z. Truth z (noted c (refusal c ShortBuffer) b) s) (sym n.1) (subst (λ z. Truth o z s) (sym n.0) tr)
step_tru o b s _ _ (connects how e) i tr = tried_tru o None b b s _ _ _ (connect_tried how s) (λ f. connected_tru o b s how i tr) (λ a. b) (λ a. renoted (Connect how) a None s.seat.number b o) (λ x. (refl, refl)) refl refl tr
step_tru o b s _ _ cuts i tr = apart_tru o b s (cut s) refl refl refl refl tr
step_tru o b s _ _ (publishes m) i tr = tried_tru o o b (added b m) s _ _ _ (publish_tried m s) (λ f. published_tru o b s m tr) (λ a. noted (Publish m) a b) (λ a. o) (λ x. (refl, refl)) refl refl tr
step_tru o b s _ _ finishes i tr = tried_tru o o b b s _ _ _ (finish_tried s) (λ f. tr) (λ a. b) (λ a. o) (λ x. (refl, refl)) refl refl tr
step_tru o b s _ _ rolls i tr = tried_tru o o b (turned b) s _ _ _ (roll_tried s) (λ f. rolled_tru o b s f.0 tr) (λ a. noted Roll a b) (λ a. o) (λ x. (refl, refl)) refl refl tr
step_tru o b s _ _ (tells m e) i tr = tried_tru o o b b s _ _ _ (tell_tried m s) (λ f. told_tru o b s m f.1 (unsequenced_valid m f.0) tr) (λ a. b) (λ a. o) (λ x. (refl, refl)) refl refl tr
step_tru o b s _ _ (says m e) i tr = tried_tru o o b b s _ _ _ (say_tried m s) (λ f. live_writes o b s (unsequenced m) (live_is s.seat.phase f.1) tr) (λ a. b) (λ a. o) (λ x. (refl, refl)) refl refl tr
step_tru o b s _ _ (leaves e) i tr = tried_tru o o b b s _ _ _ (leave_tried s) (λ f. apart_tru o b s (seat_to Apart (seat_writes (logout_request X.Done []) s)) refl refl refl refl tr) (λ a. b) (λ a. o) (λ x. (refl, refl)) refl refl tr
step_tru o b s _ _ (hub_receives p e r) i tr = hub_receives_tru o b s p r i tr
step_tru o b s _ _ (seat_receives p e r) i tr = seat_receives_tru o b s p r i tr
step_tru o b s _ _ (hub_sends_one e) i tr = hub_sent_tru o b s (hub_sends s) (hub_sent_lem s) i tr
step_tru o b s _ _ (seat_sends_one e) i tr = seat_sent_tru o b s (seat_sends s) (seat_sent s) tr
step_tru o b s _ _ (ticks e) i tr = seat_timed_tru o b (hub_timed s.hub.phase (counted s)) (tick s) (seat_timed_lem (hub_timed s.hub.phase (counted s))) (hub_timed_tru o b (counted s) (hub_timed s.hub.phase (counted s)) (hub_timed_lem s.hub.phase (counted s)) tr)
step_tru o b s _ _ (rounds p w t e r) i tr = rounds_tru o b s p w t r i tr

pub run_tru : {v w : World} → Run Step v w → Sound v.book v.pair → Truth v.note v.book v.pair → Truth w.note w.book w.pair
run_tru begins i tr = tr
run_tru (goes_on {w = m} r c d h) i tr = step_tru m.note m.book m.pair c d h (run_keeps r i).0 (run_tru r i tr)
run_tru (lends_others r buffers) i tr = run_tru r i tr

pub set_up_tru : (s : Pair) → SetUp s → Truth None (opened s.running.log) s
set_up_tru s u = record { notes = λ k e. (cc); truth = λ e. (cc (e, u.unreported)); user = u.user; computer = u.computer; protocol = u.protocol; few = u.seat_log_sound.placed; places = u.seat_log_sound.places_within; way = gone u.apart }

pub history_tru : (o : Pair) (w : World) → History Step o w → Truth w.note w.book w.pair
history_tru o w (u, r) = run_tru r (set_up_sound o u) (set_up_tru o u)

pub in_step_is_true : InStepIsTrue Step
in_step_is_true o w h = (history_tru o w h).truth
