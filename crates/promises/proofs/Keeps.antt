-- What each call keeps of the invariant of the first promise, and so what each run does.
use Rattle.std.proofs.Common.{◌≡◌, ℕ, ◌+◌, ◌-◌, ◌<◌, ◌≤◌, min, true, false, eqb, leb, ◌⊎◌, List, [], ◌∷◌, ◌++◌, length, Some, Ok, Err, Option, sym, refl, ap, ◌∙◌, subst, inl, inr, ⊎_elim, arith}
use Rattle.std.specs.List.{slice_get, flat_map, AllByRecursion as All}
use Rattle.std.proofs.lemmas.Option.{slice_get-get_or}
use Rattle.std.proofs.lemmas.Bool.{cond_both, eqb-true, eqb-false, eq-eqb, ne_eqb, cond-true, cond-false, cases_Bool, cases_eq, cases_lt, and_parts, leb-true}
use Rattle.wire.specs.declared.faults.Fault.{Fault}
use Rattle.wire.specs.declared.refusals.Refusal.{Refusal}
use Rattle.wire.specs.declared.refusals.Refusal.TheVariants.{ShortBuffer}
use Rattle.wire.specs.declared.letters.Letter.{Letter}
use Rattle.wire.specs.declared.statuses.Status.{Status}
use Rattle.wire.specs.declared.statuses.Status.TheVariants.{Accepted, UnknownUser, SessionUnavailable, InvalidNumber, WrongVersion, WrongProtocol, AlreadyLoggedIn}
use Rattle.wire.specs.declared.goodbyes.GoodByeReason.{GoodByeReason}
use Rattle.wire.specs.declared.goodbyes.GoodByeReason.TheVariants as G
use Rattle.wire.specs.declared.logouts.LogoutReason.TheVariants as X
use Rattle.packet.specs.Values.{Value, Valid, login_response, sequenced, unsequenced, synchronization_complete, good_bye, end_of_session, hub_heartbeat, encode}
use Rattle.packet.specs.Decoding.{part, whole}
use Rattle.line.specs.Lines.{LineView, fits}
use Rattle.message_log.specs.Meaning.{Meaning, count, begun}
use Rattle.message_log.specs.Meaning as Log
use Rattle.message_log.specs.Calls.{has}
use Rattle.rules.specs.declared.phases.HubPhase.{HubPhase}
use Rattle.rules.specs.declared.phases.HubPhase.TheVariants.{Shut, Waiting, Answering, Rejecting, Serving, Filling}
use Rattle.rules.specs.declared.phases.SeatPhase.{SeatPhase}
use Rattle.rules.specs.declared.phases.SeatPhase.TheVariants.{Apart, Live}
use Rattle.rules.specs.declared.answers.Received.{Received}
use Rattle.rules.specs.declared.answers.Report.{Report}
use Rattle.rules.specs.State.{Running, HubEnd, Pair, Outcome}
use Rattle.rules.specs.Changes.{hub_leaves, hub_writes, hub_took, seat_took}
use Rattle.rules.specs.Frames.{lack, judged}
use Rattle.rules.specs.Hub.{hub_gone, first_number, owes, Sending, hub_sends}
use Rattle.rules.specs.Seat.{next_number, is_apart, seat_letters, seat_sends}
use Rattle.rules.specs.Calls.{Done, counted, hub_timed, tick, is_serving}
use Rattle.rules.specs.declared.answers.Answer.{Answer}
use Rattle.rules.specs.Rounds.{HubReceives, SeatReceives, Drains, ends, more, Rounds, Call, Connect, Cut, Publish, Finish, Roll, Tell, Say, Leave, HubReceive, SeatReceive, HubSend, SeatSend, Tick, Round, Effect, Step, short_buffer, connects, cuts, publishes, finishes, rolls, tells, says, leaves, hub_receives, seat_receives, hub_sends_one, seat_sends_one, ticks, rounds, refusal}
use Rattle.promises.specs.Book.{Message, Book, opened, added, turned, noted}
use Rattle.promises.specs.Runs.{IsPrefix, World, Run, begins, goes_on, lends_others, SetUp, History}
use Rattle.promises.specs.Promises.{NeverWrong, NeverShorter}
use Rattle.promises.proofs.Fronts.{IsPrefix-push, IsPrefix-next}
use Rattle.promises.proofs.Frames.{short_nil}
use Rattle.promises.proofs.Packets.{sesm}
use Rattle.packet.proofs.Valids.{sequenced_valid, unsequenced_valid, response_valid}
use Rattle.promises.proofs.Arrivals.{still_part, now_whole}
use Rattle.promises.proofs.Cases.{Tried, refused, granted, connect_tried, publish_tried, finish_tried, roll_tried, tell_tried, say_tried, leave_tried, Took, got_within, HubActed, hub_bad_lem, hub_admits_lem, hub_rejects, hub_refills, hub_leaves_lem, hub_stays, hub_acted, HubHeard, hub_refused, hub_none, hub_part, hub_fault, hub_whole, hub_heard_lem, Left, seat_gone_lem, SeatActed, seat_leaves, seat_accepts, seat_keeps_lem, seat_passes, seat_skips_lem, seat_completes, seat_told, seat_beaten, seat_tested, seat_acted, SeatHeard, seat_refused, seat_none, seat_part, seat_fault, seat_whole, seat_heard_lem, HubOwes, owes_answer, owes_rejection, owes_message, owes_complete, owes_end, owes_beat, owes_fill, HubSent, sent_refused, sent_none, sent_all_lem, sent_packet, hub_sent_lem, SeatSent, seat_sent_refused, seat_sent_none, seat_sent_request, seat_sent_beat, seat_sent, HubTimed, hub_lasts, hub_lost, hub_late, hub_timed_lem, SeatTimed, seat_lasts, seat_lost, seat_timed_lem}
use Rattle.promises.proofs.Sound.{bound, early, HonestResponse, Honest, Rejected, Flying, Flight, away, flies, Inv, Sound, Grows, grows_refl, grows_trans, refly, to_phase, to_shut, to_apart, to_waiting, writes, relog, rolls_on}
use Rattle.promises.proofs.Sound as inv

-- the invariant after a step, and what became of the seat's log
pub record Kept (c : Book) (s t : Pair) : Type 0 where
  pub sound : Sound c t
  pub grows : Grows s.held t.held

pub same_log : (c : Book) (s t : Pair) → t.held ≡ s.held → Sound c t → Kept c s t
same_log c s t e i = record { sound = i; grows = subst (Grows s.held) (sym e) (grows_refl s.held) }

pub kept_trans : (c : Book) (s m t : Pair) → Kept c s m → Kept c m t → Kept c s t
kept_trans c s m t p q = record { sound = q.sound; grows = grows_trans s.held m.held t.held p.grows q.grows }

-- the hub's parting packet, and Shut
pub gone_keeps : (b : Book) (s : Pair) (r : GoodByeReason) → Sound b s → Kept b s (hub_gone r s)
gone_keeps b s r i =
    cond_both (fits s.down (encode (good_bye r []))) (hub_writes (good_bye r []) s) s (λ u. Kept b s (hub_leaves Shut u))
    (λ t. same_log b s _ refl (writes b Shut _ _ _ _ _ (good_bye r []) refl (record { fields = tt; fits = refl }) (λ z. (cc)) (λ z ms x. tt) (to_shut b _ _ _ _ _ _ i)))
    (λ t. same_log b s _ refl (to_shut b _ _ _ _ _ _ i))

pub hub_acted_keep : (b : Book) (s : Pair) (h : HubPhase) (v : Value) (o : Outcome Received) → s.hub.phase ≡ h → HubActed s h v o → Sound b s → Kept b s o.after
hub_acted_keep b s _ _ _ ph (hub_bad_lem h v fault) i = gone_keeps b s G.BadPacket i
hub_acted_keep b s _ _ _ ph (hub_admits_lem v u c p x n j st) i = same_log b s _ refl (to_phase b _ _ _ _ _ _ (Answering n) tt (λ z. ap bound ph) (λ z. ap early ph) i)
hub_acted_keep b s _ _ _ ph (hub_rejects v u c p x n t ne st) i = same_log b s _ refl (to_phase b _ _ _ _ _ _ (Rejecting t) ne (λ z. ap bound ph) (λ z. ap early ph) i)
hub_acted_keep b s _ _ _ ph (hub_refills q n a e d z0) i = same_log b s _ refl (to_phase b _ _ _ _ _ _ (Filling a (min e (count s.running.log))) tt (λ z. ap bound ph) (λ z. (cc)) i)
hub_acted_keep b s _ _ _ ph (hub_leaves_lem h v l) i = same_log b s _ refl (to_shut b _ _ _ _ _ _ i)
hub_acted_keep b s _ _ _ ph (hub_stays h v r nl) i = same_log b s s refl i

pub hub_heard_keep : (b : Book) (s : Pair) (o : Outcome Received) → HubHeard s o → Sound b s → Kept b s o.after
hub_heard_keep b s _ (hub_refused l) i = same_log b s s refl i
hub_heard_keep b s _ (hub_none up l t) i = same_log b s _ refl i
hub_heard_keep b s _ (hub_part x xs up l t j) i = same_log b s _ refl i
hub_heard_keep b s _ (hub_fault x xs up fault l t j) i = let r = gone_keeps b (hub_took (x ∷ xs) [] up s) G.BadPacket i in record { sound = r.sound; grows = r.grows }
hub_heard_keep b s _ (hub_whole x xs up v l t j) i = let r = hub_acted_keep b (hub_took (x ∷ xs) [] up s) _ v _ refl (hub_acted (hub_took (x ∷ xs) [] up s) s.hub.phase v) i in record { sound = r.sound; grows = r.grows }

pub hub_receives_keep : (b : Book) (s : Pair) (o : Outcome Received) → HubReceives s o → Sound b s → Kept b s o.after
hub_receives_keep b s o r = hub_heard_keep b s o (hub_heard_lem s o r)

-- a rejection says nothing of the session
denied : (x : Status) → (x ≡ Accepted → ⊥) → (s y : ℕ) → HonestResponse x s y
denied Accepted ne s y = absurd (ne refl)
denied UnknownUser ne s y = tt
denied SessionUnavailable ne s y = tt
denied InvalidNumber ne s y = tt
denied WrongVersion ne s y = tt
denied WrongProtocol ne s y = tt
denied AlreadyLoggedIn ne s y = tt

-- message n, as the hub reads it
pub has_bounds : (k : Meaning) (n : ℕ) → has k n ≡ true → (1 ≤ n) × (n ≤ count k)
has_bounds k n h = let p = and_parts (leb 1 n) (leb n (count k)) h in (leb-true _ _ p.0, leb-true _ _ p.1)

pub read_message : (k : Meaning) (n : ℕ) → has k n ≡ true → slice_get k.messages (n - 1) ≡ Some (Log.nth k n)
read_message k n h = let q = has_bounds k n h in slice_get-get_or k.messages (n - 1) [] (omega (arith, q.0, q.1))

module _ (b : Book) (h : HubPhase) (p : SeatPhase) (f : List ℕ) (k l : Meaning) (w : List ℕ) (n : ℕ) (rd : has k n ≡ true) where
  pub read_valid : Inv b h p f k l w → Valid (sequenced n (Log.nth k n))
  read_valid i =
      let q = has_bounds k n rd in
      sequenced_valid n (Log.nth k n) (omega (arith, q.1, i.few, i.places)) (i.short (n - 1))

  read_honest : Inv b h p f k l w → Honest (b.lists k.session) k.session (sequenced n (Log.nth k n))
  read_honest i = ((has_bounds k n rd).0, rw i.kept (read_message k n rd))

pub rejecting_keeps : (b : Book) (s : Pair) (x : Status) → s.hub.phase ≡ Rejecting x → Sound b s → x ≡ Accepted → ⊥
rejecting_keeps b s x e i = (rw e at i.rejected)

-- what the hub owes, written
pub owed_keep : (b : Book) (s : Pair) (v : Value) (t : Pair) → HubOwes s v t → Sound b s → Kept b s (hub_writes v t)
owed_keep b s _ _ (owes_answer q ph) i =
    let k : Meaning = s.running.log in
    let h : HubPhase = Serving q (first_number q (count k)) (owes q (count k)) in
    let j = to_phase b _ _ _ _ _ _ h tt (λ z. ap bound ph) (λ z. (cc)) i in
    same_log b s _ refl (writes b h _ _ _ _ _ (login_response Accepted k.session (count k)) refl (response_valid Accepted k.session (count k) i.small (omega (arith, i.few, i.places))) (λ z. (refl, i.begun)) (λ z. (cc)) j)
owed_keep b s _ _ (owes_rejection x ph) i =
    same_log b s _ refl (writes b Shut _ _ _ _ _ (login_response x 0 0) refl (response_valid x 0 0 (omega arith) (omega arith)) (λ z. (cc)) (λ z ms y. denied x (rejecting_keeps b s x ph i) 0 y) (to_shut b _ _ _ _ _ _ i))
owed_keep b s _ _ (owes_message q n d ph rd) i =
    let j = to_phase b _ _ _ _ _ _ (Serving q (n + 1) d) tt (λ z. ap bound ph) (λ z. (cc)) i in
    same_log b s _ refl (writes b (Serving q (n + 1) d) _ _ _ _ _ (sequenced n (Log.nth s.running.log n)) refl (read_valid b _ _ _ _ _ _ n rd i) (λ z. read_honest b _ _ _ _ _ _ n rd i) (λ z. (cc)) j)
owed_keep b s _ _ (owes_complete q n ph rd) i =
    let j = to_phase b _ _ _ _ _ _ (Serving q n false) tt (λ z. ap bound ph) (λ z. (cc)) i in
    same_log b s _ refl (writes b (Serving q n false) _ _ _ _ _ synchronization_complete refl (record { fields = tt; fits = refl }) (λ z. tt) (λ z ms y. tt) j)
owed_keep b s _ _ (owes_end q n ph) i =
    same_log b s _ refl (writes b Shut _ _ _ _ _ end_of_session refl (record { fields = tt; fits = refl }) (λ z. tt) (λ z ms y. tt) (to_shut b _ _ _ _ _ _ i))
owed_keep b s _ _ (owes_beat q n ph) i =
    same_log b s _ refl (writes b _ _ _ _ _ _ hub_heartbeat (ap early ph) (record { fields = tt; fits = refl }) (λ z. tt) (λ z ms y. tt) i)
owed_keep b s _ _ (owes_fill n l ph rd) i =
    let j = to_phase b _ _ _ _ _ _ (Filling (n + 1) l) tt (λ z. ap bound ph) (λ z. (cc)) i in
    same_log b s _ refl (writes b (Filling (n + 1) l) _ _ _ _ _ (sequenced n (Log.nth s.running.log n)) refl (read_valid b _ _ _ _ _ _ n rd i) (λ z. read_honest b _ _ _ _ _ _ n rd i) (λ z. (cc)) j)

pub hub_sent_keep : (b : Book) (s : Pair) (x : Sending) → HubSent s x → Sound b s → Kept b s x.after
hub_sent_keep b s _ (sent_refused r) i = same_log b s s refl i
hub_sent_keep b s _ sent_none i = same_log b s s refl i
hub_sent_keep b s _ sent_all_lem i = same_log b s _ refl (to_shut b _ _ _ _ _ _ i)
hub_sent_keep b s _ (sent_packet v t d) i = owed_keep b s v t d i

-- the seat takes bytes
pub not_apart : (p : SeatPhase) → is_apart p ≡ false → p ≡ Apart → ⊥
not_apart p n e = let q : ◌≡◌ {A = ℕ} 0 1 = cc (ap is_apart e, n) in omega arith

flying : (b : Book) (h : HubPhase) (p : SeatPhase) (f : List ℕ) (k l : Meaning) (w : List ℕ) → is_apart p ≡ false → Inv b h p f k l w → Flying b.lists h p f k.session l.session w
flying b h p f k l w na i = go i.flight
  where
    go : Flight b.lists h p f k.session l.session w → Flying b.lists h p f k.session l.session w
    go (away e) = absurd (not_apart p na e)
    go (flies y) = y

-- a packet has come, and this is left on its way
pub record Taken (b : Book) (h : HubPhase) (p : SeatPhase) (f : List ℕ) (k l : Meaning) (w : List ℕ) (v : Value) : Type 0 where
  pub rest : Flying b.lists h p f k.session l.session w
  pub honest : Honest (b.lists rest.session) rest.session v
  pub sent : early h ≡ false

module _ (b : Book) (h : HubPhase) (p : SeatPhase) (f : List ℕ) (k l : Meaning) (d e : LineView) (x : ℕ) (xs : List ℕ) (ls : List Letter) (na : is_apart p ≡ false) (tk : Took d (lack f) (x ∷ xs) e) where
  hears_part : judged ls (f ++ (x ∷ xs)) ≡ Ok part → Inv b h p f k l d.waiting → Inv b h p (f ++ (x ∷ xs)) k l e.waiting
  hears_part ju i =
      let y = flying b h p f k l d.waiting na i in
      let st : f ++ ((x ∷ xs) ++ e.waiting) ≡ flat_map encode y.packets = ap (λ z. f ++ z) (sym tk.front) ∙ y.stream in
      let r = still_part ls f (x ∷ xs) e.waiting y.packets st y.short y.valid (omega arith) (got_within d (lack f) (x ∷ xs) e tk) ju in
      refly b h p f k l d.waiting h p (f ++ (x ∷ xs)) e.waiting i i.rejected (flies (record { session = y.session; packets = y.packets; stream = r.1; short = r.0; valid = y.valid; honest = y.honest; lower = y.lower; upper = y.upper; is_bound = y.is_bound; quiet = y.quiet; live = y.live }))

  hears_whole : (v : Value) → judged ls (f ++ (x ∷ xs)) ≡ Ok (whole v) → Inv b h p f k l d.waiting → Taken b h p [] k l e.waiting v
  hears_whole v ju i =
      let y = flying b h p f k l d.waiting na i in
      let st : f ++ ((x ∷ xs) ++ e.waiting) ≡ flat_map encode y.packets = ap (λ z. f ++ z) (sym tk.front) ∙ y.stream in
      let c = now_whole ls f (x ∷ xs) e.waiting y.packets st y.short y.valid (omega arith) (got_within d (lack f) (x ∷ xs) e tk) v ju in
      let va : All Valid (v ∷ c.rest) = subst (All Valid) c.is y.valid in
      let ho : All (Honest (b.lists y.session) y.session) (v ∷ c.rest) = subst (All (Honest (b.lists y.session) y.session)) c.is y.honest in
      let ea : early h ≡ true → ⊥ = λ z. let q : ◌≡◌ {A = ℕ} 0 1 = cc ((y.quiet z).0, c.is) in omega arith in
      record {
        rest = record { session = y.session; packets = c.rest; stream = c.waits; short = short_nil sesm c.rest; valid = va.1; honest = ho.1; lower = y.lower; upper = y.upper; is_bound = y.is_bound; quiet = λ z. absurd (ea z); live = y.live };
        honest = ho.0;
        sent = ⊎_elim (λ z. absurd (ea z)) (λ z. z) (cases_Bool (early h));
      }

  taken_inv : (v : Value) → Inv b h p f k l d.waiting → Taken b h p [] k l e.waiting v → Inv b h p [] k l e.waiting
  taken_inv v i y = refly b h p f k l d.waiting h p [] e.waiting i i.rejected (flies y.rest)

le_cases : (a b : ℕ) → a ≤ b → (a ≡ b) ⊎ (a < b)
le_cases a b l = ⊎_elim (λ e. inl e) (λ n. inr (⊎_elim (λ o. o) (λ o. absurd (n (omega arith))) (cases_lt a b))) (cases_eq a b)

next_begins : (b : Book) (l : Meaning) (x n : ℕ) (m : Message) → l.session ≡ x → n ≡ next_number l → slice_get (b.lists x) (n - 1) ≡ Some m → IsPrefix l.messages (b.lists l.session) → IsPrefix (l.messages ++ (m ∷ [])) (b.lists l.session)
next_begins b l x n m e nu rd pre =
    let at : n - 1 ≡ length l.messages = omega arith in
    let r0 : slice_get (b.lists l.session) (length l.messages) ≡ Some m = subst (λ j. slice_get (b.lists l.session) j ≡ Some m) at (subst (λ j. slice_get (b.lists j) (n - 1) ≡ Some m) (sym e) rd) in
    subst (λ z. IsPrefix (l.messages ++ (m ∷ [])) z) (sym pre.1) (IsPrefix-next l.messages pre.0 m (subst (λ z. slice_get z (length l.messages) ≡ Some m) pre.1 r0))

-- a seat that has left hears nothing more, whatever is on the line
gone_from : (b : Book) (s t : Pair) → (t.seat.phase ≡ Apart) × (t.held ≡ s.held) × (t.hub ≡ s.hub) × (t.running ≡ s.running) → Sound b s → Kept b s t
gone_from b s t g i =
    let j = to_apart b _ _ _ _ _ _ t.seat.frame t.down.waiting i in
    let a : Inv b t.hub.phase Apart t.seat.frame s.running.log s.held t.down.waiting = subst (λ (x : HubEnd). Inv b x.phase Apart t.seat.frame s.running.log s.held t.down.waiting) (sym g.2) j in
    let c : Inv b t.hub.phase Apart t.seat.frame t.running.log s.held t.down.waiting = subst (λ (x : Running). Inv b t.hub.phase Apart t.seat.frame x.log s.held t.down.waiting) (sym g.3) a in
    let d : Inv b t.hub.phase Apart t.seat.frame t.running.log t.held t.down.waiting = subst (λ (x : Meaning). Inv b t.hub.phase Apart t.seat.frame t.running.log x t.down.waiting) (sym g.1) c in
    same_log b s t g.1 (subst (λ x. Inv b t.hub.phase x t.seat.frame t.running.log t.held t.down.waiting) (sym g.0) d)

left_keeps : (b : Book) (s t : Pair) → Left s t → Sound b s → Kept b s t
left_keeps b s t g = gone_from b s t (g.phase, g.held, g.hub, g.running)

pub seat_acted_keep : (b : Book) (s : Pair) (p : SeatPhase) (v : Value) (o : Outcome Received) → s.seat.phase ≡ p → SeatActed s p v o → Sound b s → Taken b s.hub.phase s.seat.phase s.seat.frame s.running.log s.held s.down.waiting v → Kept b s o.after
seat_acted_keep b s _ _ _ ph (seat_leaves p v o g) i y = left_keeps b s o.after g i
seat_acted_keep b s _ _ _ ph (seat_accepts x top su) i y =
    let in_session_lem : (n : Meaning) → IsPrefix n.messages (b.lists n.session) → n.session ≡ x → Inv b s.hub.phase Live s.seat.frame s.running.log n s.down.waiting = λ n pre e. relog b _ _ _ _ _ _ n y.sent pre y.rest (e ∙ y.honest.0) i in
    let both = cond_both (eqb s.held.session x) s.held (begun s.held x) (λ n. Inv b s.hub.phase Live s.seat.frame s.running.log n s.down.waiting × Grows s.held n)
    (λ t. (in_session_lem s.held i.held (eqb-true _ _ t), grows_refl s.held))
    (λ t. (in_session_lem (begun s.held x) (b.lists x, refl) refl, inr (let ne = eqb-false s.held.session x t in ⊎_elim (λ e. absurd (ne e)) (λ o. o) (le_cases s.held.session x (omega (arith, y.rest.lower, y.honest.0)))))) in
    record { sound = both.0; grows = both.1 }
seat_acted_keep b s _ _ _ ph (seat_keeps_lem n m nu ok) i y =
    let e : s.held.session ≡ y.rest.session = y.rest.live ph in
    let pre = next_begins b s.held y.rest.session n m e nu y.honest.1 i.held in
    let j = relog b _ _ _ _ _ _ (Log.added s.held m) y.sent pre y.rest e i in
    record { sound = subst (λ p. Inv b s.hub.phase p s.seat.frame s.running.log (Log.added s.held m) s.down.waiting) (sym ph) j; grows = inl (refl, IsPrefix-push s.held.messages m) }
seat_acted_keep b s _ _ _ ph (seat_passes n m nu) i y = same_log b s s refl i
seat_acted_keep b s _ _ _ ph (seat_skips_lem n e m fe) i y = same_log b s s refl i
seat_acted_keep b s _ _ _ ph (seat_completes fe) i y = same_log b s _ refl (subst (λ p. Inv b s.hub.phase p s.seat.frame s.running.log s.held s.down.waiting) ph i)
seat_acted_keep b s _ _ _ ph (seat_told m) i y = same_log b s s refl i
seat_acted_keep b s _ _ _ ph seat_beaten i y = same_log b s s refl i
seat_acted_keep b s _ _ _ ph (seat_tested t) i y = same_log b s s refl i

same_start : (c : Book) (s m t : Pair) → m.held ≡ s.held → Kept c m t → Kept c s t
same_start c s m t e r = record { sound = r.sound; grows = subst (λ l. Grows l t.held) e r.grows }

pub seat_heard_keep : (b : Book) (s : Pair) (o : Outcome Received) → SeatHeard s o → Sound b s → Kept b s o.after
seat_heard_keep b s _ (seat_refused ph) i = same_log b s s refl i
seat_heard_keep b s _ (seat_none d na tk) i = same_log b s _ refl (subst (λ w. Inv b s.hub.phase s.seat.phase s.seat.frame s.running.log s.held w) tk.front i)
seat_heard_keep b s _ (seat_part x xs d na tk ju) i = same_log b s _ refl (hears_part b _ _ _ _ _ s.down d x xs (seat_letters s.seat.phase s.seat.fetch) na tk ju i)
seat_heard_keep b s _ (seat_fault x xs d fault na tk ju) i =
    let g = seat_gone_lem X.BadPacket (seat_took (x ∷ xs) [] d s) in gone_from b s _ (g.phase, g.held, g.hub, g.running) i
seat_heard_keep b s _ (seat_whole x xs d v na tk ju) i =
    let y = hears_whole b _ _ _ _ _ s.down d x xs (seat_letters s.seat.phase s.seat.fetch) na tk v ju i in
    let j = taken_inv b _ _ _ _ _ s.down d x xs (seat_letters s.seat.phase s.seat.fetch) na tk v i y in
    same_start b s (seat_took (x ∷ xs) [] d s) _ refl (seat_acted_keep b (seat_took (x ∷ xs) [] d s) _ v _ refl (seat_acted (seat_took (x ∷ xs) [] d s) s.seat.phase v) j y)

pub seat_receives_keep : (b : Book) (s : Pair) (o : Outcome Received) → SeatReceives s o → Sound b s → Kept b s o.after
seat_receives_keep b s o r = seat_heard_keep b s o (seat_heard_lem s o r)

pub seat_sent_keep : (b : Book) (s : Pair) (o : Outcome (Option Letter)) → SeatSent s o → Sound b s → Kept b s o.after
seat_sent_keep b s _ (seat_sent_refused r) i = same_log b s s refl i
seat_sent_keep b s _ seat_sent_none i = same_log b s s refl i
seat_sent_keep b s _ (seat_sent_request v ph) i = same_log b s _ refl i
seat_sent_keep b s _ (seat_sent_beat v ph) i = same_log b s _ refl i

-- what each receive keeps, the receives of a round keep
pub drains_keep : (b : Book) (R : Pair → Outcome Received → Type 0) → ((s : Pair) (o : Outcome Received) → R s o → Sound b s → Kept b s o.after) → {s : Pair} {n : ℕ} {x : Option Fault} {t : Pair} → Drains R s n x t → Sound b s → Kept b s t
drains_keep b R k (ends s o x r g) i = k s o r i
drains_keep b R k (more s o j n x t r g d) i = let a = k s o r i in kept_trans b s o.after t a (drains_keep b R k d a.sound)

pub rounds_keep : (b : Book) (s : Pair) (p : Report) (w : Option Value) (t : Pair) → Rounds s p w t → Sound b s → Kept b s t
rounds_keep b s p w t r i =
    let a = drains_keep b HubReceives (hub_receives_keep b) r.hub_drains i in
    let c = hub_sent_keep b r.heard (hub_sends r.heard) (hub_sent_lem r.heard) a.sound in
    let d = drains_keep b SeatReceives (seat_receives_keep b) r.seat_drains c.sound in
    let e = seat_sent_keep b r.taken (seat_sends r.taken) (seat_sent r.taken) d.sound in
    subst (Kept b s) (sym r.seat_sent) (kept_trans b s r.heard _ a (kept_trans b r.heard (hub_sends r.heard).after _ c (kept_trans b (hub_sends r.heard).after r.taken _ d e)))

hub_timed_keep : (b : Book) (s t : Pair) → HubTimed s t → Sound b s → Kept b s t
hub_timed_keep b s _ hub_lasts i = same_log b s s refl i
hub_timed_keep b s _ hub_lost i = same_log b s _ refl (to_shut b _ _ _ _ _ _ i)
hub_timed_keep b s _ hub_late i = gone_keeps b s G.LoginTimeout i

seat_timed_keep : (b : Book) (s t : Pair) → SeatTimed s t → Sound b s → Kept b s t
seat_timed_keep b s _ seat_lasts i = same_log b s s refl i
seat_timed_keep b s _ seat_lost i = same_log b s _ refl (to_apart b _ _ _ _ _ _ _ _ i)

ticks_keep : (b : Book) (s : Pair) → Sound b s → Kept b s (tick s)
ticks_keep b s i =
    let m : Pair = hub_timed s.hub.phase (counted s) in
    let p = hub_timed_keep b (counted s) m (hub_timed_lem s.hub.phase (counted s)) i in
    let q = seat_timed_keep b m (tick s) (seat_timed_lem m) p.sound in
    kept_trans b s m (tick s) (same_start b s (counted s) m refl p) q

-- a call that is refused keeps everything; the book stays too
tried_keep : (b c : Book) (s t : Pair) (Fact : Type 0) (o : Done) → Tried s t Fact o → (Fact → Kept c s t) → (n : Answer → Book) → ((r : Refusal) → n (Answer.Done (Err r)) ≡ b) → n (Answer.Done (Ok tt)) ≡ c → Sound b s → Kept (n (Answer.Done o.answer)) s o.after
tried_keep b c s t Fact _ (refused r) k n e f i = subst (λ x. Kept x s s) (sym (e r)) (same_log b s s refl i)
tried_keep b c s t Fact _ (granted x) k n e f i = subst (λ y. Kept y s t) (sym f) (k x)

serving_early : (h : HubPhase) → is_serving h ≡ true → early h ≡ false
serving_early Shut e = (cc)
serving_early Waiting e = (cc)
serving_early (Answering q) e = (cc)
serving_early (Rejecting x) e = (cc)
serving_early (Serving q n d) e = refl
serving_early (Filling n l) e = (cc)

-- a buffer that is too short: nothing happens
unnoted : (c : Call) (b : Book) → noted c (refusal c ShortBuffer) b ≡ b
unnoted (Connect how) b = refl
unnoted Cut b = refl
unnoted (Publish m) b = refl
unnoted Finish b = refl
unnoted Roll b = refl
unnoted (Tell m) b = refl
unnoted (Say m) b = refl
unnoted Leave b = refl
unnoted HubReceive b = refl
unnoted SeatReceive b = refl
unnoted HubSend b = refl
unnoted SeatSend b = refl
unnoted Tick b = refl
unnoted Round b = refl

pub step_keeps : (b : Book) (s : Pair) (c : Call) (d : Effect) → Step s c d → Sound b s → Kept (noted c d.answer b) s d.after
step_keeps b s _ _ (short_buffer c e) i = subst (λ x. Kept x s s) (sym (unnoted c b)) (same_log b s s refl i)
step_keeps b s _ _ (connects how e) i = tried_keep b b s _ _ _ (connect_tried how s) (λ f. same_log b s _ refl (to_waiting b _ _ _ _ _ _ i)) (λ a. b) (λ r. refl) refl i
step_keeps b s _ _ cuts i = same_log b s _ refl (to_apart b _ _ _ _ _ _ _ _ (to_shut b _ _ _ _ _ _ i))
step_keeps b s _ _ (publishes m) i = tried_keep b (added b m) s _ _ _ (publish_tried m s) (λ f. same_log (added b m) s _ refl (inv.publishes b _ _ _ _ _ _ m f i)) (λ a. noted (Publish m) a b) (λ r. refl) refl i
step_keeps b s _ _ finishes i = tried_keep b b s _ _ _ (finish_tried s) (λ f. same_log b s _ refl i) (λ a. b) (λ r. refl) refl i
step_keeps b s _ _ rolls i = tried_keep b (turned b) s _ _ _ (roll_tried s) (λ f. same_log (turned b) s _ refl (rolls_on b _ _ _ _ _ _ f.0 f.1 i)) (λ a. noted Roll a b) (λ r. refl) refl i
step_keeps b s _ _ (tells m e) i = tried_keep b b s _ _ _ (tell_tried m s) (λ f. same_log b s _ refl (writes b _ _ _ _ _ _ (unsequenced m) (serving_early s.hub.phase f.1) (unsequenced_valid m f.0) (λ z. tt) (λ z ms x. tt) i)) (λ a. b) (λ r. refl) refl i
step_keeps b s _ _ (says m e) i = tried_keep b b s _ _ _ (say_tried m s) (λ f. same_log b s _ refl i) (λ a. b) (λ r. refl) refl i
step_keeps b s _ _ (leaves e) i = tried_keep b b s _ _ _ (leave_tried s) (λ f. same_log b s _ refl (to_apart b _ _ _ _ _ _ _ _ i)) (λ a. b) (λ r. refl) refl i
step_keeps b s _ _ (hub_receives o e r) i = hub_receives_keep b s o r i
step_keeps b s _ _ (seat_receives o e r) i = seat_receives_keep b s o r i
step_keeps b s _ _ (hub_sends_one e) i = hub_sent_keep b s (hub_sends s) (hub_sent_lem s) i
step_keeps b s _ _ (seat_sends_one e) i = seat_sent_keep b s (seat_sends s) (seat_sent s) i
step_keeps b s _ _ (ticks e) i = ticks_keep b s i
step_keeps b s _ _ (rounds p w t e r) i = rounds_keep b s p w t r i

pub run_keeps : {v w : World} → Run Step v w → Sound v.book v.pair → Sound w.book w.pair × Grows v.pair.held w.pair.held
run_keeps {v} begins i = (i, grows_refl v.pair.held)
run_keeps {v} (goes_on {w = m} r c d h) i =
    let e = run_keeps r i in
    let k = step_keeps m.book m.pair c d h e.0 in
    (k.sound, grows_trans v.pair.held m.pair.held d.after.held e.1 k.grows)
run_keeps (lends_others r buffers) i = run_keeps r i

-- a pair that was set up
opened_none : (k : Meaning) (x : ℕ) → (x ≡ k.session → ⊥) → (opened k).lists x ≡ []
opened_none k x n = cond-false _ _ _ (ne_eqb x k.session n)

opened_at : (k : Meaning) → (opened k).lists k.session ≡ k.messages
opened_at k = cond-true _ _ _ (eq-eqb k.session k.session refl)

pub set_up_sound : (s : Pair) → SetUp s → Sound (opened s.running.log) s
set_up_sound s u =
    let k : Meaning = s.running.log in
    record {
      running = refl;
      kept = opened_at k;
      later = λ x g. opened_none k x (λ e. omega arith);
      none = opened_none k 0 (λ e. omega (arith, u.begun));
      begun = u.begun;
      small = omega (arith, u.hub_log_sound.byte);
      few = u.hub_log_sound.placed;
      places = u.hub_log_sound.places_within;
      short = u.hub_log_sound.short;
      held = ⊎_elim (λ z. subst (λ ms. IsPrefix ms ((opened k).lists s.held.session)) (sym z.1) ((opened k).lists s.held.session, refl))
          (λ z. subst (λ x. IsPrefix s.held.messages ((opened k).lists x)) (sym z.0) (subst (λ ms. IsPrefix s.held.messages ms) (sym (opened_at k)) z.1)) u.follows;
      older = ⊎_elim (λ z. omega (arith, z.0)) (λ z. omega (arith, z.0)) u.follows;
      rejected = subst Rejected (sym u.shut) tt;
      flight = away u.apart;
    }

pub history_sound : (o : Pair) (w : World) → History Step o w → Sound w.book w.pair
history_sound o w (u, r) = (run_keeps r (set_up_sound o u)).0

pub never_wrong : NeverWrong Step
never_wrong o w h = (history_sound o w h).held

pub never_shorter : NeverShorter Step
never_shorter o v w h r e =
    ⊎_elim (λ z. z.1) (λ z. absurd (omega (arith, z, e))) (run_keeps r (history_sound o v h)).1
