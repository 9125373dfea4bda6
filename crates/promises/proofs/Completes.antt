-- Synchronization complete goes out once, and after every message.
use Rattle.std.proofs.Common.{◌≡◌, ◌+◌, ◌-◌, ◌<◌, ◌≤◌, Bool, true, false, cond, ltb, leb, eqb, ℕ, suc, List, [], ◌∷◌, Some, Option, refl, sym, ap, ◌∙◌, subst, ⊎_elim, arith}
use Rattle.std.specs.Prelude.{Contains, count_by}
use Rattle.std.proofs.lemmas.Bool.{cond_both, cases_lt, and_parts, and_from, le-leb, ltb-true, leb-true, eqb-true, eqb-false}
use Rattle.packet.specs.Values.{Value, sequenced, synchronization_complete, hub_heartbeat}
use Rattle.message_log.specs.Meaning.{Meaning, count, nth, added, begun}
use Rattle.message_log.specs.Calls.{has}
use Rattle.rules.specs.declared.phases.HubPhase.{HubPhase}
use Rattle.rules.specs.declared.phases.HubPhase.TheVariants.{Shut, Waiting, Answering, Rejecting, Serving, Filling}
use Rattle.rules.specs.declared.phases.How.{How}
use Rattle.rules.specs.State.{HubEnd, Running, Pair}
use Rattle.wire.specs.declared.faults.Fault.{Fault}
use Rattle.rules.specs.declared.answers.Answer.TheVariants as Answer
use Rattle.std.proofs.Math.ListN.{get_or-append}
use Rattle.std.proofs.lemmas.List.{length_push}
use Rattle.std.proofs.lemmas.List.Sums.{sum_by-cons}
use Rattle.rules.specs.Hub.{first_number, owes, Sending, hub_sends}
use Rattle.rules.specs.Calls.{Done, busy, connect}
use Rattle.rules.specs.Rounds.{SeatReceives, Drains, ends, more, Call, Connect, Effect, Step, short_buffer, connects, cuts, publishes, finishes, rolls, tells, says, leaves, hub_receives, seat_receives, hub_sends_one, seat_sends_one, ticks, rounds}
use Rattle.promises.specs.Book.{is_granted}
use Rattle.promises.specs.Runs.{World}
use Rattle.promises.specs.Completes.{Connection, starts, continues, is_complete, CompleteOnce, SentAll, CompleteAfterAll}
use Rattle.promises.proofs.Cases.{HubOwes, owes_answer, owes_rejection, owes_message, owes_complete, owes_end, owes_beat, owes_fill, Tried, refused, granted, connect_tried, HubSent, sent_refused, sent_none, sent_all_lem, sent_packet, hub_sent_lem}
use Rattle.promises.proofs.Moves.{step_at, heard_at, seat_receives_same, seat_sends_same}
use Rattle.promises.proofs.Tells.{past_all}

-- whether synchronization complete can still come
abbrev weight : HubPhase → ℕ
weight Waiting = 1
weight (Answering q) = 1
weight (Serving q n owed) = cond owed 1 0
weight phase = 0

weight_small : (h : HubPhase) → weight h ≤ 1
weight_small Shut = omega arith
weight_small Waiting = omega arith
weight_small (Answering q) = omega arith
weight_small (Rejecting t) = omega arith
weight_small (Serving q n true) = omega arith
weight_small (Serving q n false) = omega arith
weight_small (Filling n l) = omega arith

abbrev Once : List Value → HubPhase → Meaning → Type 0
Once vs h k = count_by is_complete vs + weight h ≤ 1

once_posts : (vs : List Value) (s : Pair) (v : Value) (t : Pair) → HubOwes s v t → Once vs s.hub.phase s.running.log → Once (v ∷ vs) t.hub.phase t.running.log
once_posts vs s _ _ (owes_answer q ph) i =
    let w : weight s.hub.phase ≡ 1 = ap weight ph in
    omega (arith, w, weight_small (Serving q (first_number q (count s.running.log)) (owes q (count s.running.log))))
once_posts vs s _ _ (owes_rejection t ph) i = omega arith
once_posts vs s _ _ (owes_message q n d ph rd) i = let w : weight s.hub.phase ≡ cond d 1 0 = ap weight ph in omega (arith, w)
once_posts vs s _ _ (owes_complete q n ph rd) i =
    let w : weight s.hub.phase ≡ 1 = ap weight ph in
    omega (arith, w, sum_by-cons (λ (v : Value). cond (is_complete v) 1 0) synchronization_complete vs)
once_posts vs s _ _ (owes_end q n ph) i = omega arith
once_posts vs s _ _ (owes_beat q n ph) i = i
once_posts vs s _ _ (owes_fill n l ph rd) i = omega arith

once_along : {v w : World} {vs : List Value} → Connection Step v w vs → Once vs w.pair.hub.phase w.pair.running.log
once_along {v} starts = omega (arith, weight_small v.pair.hub.phase)
once_along (continues {w = m} {vs = vs} r c d x n) =
    step_at Once (λ vs h k i. omega arith) (λ vs n k i. i) (λ vs t k i. omega arith) (λ vs q n a e d k i. omega arith) once_posts (λ vs h k m i. i) (λ vs h k x b i. i)
    vs m.pair c d x n (once_along r)

pub complete_once : CompleteOnce Step
complete_once v w vs r = let i = once_along r in omega (arith, i)

-- an element of a list is one of a longer list
later : (x y : Value) (xs : List Value) → Contains xs y → Contains (x ∷ xs) y
later x y xs (k, l, e) = (suc k, omega (arith, l), e)

-- a hub that serves has sent what a log holds, from the number asked for to the one before the next
abbrev Sent : List Value → HubPhase → Meaning → Type 0
Sent vs (Serving q n owed) k =
    (owed ≡ true → 0 < q) × (0 < n)
    × (0 < q → (j : ℕ) → q ≤ j → j < n → (has k j ≡ true) × Contains vs (sequenced j (nth k j)))
Sent vs phase k = Unit {0}

has_added : (k : Meaning) (m : List ℕ) (j : ℕ) → has k j ≡ true → has (added k m) j ≡ true
has_added k m j h =
    let p = and_parts (leb 1 j) (leb j (count k)) h in
    and_from _ _ p.0 (le-leb j (count (added k m)) (omega (arith, leb-true _ _ p.1, length_push k.messages m)))

nth_added : (k : Meaning) (m : List ℕ) (j : ℕ) → has k j ≡ true → nth (added k m) j ≡ nth k j
nth_added k m j h =
    let p = and_parts (leb 1 j) (leb j (count k)) h in
    get_or-append k.messages (m ∷ []) [] (j - 1) (omega (arith, leb-true _ _ p.0, leb-true _ _ p.1))

sent_adds : (vs : List Value) (h : HubPhase) (k : Meaning) (m : List ℕ) → Sent vs h k → Sent vs h (added k m)
sent_adds vs Shut k m i = tt
sent_adds vs Waiting k m i = tt
sent_adds vs (Answering q) k m i = tt
sent_adds vs (Rejecting t) k m i = tt
sent_adds vs (Serving q n d) k m i = (i.0, i.1, λ z j l u. let a = i.2 z j l u in (has_added k m j a.0, subst (λ x. Contains vs (sequenced j x)) (sym (nth_added k m j a.0)) a.1))
sent_adds vs (Filling n l) k m i = tt

sent_turns : (vs : List Value) (h : HubPhase) (k : Meaning) (x : ℕ) → busy h ≡ false → Sent vs h k → Sent vs h (begun k x)
sent_turns vs Shut k x b i = tt
sent_turns vs Waiting k x b i = tt
sent_turns vs (Answering q) k x b i = tt
sent_turns vs (Rejecting t) k x b i = tt
sent_turns vs (Serving q n d) k x b i = (cc)
sent_turns vs (Filling n l) k x b i = tt

-- a hub that serves still does
at_serving : (vs : List Value) (h : HubPhase) (k : Meaning) (q n : ℕ) (d : Bool) → h ≡ Serving q n d → Sent vs h k → Sent vs (Serving q n d) k
at_serving vs h k q n d e i = subst (λ x. Sent vs x k) e i

sent_more : (vs : List Value) (v : Value) (h : HubPhase) (k : Meaning) → Sent vs h k → Sent (v ∷ vs) h k
sent_more vs v Shut k i = tt
sent_more vs v Waiting k i = tt
sent_more vs v (Answering q) k i = tt
sent_more vs v (Rejecting t) k i = tt
sent_more vs v (Serving q n d) k i = (i.0, i.1, λ z j l u. let a = i.2 z j l u in (a.0, later v (sequenced j (nth k j)) vs a.1))
sent_more vs v (Filling n l) k i = tt

sent_posts : (vs : List Value) (s : Pair) (v : Value) (t : Pair) → HubOwes s v t → Sent vs s.hub.phase s.running.log → Sent (v ∷ vs) t.hub.phase t.running.log
sent_posts vs s _ _ (owes_answer q ph) i =
    let h : ℕ = count s.running.log in (
      λ e. ltb-true _ _ (and_parts (ltb 0 q) (leb q h) e).0,
      cond_both (eqb q 0) (h + 1) q (λ n. 0 < n) (λ z. omega arith) (λ z. let ne = eqb-false q 0 z in ⊎_elim (λ l. l) (λ l. absurd (ne (omega arith))) (cases_lt 0 q)),
      λ z j l u. absurd (cond_both (eqb q 0) (h + 1) q (λ n. j < n → ⊥) (λ e. let y = eqb-true q 0 e in λ w. omega arith) (λ e w. omega arith) u),
    )
sent_posts vs s _ _ (owes_rejection t ph) i = tt
sent_posts vs s _ _ (owes_message q n d ph rd) i =
    let a = at_serving vs s.hub.phase s.running.log q n d ph i in
    let m : Value = sequenced n (nth s.running.log n) in (
      a.0,
      omega arith,
      λ z j l u. ⊎_elim (λ (w : j < n). let b = a.2 z j l w in (b.0, later m (sequenced j (nth s.running.log j)) vs b.1)) (λ (w : n ≤ j). let e : n ≡ j = omega arith in
          subst (λ x. (has s.running.log x ≡ true) × Contains (m ∷ vs) (sequenced x (nth s.running.log x))) e (rd, (0, omega arith, refl))) (cases_lt j n),
    )
sent_posts vs s _ _ (owes_complete q n ph rd) i =
    let a = at_serving vs s.hub.phase s.running.log q n true ph i in
    (λ e. (cc), a.1, λ z j l u. let b = a.2 z j l u in (b.0, later synchronization_complete (sequenced j (nth s.running.log j)) vs b.1))
sent_posts vs s _ _ (owes_end q n ph) i = tt
sent_posts vs s _ _ (owes_beat q n ph) i = sent_more vs hub_heartbeat s.hub.phase s.running.log i
sent_posts vs s _ _ (owes_fill n l ph rd) i = tt

sent_along : {v w : World} {vs : List Value} → Connection Step v w vs → Sent [] v.pair.hub.phase v.pair.running.log → Sent vs w.pair.hub.phase w.pair.running.log
sent_along starts i = i
sent_along (continues {w = m} {vs = vs} r c d x n) i =
    step_at Sent (λ vs h k i. tt) (λ vs n k i. tt) (λ vs t k i. tt) (λ vs q n a e d k i. tt) sent_posts sent_adds sent_turns
    vs m.pair c d x n (sent_along r i)

-- the send that writes synchronization complete
completing : (vs : List Value) (s : Pair) (x : Sending) → HubSent s x → x.wrote ≡ Some synchronization_complete → Sent vs s.hub.phase s.running.log → SentAll vs x.after.hub.phase x.after.running.log
completing vs s _ (sent_refused r) e i = (cc)
completing vs s _ sent_none e i = (cc)
completing vs s _ sent_all_lem e i = (cc)
completing vs s _ (sent_packet _ _ (owes_answer q ph)) e i = (cc)
completing vs s _ (sent_packet _ _ (owes_rejection t ph)) e i = (cc)
completing vs s _ (sent_packet _ _ (owes_message q n d ph rd)) e i = (cc)
completing vs s _ (sent_packet _ _ (owes_complete q n ph rd)) e i =
    let k : Meaning = s.running.log in
    let a = at_serving vs s.hub.phase k q n true ph i in
    record {
      asked = q;
      next = n;
      serves = refl;
      all = λ j l u. (a.2 (a.0 refl) j l (omega (arith, past_all k n a.1 rd))).1;
    }
completing vs s _ (sent_packet _ _ (owes_end q n ph)) e i = (cc)
completing vs s _ (sent_packet _ _ (owes_beat q n ph)) e i = (cc)
completing vs s _ (sent_packet _ _ (owes_fill n l ph rd)) e i = (cc)

-- what the seat does after it changes neither phase nor log
seat_drains_same : {s : Pair} {n : ℕ} {f : Option Fault} {t : Pair} → Drains SeatReceives s n f t → (t.hub ≡ s.hub) × (t.running ≡ s.running)
seat_drains_same (ends s o f r g) = seat_receives_same s o r
seat_drains_same (more s o j n f t r g rest) =
    let a = seat_receives_same s o r in
    let b = seat_drains_same rest in
    (b.0 ∙ a.0, b.1 ∙ a.1)

completed : (vs : List Value) (s : Pair) (c : Call) (d : Effect) → Step s c d → d.wrote ≡ Some synchronization_complete → Sent vs s.hub.phase s.running.log → SentAll vs d.after.hub.phase d.after.running.log
completed vs s _ _ (hub_sends_one e) w i = completing vs s (hub_sends s) (hub_sent_lem s) w i
completed vs s _ _ (rounds report wrote t e r) w i =
    let h = heard_at Sent (λ vs h k i. tt) (λ vs n k i. tt) (λ vs t k i. tt) (λ vs q n a e d k i. tt) sent_posts sent_adds sent_turns vs s report wrote t r i in
    let a = completing vs r.heard (hub_sends r.heard) (hub_sent_lem r.heard) (sym r.hub_wrote ∙ w) h in
    let u = seat_drains_same r.seat_drains in
    let z = seat_sends_same r.taken in
    let hub = ap (λ x. x.hub) r.seat_sent ∙ z.0 ∙ u.0 in
    let running = ap (λ x. x.running) r.seat_sent ∙ z.1 ∙ u.1 in
    subst (λ (x : HubEnd). SentAll vs x.phase t.running.log) (sym hub) (subst (λ (x : Running). SentAll vs (hub_sends r.heard).after.hub.phase x.log) (sym running) a)
completed vs s _ _ (short_buffer c e) w i = (cc)
completed vs s _ _ (connects how e) w i = (cc)
completed vs s _ _ cuts w i = (cc)
completed vs s _ _ (publishes m) w i = (cc)
completed vs s _ _ finishes w i = (cc)
completed vs s _ _ rolls w i = (cc)
completed vs s _ _ (tells m e) w i = (cc)
completed vs s _ _ (says m e) w i = (cc)
completed vs s _ _ (leaves e) w i = (cc)
completed vs s _ _ (hub_receives o e r) w i = (cc)
completed vs s _ _ (seat_receives o e r) w i = (cc)
completed vs s _ _ (seat_sends_one e) w i = (cc)
completed vs s _ _ (ticks e) w i = (cc)

-- a connection begins with a hub that waits
begun_waiting : (s t : Pair) (Fact : Type 0) (r : Done) → t.hub.phase ≡ Waiting → Tried s t Fact r → is_granted (Answer.Done r.answer) ≡ true → r.after.hub.phase ≡ Waiting
begun_waiting s t Fact _ w (refused x) g = (cc)
begun_waiting s t Fact _ w (granted x) g = w

begun_sent : (s : Pair) (how : How) (d : Effect) → Step s (Connect how) d → is_granted d.answer ≡ true → Sent [] d.after.hub.phase d.after.running.log
begun_sent s _ _ (short_buffer c e) g = (cc)
begun_sent s _ _ (connects how e) g =
    subst (λ h. Sent [] h (connect how s).after.running.log) (sym (begun_waiting s _ _ _ refl (connect_tried how s) g)) tt

pub complete_after_all : CompleteAfterAll Step
complete_after_all v w vs how begun call d x g r y e = completed vs w.pair call d y e (sent_along r (begun_sent v.pair how begun x g))
