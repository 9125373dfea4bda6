-- What every call keeps, for the third promise: reading the packets on their way from the seat's count leads at least
-- as far as the hub has sent, and whoever tells the seat that it is in step tells the truth.
use Rattle.std.proofs.Common.{◌≡◌, ℕ, ◌+◌, ◌-◌, ◌<◌, ◌≤◌, Bool, true, false, ◌⊎◌, List, [], ◌∷◌, ◌++◌, length, Some, None, Option, sym, refl, ap, ◌∙◌, subst, inl, inr, ⊎_elim, arith}
use Rattle.std.specs.List.{flat_map, AllByRecursion as All}
use Rattle.std.proofs.lemmas.List.{append-nil}
use Rattle.std.proofs.ByRecursion.{All-push}
use Rattle.std.proofs.lemmas.Bool.{cond_both, eq-eqb, ne_eqb, cond-true, cond-false}
use Rattle.wire.specs.declared.statuses.Status.TheVariants.{Accepted}
use Rattle.packet.specs.Values.{Value, Valid, login_request, login_response, sequenced, unsequenced, synchronization_complete, retransmission_request, logout_request, good_bye, end_of_session, hub_heartbeat, seat_heartbeat, test, encode}
use Rattle.message_log.specs.Meaning.{Meaning, count, size_limit}
use Rattle.account.specs.Logins.{spoken_version}
use Rattle.rules.specs.declared.phases.HubPhase.{HubPhase}
use Rattle.rules.specs.declared.phases.HubPhase.TheVariants.{Shut, Waiting, Answering, Rejecting, Serving, Filling}
use Rattle.rules.specs.declared.phases.SeatPhase.{SeatPhase}
use Rattle.rules.specs.declared.phases.SeatPhase.TheVariants.{Apart, Asking, Live}
use Rattle.rules.specs.State.{Pair}
use Rattle.rules.specs.Hub.{first_number, owes}
use Rattle.rules.specs.Seat.{in_session, next_number}
use Rattle.promises.specs.Book.{Book}
use Rattle.promises.specs.Runs.{IsPrefix, Note, as_of, accepts, tells_all, or_else, written}
use Rattle.promises.specs.Promises.{Holds}
use Rattle.promises.proofs.Fronts.{IsPrefix-refl, IsPrefix-length}
use Rattle.promises.proofs.Frames.{Short, short_push, stream_push}
use Rattle.promises.proofs.Packets.{sesm}

-- what the promise hangs on
pub record View : Type 0 where
  pub hub : HubPhase
  pub hub_frame_lem : List ℕ
  pub up : List ℕ
  pub user : List ℕ
  pub computer : List ℕ
  pub protocol : List ℕ
  pub seat : SeatPhase
  pub asked : ℕ
  pub number : ℕ
  pub fetch : Option ℕ
  pub in_step : Bool
  pub frame : List ℕ
  pub kept : Meaning
  pub held : Meaning
  pub down : List ℕ

abbrev pub view : Pair → View
view s = record { hub = s.hub.phase; hub_frame_lem = s.hub.frame; up = s.up.waiting; user = s.account.user; computer = s.account.computer; protocol = s.account.protocol; seat = s.seat.phase; asked = s.seat.session; number = s.seat.number; fetch = s.seat.fetch; in_step = s.seat.in_step; frame = s.seat.frame; kept = s.running.log; held = s.held; down = s.down.waiting }

abbrev pub hubbed : View → HubPhase → List ℕ → List ℕ → List ℕ → View
hubbed v h f u d = record { hub = h; hub_frame_lem = f; up = u; user = v.user; computer = v.computer; protocol = v.protocol; seat = v.seat; asked = v.asked; number = v.number; fetch = v.fetch; in_step = v.in_step; frame = v.frame; kept = v.kept; held = v.held; down = d }

abbrev pub its_login : View → Value
its_login v = login_request spoken_version v.user v.computer v.protocol v.asked v.number

-- the note is set, and a log of c messages has all that it holds
abbrev pub Reached : Option Note → ℕ → Type 0
Reached o c = (k : Note) × (o ≡ Some k) × (length k.messages ≤ c)

-- reading these packets from the count c, under the session x, for a seat that asked q, ends at j at least; whoever
-- tells the seat that it is in step tells the truth
abbrev pub Leads : Option Note → ℕ → ℕ → ℕ → List Value → ℕ → Type 0
Leads o x q c [] j = j ≤ c
Leads o x q c (login_request v u w p s n ∷ ps) j = Leads o x q c ps j
Leads o x q c (login_response t s top ∷ ps) j = (accepts t ≡ true → s ≡ x) × (accepts t ≡ true → top + 1 ≡ q → Reached o c) × Leads o x q c ps j
Leads o x q c (sequenced n m ∷ ps) j = (n ≤ c + 1) × (n ≡ c + 1 → Leads o x q (c + 1) ps j) × (n ≤ c → Leads o x q c ps j)
Leads o x q c (unsequenced m ∷ ps) j = Leads o x q c ps j
Leads o x q c (synchronization_complete ∷ ps) j = Reached o c × Leads o x q c ps j
Leads o x q c (retransmission_request a e ∷ ps) j = Leads o x q c ps j
Leads o x q c (logout_request r t ∷ ps) j = Leads o x q c ps j
Leads o x q c (good_bye r t ∷ ps) j = Leads o x q c ps j
Leads o x q c (end_of_session ∷ ps) j = Leads o x q c ps j
Leads o x q c (hub_heartbeat ∷ ps) j = Leads o x q c ps j
Leads o x q c (seat_heartbeat ∷ ps) j = Leads o x q c ps j
Leads o x q c (test t ∷ ps) j = Leads o x q c ps j

-- other packets behind, also under a note that was set meanwhile; with none behind, a nearer end
pub leads_on : (o p : Option Note) (x q j i : ℕ) (vs : List Value) → ((c : ℕ) → Reached o c → Reached p c) → ((c : ℕ) → j ≤ c → Leads p x q c vs i) → (c : ℕ) (ps : List Value) → Leads o x q c ps j → Leads p x q c (ps ++ vs) i
leads_on o p x q j i vs r k c [] h = k c h
leads_on o p x q j i vs r k c (login_request a u w b s n ∷ ps) h = leads_on o p x q j i vs r k c ps h
leads_on o p x q j i vs r k c (login_response t s top ∷ ps) h = (h.0, λ a e. r c (h.1 a e), leads_on o p x q j i vs r k c ps h.2)
leads_on o p x q j i vs r k c (sequenced n m ∷ ps) h = (h.0, λ e. leads_on o p x q j i vs r k (c + 1) ps (h.1 e), λ e. leads_on o p x q j i vs r k c ps (h.2 e))
leads_on o p x q j i vs r k c (unsequenced m ∷ ps) h = leads_on o p x q j i vs r k c ps h
leads_on o p x q j i vs r k c (synchronization_complete ∷ ps) h = (r c h.0, leads_on o p x q j i vs r k c ps h.1)
leads_on o p x q j i vs r k c (retransmission_request a e ∷ ps) h = leads_on o p x q j i vs r k c ps h
leads_on o p x q j i vs r k c (logout_request a t ∷ ps) h = leads_on o p x q j i vs r k c ps h
leads_on o p x q j i vs r k c (good_bye a t ∷ ps) h = leads_on o p x q j i vs r k c ps h
leads_on o p x q j i vs r k c (end_of_session ∷ ps) h = leads_on o p x q j i vs r k c ps h
leads_on o p x q j i vs r k c (hub_heartbeat ∷ ps) h = leads_on o p x q j i vs r k c ps h
leads_on o p x q j i vs r k c (seat_heartbeat ∷ ps) h = leads_on o p x q j i vs r k c ps h
leads_on o p x q j i vs r k c (test t ∷ ps) h = leads_on o p x q j i vs r k c ps h

leads_less : (o : Option Note) (x q j i : ℕ) → i ≤ j → (c : ℕ) (ps : List Value) → Leads o x q c ps j → Leads o x q c ps i
leads_less o x q j i l c ps h = subst (λ z. Leads o x q c z i) (append-nil ps) (leads_on o o x q j i [] (λ d r. r) (λ d m. omega arith) c ps h)

-- how far the hub has sent
abbrev pub goal : HubPhase → ℕ
goal Shut = 0
goal Waiting = 0
goal (Answering q) = 0
goal (Rejecting x) = 0
goal (Serving q n d) = n - 1
goal (Filling n l) = 0

-- where a connection that is no fetch stands
abbrev pub Stage : View → Option Note → List Value → ℕ → HubPhase → Type 0
Stage v o ps x Shut = Unit {0}
Stage v o ps x Waiting = (ps ≡ []) × (o ≡ None) × (v.seat ≡ Asking) × (v.hub_frame_lem ++ v.up ≡ flat_map encode (its_login v ∷ [])) × Short sesm v.hub_frame_lem (its_login v ∷ [])
Stage v o ps x (Answering q) = (ps ≡ []) × (o ≡ None) × (v.seat ≡ Asking) × (q ≡ v.number) × ((v.asked ≡ 0) ⊎ (v.asked ≡ v.kept.session))
Stage v o ps x (Rejecting r) = ps ≡ []
Stage v o ps x (Serving q n d) = (0 < q) × (0 < n) × (v.kept.session ≡ x)
Stage v o ps x (Filling n l) = ⊥

abbrev pub Asked : View → Type 0
Asked v = ((v.asked ≡ 0) × (v.number ≡ 1)) ⊎ ((v.asked ≡ v.held.session) × (0 < v.asked) × (v.number ≡ next_number v.held))

pub record Joined (o : Option Note) (v : View) : Type 0 where
  -- the session of the connection
  pub session : ℕ
  pub packets : List Value
  pub stream : v.frame ++ v.down ≡ flat_map encode packets
  pub short : Short sesm v.frame packets
  pub valid : All Valid packets
  pub no_fetch : v.fetch ≡ None
  pub notes : (k : Note) → o ≡ Some k → k.session ≡ session
  pub asks : v.seat ≡ Asking → Asked v × (v.in_step ≡ false)
  pub live : v.seat ≡ Live → v.held.session ≡ session
  pub stage : Stage v o packets session v.hub
  pub leads : Leads o session v.number (count (in_session v.held session)) packets (goal v.hub)

pub data Way (o : Option Note) (v : View) : Type 0 where
  gone : v.seat ≡ Apart → Way o v
  fetches : (e : ℕ) → v.fetch ≡ Some e → v.number ≡ 0 → v.in_step ≡ false → Way o v
  joins : Joined o v → Way o v

pub record Tru (o : Option Note) (b : Book) (v : View) : Type 0 where
  pub notes : (k : Note) → o ≡ Some k → IsPrefix k.messages (b.lists k.session)
  pub truth : v.in_step ≡ true → Holds o v.held
  pub user : length v.user ≡ 5
  pub computer : length v.computer ≡ 8
  pub protocol : length v.protocol ≡ 8
  pub few : count v.held ≤ v.held.places
  pub places : v.held.places ≤ size_limit
  pub way : Way o v

abbrev pub Truth : Option Note → Book → Pair → Type 0
Truth o b s = Tru o b (view s)

-- the hub's side changes, and nothing is written
pub rehub : (o : Option Note) (b : Book) (v : View) (h : HubPhase) (f u : List ℕ) → ((y : Joined o v) → Stage (hubbed v h f u v.down) o y.packets y.session h × (goal h ≤ goal v.hub)) → Tru o b v → Tru o b (hubbed v h f u v.down)
rehub o b v h f u k i = record { notes = i.notes; truth = i.truth; user = i.user; computer = i.computer; protocol = i.protocol; few = i.few; places = i.places; way = go i.way }
  where
    go : Way o v → Way o (hubbed v h f u v.down)
    go (gone e) = gone e
    go (fetches e x y z) = fetches e x y z
    go (joins y) = joins (record { session = y.session; packets = y.packets; stream = y.stream; short = y.short; valid = y.valid; no_fetch = y.no_fetch; notes = y.notes; asks = y.asks; live = y.live; stage = (k y).0; leads = leads_less o y.session v.number (goal v.hub) (goal h) (k y).1 _ y.packets y.leads })

-- a note that is set stays
or_keeps : (o : Option Note) (m k : Note) → o ≡ Some k → or_else o m ≡ Some k
or_keeps None m k e = (cc)
or_keeps (Some j) m k e = e

or_new : (o : Option Note) (m k : Note) → or_else o m ≡ Some k → (o ≡ Some k) ⊎ (k ≡ m)
or_new None m k e = inr (cc)
or_new (Some j) m k e = inl e

written_keeps : (o : Option Note) (q : ℕ) (b : Book) (v : Value) (k : Note) → o ≡ Some k → written q b (Some v) o ≡ Some k
written_keeps o q b v k e = cond_both (tells_all q v) (or_else o (as_of b)) o (λ z. z ≡ Some k) (λ t. or_keeps o (as_of b) k e) (λ t. e)

written_new : (o : Option Note) (q : ℕ) (b : Book) (v : Value) (k : Note) → written q b (Some v) o ≡ Some k → (o ≡ Some k) ⊎ (k ≡ as_of b)
written_new o q b v k = cond_both (tells_all q v) (or_else o (as_of b)) o (λ z. z ≡ Some k → (o ≡ Some k) ⊎ (k ≡ as_of b)) (λ t e. or_new o (as_of b) k e) (λ t e. inl e)

-- the hub writes a packet
abbrev pub after : View → HubPhase → Value → View
after w h v = hubbed w h w.hub_frame_lem w.up (w.down ++ encode v)

pub tru_writes : (o : Option Note) (b : Book) (w : View) (h : HubPhase) (v : Value) → ((y : Joined o w) → Joined (written w.number b (Some v) o) (after w h v)) → Tru o b w → Tru (written w.number b (Some v) o) b (after w h v)
tru_writes o b w h v k i = record {
  notes = λ j e. ⊎_elim (λ z. i.notes j z) (λ z. subst (λ (x : Note). IsPrefix x.messages (b.lists x.session)) (sym z) (IsPrefix-refl (b.lists b.running))) (written_new o w.number b v j e);
  truth = λ e. let t = i.truth e in record { note = t.note; is = written_keeps o w.number b v t.note t.is; session = t.session; all = t.all };
  user = i.user;
  computer = i.computer;
  protocol = i.protocol;
  few = i.few;
  places = i.places;
  way = go i.way;
}
  where
    go : Way o w → Way (written w.number b (Some v) o) (after w h v)
    go (gone e) = gone e
    go (fetches e x y z) = fetches e x y z
    go (joins y) = joins (k y)

joined_push : (o p : Option Note) (w : View) (h : HubPhase) (v : Value) (y : Joined o w) → Valid v → ((k : Note) → p ≡ Some k → k.session ≡ y.session) → ((c : ℕ) → Reached o c → Reached p c) → Stage (after w h v) p (y.packets ++ (v ∷ [])) y.session h → ((c : ℕ) → goal w.hub ≤ c → Leads p y.session w.number c (v ∷ []) (goal h)) → Joined p (after w h v)
joined_push o p w h v y va ma re st la = record {
  session = y.session;
  packets = y.packets ++ (v ∷ []);
  stream = stream_push sesm w.frame w.down v y.packets y.stream;
  short = short_push sesm w.frame w.down v y.packets y.stream y.short;
  valid = All-push Valid y.packets v y.valid va;
  no_fetch = y.no_fetch;
  notes = ma;
  asks = y.asks;
  live = y.live;
  stage = st;
  leads = leads_on o p y.session w.number (goal w.hub) (goal h) (v ∷ []) re la _ y.packets y.leads;
}

-- a packet that sets no note
pub joined_plain : (o : Option Note) (w : View) (h : HubPhase) (v : Value) (y : Joined o w) → Valid v → Stage (after w h v) o (y.packets ++ (v ∷ [])) y.session h → ((c : ℕ) → goal w.hub ≤ c → Leads o y.session w.number c (v ∷ []) (goal h)) → Joined o (after w h v)
joined_plain o w h v y va st la = joined_push o o w h v y va y.notes (λ c r. r) st la

pub at_stage : (o : Option Note) (w : View) (h : HubPhase) (y : Joined o w) → w.hub ≡ h → Stage w o y.packets y.session h
at_stage o w h y e = subst (Stage w o y.packets y.session) e y.stage

-- the first number is one that the seat's log leads up to
pub asked_fits : (w : View) → Asked w → (w.asked ≡ 0) ⊎ (w.asked ≡ w.kept.session) → w.number ≤ count (in_session w.held w.kept.session) + 1
asked_fits w (inl (a, n)) s = omega arith
asked_fits w (inr (a, po, n)) (inl z) = absurd (omega arith)
asked_fits w (inr (a, po, n)) (inr z) =
    let e : in_session w.held w.kept.session ≡ w.held = cond-true _ _ _ (eq-eqb w.held.session w.kept.session (sym a ∙ z)) in
    let l = ap count e in
    omega arith

pub asked_some : (w : View) → Asked w → 0 < w.number
asked_some w (inl (a, n)) = omega arith
asked_some w (inr (a, po, n)) = omega arith

-- the hub answers: the session of the connection is settled
pub joined_answer : (o : Option Note) (b : Book) (w : View) (q : ℕ) (h : w.hub ≡ Answering q) → b.running ≡ w.kept.session → b.lists w.kept.session ≡ w.kept.messages → (v : Value) → v ≡ login_response Accepted w.kept.session (count w.kept) → Valid v → Joined o w → Joined (written w.number b (Some v) o) (after w (Serving q (first_number q (count w.kept)) (owes q (count w.kept))) v)
joined_answer o b w q ph ru ke v ev va y =
    let st = at_stage o w (Answering q) y ph in
    let x : ℕ = w.kept.session in
    let top : ℕ = count w.kept in
    let p : Option Note = written w.number b (Some v) o in
    let ask = (y.asks st.2).0 in
    let fi = asked_fits w ask st.4 in
    let so = asked_some w ask in
    let fq : first_number q top ≡ q = cond-false _ _ _ (ne_eqb q 0 (λ e. omega (arith, st.3))) in
    let lr : length (b.lists b.running) ≡ top = ap (λ z. length (b.lists z)) ru ∙ ap length ke in
    let told : top + 1 ≡ w.number → p ≡ Some (as_of b) = λ e. ap (λ u. written w.number b (Some u) o) ev ∙ cond-true _ _ _ (eq-eqb (top + 1) w.number e) ∙ ap (λ z. or_else z (as_of b)) st.1 in
    let le : Leads p x w.number (count (in_session w.held x)) (login_response Accepted x top ∷ []) (first_number q top - 1) = (λ z. refl, λ z e. (as_of b, told e, omega (arith, lr)), omega (arith, fq, st.3)) in
    record {
      session = x;
      packets = v ∷ [];
      stream = stream_push sesm w.frame w.down v [] (y.stream ∙ ap (flat_map encode) st.0);
      short = subst (λ ps. Short sesm w.frame (ps ++ (v ∷ []))) st.0 (short_push sesm w.frame w.down v y.packets y.stream y.short);
      valid = (va, tt);
      no_fetch = y.no_fetch;
      notes = λ k e. ⊎_elim (λ z. (cc (z, st.1))) (λ z. ap (λ (m : Note). m.session) z ∙ ru) (written_new o w.number b v k e);
      asks = y.asks;
      live = λ z. (cc (z, st.2));
      stage = (omega (arith, st.3), omega (arith, fq, st.3), refl);
      leads = subst (λ u. Leads p x w.number (count (in_session w.held x)) (u ∷ []) (first_number q top - 1)) (sym ev) le;
    }

-- the hub tells that all is sent
pub joined_complete : (o : Option Note) (b : Book) (w : View) (q n : ℕ) (h : w.hub ≡ Serving q n true) → count w.kept < n → b.running ≡ w.kept.session → b.lists w.kept.session ≡ w.kept.messages → ((k : Note) → o ≡ Some k → IsPrefix k.messages (b.lists k.session)) → Joined o w → Joined (written w.number b (Some synchronization_complete) o) (after w (Serving q n false) synchronization_complete)
joined_complete o b w q n ph lt ru ke nt y =
    let st = at_stage o w (Serving q n true) y ph in
    let p : Option Note = or_else o (as_of b) in
    let lr : length (b.lists b.running) ≡ count w.kept = ap (λ z. length (b.lists z)) ru ∙ ap length ke in
    let gs : goal w.hub ≡ n - 1 = ap goal ph in
    joined_push o p w (Serving q n false) synchronization_complete y (record { fields = tt; fits = refl })
    (λ k e. ⊎_elim (λ z. y.notes k z) (λ z. ap (λ (m : Note). m.session) z ∙ ru ∙ st.2) (or_new o (as_of b) k e))
    (λ c r. (r.0, or_keeps o (as_of b) r.0 r.1, r.2))
    (st.0, st.1, st.2)
    (λ c l. (have o (λ k e. IsPrefix-length k.messages (b.lists k.session) (nt k e)) (λ k e. ap (λ z. length (b.lists z)) (y.notes k e ∙ sym st.2) ∙ ap length ke) c (omega arith) lr, omega arith))
  where
    have : (o : Option Note) → ((k : Note) → o ≡ Some k → length k.messages ≤ length (b.lists k.session)) → ((k : Note) → o ≡ Some k → length (b.lists k.session) ≡ count w.kept) → (c : ℕ) → count w.kept ≤ c → length (b.lists b.running) ≡ count w.kept → Reached (or_else o (as_of b)) c
    have None f g c l r = (as_of b, refl, omega arith)
    have (Some k) f g c l r = (k, refl, omega (arith, f k refl, g k refl))
