-- What rounds after a connect bring about: each brings one message further, and the seat's log is then the hub's.
use Rattle.std.proofs.Common.{◌≡◌, ℕ, ◌+◌, ◌-◌, ◌<◌, ◌≤◌, Bool, true, false, cond, eqb, ltb, ◌⊎◌, List, [], ◌∷◌, ◌++◌, length, get_or, drop, Some, None, Ok, Err, Option, sym, refl, ap, ◌∙◌, subst, inl, inr, ⊎_elim, arith, length-append}
use Rattle.std.specs.List.{slice_get, flat_map}
use Rattle.std.proofs.lemmas.List.{append-nil, length_push}
use Rattle.std.proofs.lemmas.List.Sums.{sum_by_push, sum_by-drop_more}
use Rattle.std.proofs.lemmas.Bool.{cond_both, eqb-true, eq-eqb, ne_eqb, cond-true, cond-false, cases_lt, lt-ltb, le-ltb, not_from_false, and_from, le-leb}
use Rattle.wire.specs.declared.faults.Fault.{Fault}
use Rattle.wire.specs.declared.refusals.Refusal.TheVariants.{WrongPhase}
use Rattle.wire.specs.Limits.{message_limit, packet_limit}
use Rattle.wire.specs.declared.letters.Letter.TheVariants as L
use Rattle.wire.specs.Letters.{letter_byte}
use Rattle.wire.specs.declared.statuses.Status.TheVariants.{Accepted}
use Rattle.packet.specs.Values.{Value, Valid, login_request, login_response, sequenced, encode, letter}
use Rattle.line.specs.Lines.{LineView, handed, fits}
use Rattle.rules.specs.State as Line
use Rattle.message_log.specs.Meaning.{Meaning, count, taken, room, begun, size_limit}
use Rattle.message_log.specs.Meaning as Log
use Rattle.message_log.specs.Calls.{has, takes}
use Rattle.account.specs.Rows.{found}
use Rattle.account.specs.Logins.{status_for, spoken_version}
use Rattle.account.specs.Logins as account
use Rattle.rules.specs.declared.phases.HubPhase.{HubPhase}
use Rattle.rules.specs.declared.phases.HubPhase.TheVariants.{Waiting, Answering, Serving}
use Rattle.rules.specs.declared.phases.SeatPhase.{SeatPhase}
use Rattle.rules.specs.declared.phases.SeatPhase.TheVariants.{Apart, Asking, Live}
use Rattle.rules.specs.declared.phases.How.{How}
use Rattle.rules.specs.declared.answers.Received.{Received}
use Rattle.rules.specs.declared.answers.Report.{Report}
use Rattle.rules.specs.State.{SeatEnd, Pair, Outcome}
use Rattle.rules.specs.Changes.{hub_to, hub_writes, hub_took, seat_took}
use Rattle.rules.specs.Frames.{lack, among}
use Rattle.rules.specs.Hub.{listens, hub_letters, admitted, decided, logs_in, hub_acts, first_number, owes, Due, due, hub_due, Sending, hub_posts, is_shut, hub_sends, beat_after}
use Rattle.rules.specs.Seat.{is_apart, seat_letters, suits, in_session, next_number, seat_message, seat_keeps, seat_acts, live_due, seat_due, seat_posts, seat_sends}
use Rattle.rules.specs.Calls.{connected, asked}
use Rattle.rules.specs.declared.answers.Answer.TheVariants as Answer
use Rattle.rules.specs.Rounds.{HubReceives, SeatReceives, going, stop, continue, Drains, ends, more, Rounds, Round, Effect, Step, short_buffer, rounds}
use Rattle.promises.specs.Book.{Message, Book}
use Rattle.promises.specs.Runs.{IsPrefix, Note, GrantedRounds, no_round, round}
use Rattle.promises.specs.Promises.{Able, rounds_needed, Level}
use Rattle.promises.proofs.Fronts.{IsPrefix-length, IsPrefix-all, IsPrefix-next}
use Rattle.promises.proofs.Frames.{Short, part_lacks}
use Rattle.promises.proofs.Packets.{sesm, encode_fits}
use Rattle.packet.proofs.Valids.{sequenced_valid, response_valid}
use Rattle.promises.proofs.Arrivals.{still_part, now_whole, no_fault}
use Rattle.promises.proofs.Cases.{passed, asks, Took, got_within, HubHeard, hub_refused, hub_none, hub_part, hub_fault, hub_whole, hub_heard_lem, SeatHeard, seat_refused, seat_none, seat_part, seat_fault, seat_whole, seat_heard_lem}
use Rattle.promises.proofs.Sound.{Sound, to_waiting}
use Rattle.promises.proofs.Keeps.{read_message}
use Rattle.promises.proofs.Truth.{view, its_login, Asked, joins, Truth, asked_fits, asked_some}
use Rattle.promises.proofs.Tells.{login_valid, new_joined, new_tru, connect_asked, in_session_is}

-- what the receives of a seat leave
pub record Core : Type 0 where
  pub hub : HubPhase
  pub hub_frame_lem : List ℕ
  pub up : List ℕ
  pub seat : SeatPhase
  pub asked : ℕ
  pub number : ℕ
  pub fetch : Option ℕ
  pub unsent : ℕ
  pub kept : Meaning
  pub held : Meaning

abbrev core : Pair → Core
core s = record { hub = s.hub.phase; hub_frame_lem = s.hub.frame; up = s.up.waiting; seat = s.seat.phase; asked = s.seat.session; number = s.seat.number; fetch = s.seat.fetch; unsent = s.seat.unsent; kept = s.running.log; held = s.held }

abbrev core_of : HubPhase → SeatPhase → ℕ → ℕ → Meaning → Meaning → Core
core_of h p a n k l = record { hub = h; hub_frame_lem = []; up = []; seat = p; asked = a; number = n; fetch = None; unsent = 0; kept = k; held = l }

-- one packet is on its way to the seat; none is
pub record On (v : Value) (F : ℕ) (s : Pair) : Type 0 where
  pub stream : s.seat.frame ++ s.down.waiting ≡ flat_map encode (v ∷ [])
  pub short : Short sesm s.seat.frame (v ∷ [])
  pub limit : 0 < s.down.limit
  pub full : s.down.full ≡ F

pub record Off (F : ℕ) (s : Pair) : Type 0 where
  pub frame : s.seat.frame ≡ []
  pub dry : s.down.waiting ≡ []
  pub room : s.down.room ≡ F
  pub full : s.down.full ≡ F
  pub limit : 0 < s.down.limit

off_move : (F : ℕ) (u t : Pair) → t.down ≡ u.down → t.seat.frame ≡ u.seat.frame → Off F u → Off F t
off_move F u t d f o = record { frame = f ∙ o.frame; dry = ap (λ (z : LineView). z.waiting) d ∙ o.dry; room = ap (λ (z : LineView). z.room) d ∙ o.room; full = ap (λ (z : LineView). z.full) d ∙ o.full; limit = omega (arith, o.limit, ap (λ (z : LineView). z.limit) d) }

-- a line with bytes on it gives some
no_silence : (v : Value) (f : List ℕ) (d e : LineView) → Valid v → f ++ d.waiting ≡ flat_map encode (v ∷ []) → Short sesm f (v ∷ []) → 0 < d.limit → Took d (lack f) [] e → ⊥
no_silence v f d e va st sh li tk =
    let l = part_lacks sesm v f d.waiting [] va st sh in
    let c : 0 ≡ handed d (lack f) = tk.count in
    let w : 0 < length d.waiting = omega (arith, ap length st, length-append f d.waiting, length-append (encode v) []) in
    omega (arith, l.0)

-- the packet that came is the one that was on its way, and nothing is behind it
alone : (v u : Value) (qs : List Value) → v ∷ [] ≡ u ∷ qs → (u ≡ v) × (qs ≡ [])
alone v u qs e = (cc, cc)

-- what a receive does while the packet v is on its way
pub data Out (v : Value) (F : ℕ) (s : Pair) : Outcome Received → Type 0 where
  still : (o : Outcome Received) → going o.answer ≡ continue 0 → On v F o.after → core o.after ≡ core s → Out v F s o
  acts : (b : ℕ) (bs : List ℕ) (d : LineView) → Off F (seat_took (b ∷ bs) [] d s) → Out v F s (seat_acts s.seat.phase v (seat_took (b ∷ bs) [] d s))

module _ (v : Value) (F : ℕ) (va : Valid v) where
  one_receive : (s : Pair) (o : Outcome Received) → is_apart s.seat.phase ≡ false → among (seat_letters s.seat.phase s.seat.fetch) (letter_byte (letter v)) ≡ true → On v F s → SeatHeard s o → Out v F s o
  one_receive s _ na ta on (seat_refused ph) = (cc (na, ph))
  one_receive s _ na ta on (seat_none d n tk) = absurd (no_silence v s.seat.frame s.down d va on.stream on.short on.limit tk)
  one_receive s _ na ta on (seat_part x xs d n tk ju) =
      let r = still_part (seat_letters s.seat.phase s.seat.fetch) s.seat.frame (x ∷ xs) d.waiting (v ∷ []) (ap (λ z. s.seat.frame ++ z) (sym tk.front) ∙ on.stream) on.short (va, tt) (omega arith) (got_within s.down (lack s.seat.frame) (x ∷ xs) d tk) ju in
      still _ refl (record { stream = r.1; short = r.0; limit = omega (arith, on.limit, tk.limit); full = tk.full ∙ on.full }) refl
  one_receive s _ na ta on (seat_fault x xs d fault n tk ju) =
      absurd (no_fault (seat_letters s.seat.phase s.seat.fetch) s.seat.frame (x ∷ xs) d.waiting (v ∷ []) (ap (λ z. s.seat.frame ++ z) (sym tk.front) ∙ on.stream) on.short (va, tt) (omega arith) (got_within s.down (lack s.seat.frame) (x ∷ xs) d tk) v [] fault refl ta ju)
  one_receive s _ na ta on (seat_whole x xs d u n tk ju) =
      let c = now_whole (seat_letters s.seat.phase s.seat.fetch) s.seat.frame (x ∷ xs) d.waiting (v ∷ []) (ap (λ z. s.seat.frame ++ z) (sym tk.front) ∙ on.stream) on.short (va, tt) (omega arith) (got_within s.down (lack s.seat.frame) (x ∷ xs) d tk) u ju in
      let al = alone v u c.rest c.is in
      let dr : d.waiting ≡ [] = c.waits ∙ ap (flat_map encode) al.1 in
      subst (λ z. Out v F s (seat_acts s.seat.phase z (seat_took (x ∷ xs) [] d s))) (sym al.0)
      (acts x xs d (record { frame = refl; dry = dr; room = tk.empty dr ∙ tk.full ∙ on.full; full = tk.full ∙ on.full; limit = omega (arith, on.limit, tk.limit) }))

-- nothing waits, so nothing comes
pub record Dry (F : ℕ) (s : Pair) (o : Outcome Received) : Type 0 where
  pub ends : going o.answer ≡ stop None
  pub off : Off F o.after
  pub same : core o.after ≡ core s

dry_receive : (F : ℕ) (s : Pair) (o : Outcome Received) → is_apart s.seat.phase ≡ false → Off F s → SeatHeard s o → Dry F s o
dry_receive F s _ na of (seat_refused ph) = (cc (na, ph))
dry_receive F s _ na of (seat_none d n tk) =
    let e : d.waiting ≡ [] = sym tk.front ∙ of.dry in
    record { ends = refl; off = record { frame = of.frame; dry = e; room = tk.empty e ∙ tk.full ∙ of.full; full = tk.full ∙ of.full; limit = omega (arith, of.limit, tk.limit) }; same = refl }
dry_receive F s _ na of (seat_part x xs d n tk ju) = (cc (tk.front, of.dry))
dry_receive F s _ na of (seat_fault x xs d fault n tk ju) = (cc (tk.front, of.dry))
dry_receive F s _ na of (seat_whole x xs d u n tk ju) = (cc (tk.front, of.dry))

dry_drains : (F : ℕ) {s : Pair} {n : ℕ} {x : Option Fault} {t : Pair} → Drains SeatReceives s n x t → is_apart s.seat.phase ≡ false → Off F s → Off F t × (core t ≡ core s)
dry_drains F (ends s o x r g) na of = let d = dry_receive F s o na of (seat_heard_lem s o r) in (d.off, d.same)
dry_drains F (more s o k n x t r g e) na of = (cc (g, (dry_receive F s o na of (seat_heard_lem s o r)).ends))

-- the seat acts on the packet as a catch-up wants
pub record Acts (e : Core) (u : Pair) (o : Outcome Received) : Type 0 where
  pub goes : going o.answer ≡ continue 1
  pub is : core o.after ≡ e
  pub down : o.after.down ≡ u.down
  pub frame : o.after.seat.frame ≡ u.seat.frame

-- the packet comes, the seat acts on it, and nothing is left
module _ (v : Value) (F : ℕ) (va : Valid v) (c e : Core) (na : is_apart c.seat ≡ false) (nb : is_apart e.seat ≡ false) (ta : among (seat_letters c.seat c.fetch) (letter_byte (letter v)) ≡ true)
    (act : (u : Pair) → core u ≡ c → Acts e u (seat_acts u.seat.phase v u)) where
  one : (s : Pair) (o : Outcome Received) → core s ≡ c → On v F s → SeatReceives s o → Out v F s o
  one s o cs on r = one_receive v F va s o (ap (λ (k : Core). is_apart k.seat) cs ∙ na) (ap (λ (k : Core). among (seat_letters k.seat k.fetch) (letter_byte (letter v))) cs ∙ ta) on (seat_heard_lem s o r)

  drains_on : {s : Pair} {n : ℕ} {x : Option Fault} {t : Pair} → Drains SeatReceives s n x t → core s ≡ c → On v F s → Off F t × (core t ≡ e)
  drains_on (ends s o x r g) cs on = go o g (one s o cs on r)
    where
      go : (o : Outcome Received) → going o.answer ≡ stop x → Out v F s o → Off F o.after × (core o.after ≡ e)
      go _ g (still o p q z) = (cc (g, p))
      go _ g (acts b bs d of) = (cc (g, (act (seat_took (b ∷ bs) [] d s) cs).goes))
  drains_on (more s o k n x t r g d) cs on = go o d (λ z q. drains_on d z q) (one s o cs on r)
    where
      go : (o : Outcome Received) → Drains SeatReceives o.after n x t → (core o.after ≡ c → On v F o.after → Off F t × (core t ≡ e)) → Out v F s o → Off F t × (core t ≡ e)
      go _ d k (still o p q z) = k (z ∙ cs) q
      go _ d k (acts b bs l of) =
          let u : Pair = seat_took (b ∷ bs) [] l s in
          let a = act (seat_took (b ∷ bs) [] l s) cs in
          let w = dry_drains F d (ap (λ (k : Core). is_apart k.seat) a.is ∙ nb) (off_move F u _ a.down a.frame of) in
          (w.0, w.1 ∙ a.is)

-- what the seat does with the packets of a catch-up
abbrev relogged : Core → SeatPhase → Meaning → Core
relogged k p l = record { hub = k.hub; hub_frame_lem = k.hub_frame_lem; up = k.up; seat = p; asked = k.asked; number = k.number; fetch = k.fetch; unsent = k.unsent; kept = k.kept; held = l }

at_phase : (e : Core) (u : Pair) (v : Value) (p : SeatPhase) → u.seat.phase ≡ p → Acts e u (seat_acts p v u) → Acts e u (seat_acts u.seat.phase v u)
at_phase e u v p q a = subst (λ z. Acts e u (seat_acts z v u)) (sym q) a

act_response : (c : Core) (x top : ℕ) → c.seat ≡ Asking → suits c.asked x ≡ true → (u : Pair) → core u ≡ c → Acts (relogged c Live (in_session c.held x)) u (seat_acts u.seat.phase (login_response Accepted x top) u)
act_response c x top ak su u cu =
    at_phase _ u (login_response Accepted x top) Asking (ap (λ (k : Core). k.seat) cu ∙ ak)
    (subst (Acts (relogged c Live (in_session c.held x)) u) (sym (cond-true _ _ _ (ap (λ (k : Core). suits k.asked x) cu ∙ su)))
    (record { goes = refl; is = ap (λ (k : Core). relogged k Live (in_session k.held x)) cu; down = refl; frame = refl }))

act_append : (c : Core) (n : ℕ) (m : Message) → c.seat ≡ Live → n ≡ next_number c.held → takes c.held (length m) ≡ Ok tt → (u : Pair) → core u ≡ c → Acts (relogged c c.seat (Log.added c.held m)) u (seat_acts u.seat.phase (sequenced n m) u)
act_append c n m li nu ok u cu =
    let h : u.held ≡ c.held = ap (λ (k : Core). k.held) cu in
    let e1 : seat_message n m u ≡ seat_keeps (takes u.held (length m)) m u = cond-true _ _ _ (eq-eqb n (next_number u.held) (nu ∙ ap next_number (sym h))) in
    let e2 : seat_keeps (takes u.held (length m)) m u ≡ seat_keeps (Ok tt) m u = ap (λ r. seat_keeps r m u) (ap (λ l. takes l (length m)) h ∙ ok) in
    at_phase _ u (sequenced n m) Live (ap (λ (k : Core). k.seat) cu ∙ li)
    (subst (Acts (relogged c c.seat (Log.added c.held m)) u) (sym (e1 ∙ e2))
    (record { goes = refl; is = ap (λ (k : Core). relogged k k.seat (Log.added k.held m)) cu; down = refl; frame = refl }))

act_pass : (c : Core) (n : ℕ) (m : Message) → c.seat ≡ Live → n < next_number c.held → (u : Pair) → core u ≡ c → Acts c u (seat_acts u.seat.phase (sequenced n m) u)
act_pass c n m li nu u cu =
    let h : next_number u.held ≡ next_number c.held = ap (λ (k : Core). next_number k.held) cu in
    at_phase _ u (sequenced n m) Live (ap (λ (k : Core). k.seat) cu ∙ li)
    (subst (Acts c u) (sym (cond-false _ _ _ (ne_eqb n (next_number u.held) (λ z. omega arith)) ∙ cond-true _ _ _ (lt-ltb n (next_number u.held) (omega arith))))
    (record { goes = refl; is = cu; down = refl; frame = refl }))

-- the hub hears nothing
abbrev up_core : Core → List ℕ → Core
up_core k z = record { hub = k.hub; hub_frame_lem = k.hub_frame_lem; up = z; seat = k.seat; asked = k.asked; number = k.number; fetch = k.fetch; unsent = k.unsent; kept = k.kept; held = k.held }

pub record HubDry (s : Pair) (t : Pair) : Type 0 where
  pub same : core t ≡ core s
  pub down : t.down ≡ s.down
  pub seat : t.seat ≡ s.seat

hub_dry_receive : (s : Pair) (o : Outcome Received) → listens s.hub.phase ≡ true → s.up.waiting ≡ [] → HubHeard s o → (going o.answer ≡ stop None) × HubDry s o.after
hub_dry_receive s _ li dr (hub_refused l) = (cc (li, l))
hub_dry_receive s _ li dr (hub_none u l tk) = (refl, record { same = ap (up_core (core s)) (sym tk.front); down = refl; seat = refl })
hub_dry_receive s _ li dr (hub_part x xs u l tk j) = (cc (tk.front, dr))
hub_dry_receive s _ li dr (hub_fault x xs u fault l tk j) = (cc (tk.front, dr))
hub_dry_receive s _ li dr (hub_whole x xs u v l tk j) = (cc (tk.front, dr))

hub_dry_drains : {s : Pair} {n : ℕ} {x : Option Fault} {t : Pair} → Drains HubReceives s n x t → listens s.hub.phase ≡ true → s.up.waiting ≡ [] → HubDry s t
hub_dry_drains (ends s o x r g) li dr = (hub_dry_receive s o li dr (hub_heard_lem s o r)).1
hub_dry_drains (more s o k n x t r g e) li dr = (cc (g, (hub_dry_receive s o li dr (hub_heard_lem s o r)).0))

-- the seat has nothing to send
seat_rests : (s : Pair) → s.seat.fetch ≡ None → s.seat.unsent ≡ 0 → (seat_sends s).after ≡ s
seat_rests s fe un = go s.seat.phase
  where
    live : (seat_posts (live_due s.seat.fetch s).packet (live_due s.seat.fetch s).then s).after ≡ s
    live =
        let q : ltb beat_after s.seat.unsent ≡ false = le-ltb beat_after s.seat.unsent (omega arith) in
        ap (λ f. (seat_posts (live_due f s).packet (live_due f s).then s).after) fe
        ∙ ap (λ (d : Due). (seat_posts d.packet d.then s).after) (cond-false _ _ _ q)

    go : (p : SeatPhase) → (cond (is_apart p) (record { answer = Err WrongPhase; after = s }) (seat_posts (seat_due p s).packet (seat_due p s).then s)).after ≡ s
    go Apart = refl
    go Asking = refl
    go Live = live

-- what the hub sends where the packet v is due and the line is empty
sends_due : (s : Pair) (h : HubPhase) (v : Value) (t : Pair) → s.hub.phase ≡ h → is_shut h ≡ false → hub_due h s ≡ due v t → Valid v → packet_limit ≤ s.down.room → (hub_sends s).after ≡ hub_writes v t
sends_due s h v t ph ns du va ro =
    let f : fits s.down (encode v) ≡ true = le-leb _ _ (omega (arith, encode_fits v va)) in
    ap (λ (g : HubPhase). (cond (is_shut g) (record { answer = Err WrongPhase; wrote = None; after = s }) (hub_posts (hub_due g s).packet (hub_due g s).then s)).after) ph
    ∙ ap (λ (x : Sending). x.after) (cond-false _ _ _ ns)
    ∙ ap (λ (d : Due). (hub_posts d.packet d.then s).after) du
    ∙ ap (λ (x : Sending). x.after) (cond-true _ _ _ f)

-- the packet is on its way
written_on : (v : Value) (F : ℕ) (s : Pair) → Off F s → On v F (hub_writes v s)
written_on v F s o = record { stream = ap (λ z. z ++ (s.down.waiting ++ encode v)) o.frame ∙ ap (λ z. z ++ encode v) o.dry ∙ sym (append-nil (encode v)); short = omega (arith, sesm.some v, ap length o.frame); limit = o.limit; full = o.full }

abbrev phased : Core → HubPhase → Core
phased k h = record { hub = h; hub_frame_lem = k.hub_frame_lem; up = k.up; seat = k.seat; asked = k.asked; number = k.number; fetch = k.fetch; unsent = k.unsent; kept = k.kept; held = k.held }

-- what every round does after its hub's receives: the packet v is due, the hub goes on to h, the seat's core becomes e
module _ (F : ℕ) (v : Value) (h : HubPhase) (c e : Core) (va : Valid v) (wide : packet_limit ≤ F) (na : is_apart c.seat ≡ false) (nb : is_apart e.seat ≡ false) (fe : e.fetch ≡ None) (un : e.unsent ≡ 0) (ta : among (seat_letters c.seat c.fetch) (letter_byte (letter v)) ≡ true)
    (act : (u : Pair) → core u ≡ phased c h → Acts e u (seat_acts u.seat.phase v u)) where
  rest_of_round : (s : Pair) (p : Report) (w : Option Value) (t : Pair) (r : Rounds s p w t) → core r.heard ≡ c → Off F r.heard → is_shut r.heard.hub.phase ≡ false → hub_due r.heard.hub.phase r.heard ≡ due v (hub_to h r.heard) → Off F t × (core t ≡ e)
  rest_of_round s p w t r ch of ns du =
      let heard : Pair = r.heard in
      let se : (hub_sends heard).after ≡ hub_writes v (hub_to h heard) = sends_due heard heard.hub.phase v (hub_to h heard) refl ns du va (omega (arith, of.room)) in
      let on : On v F (hub_sends heard).after = subst (On v F) (sym se) (written_on v F (hub_to h heard) (off_move F heard (hub_to h heard) refl refl of)) in
      let cs : core (hub_sends heard).after ≡ phased c h = ap core se ∙ ap (λ (k : Core). phased k h) ch in
      let dr = drains_on v F va (phased c h) e na nb ta act r.seat_drains cs on in
      let re : t ≡ r.taken = r.seat_sent ∙ seat_rests r.taken (ap (λ (k : Core). k.fetch) dr.1 ∙ fe) (ap (λ (k : Core). k.unsent) dr.1 ∙ un) in
      (subst (Off F) (sym re) dr.0, ap core re ∙ dr.1)

-- the room for the next message
taken_push : (o : ℕ) (xs : List Message) (m : Message) → taken o (xs ++ (m ∷ [])) ≡ taken o xs + (length m + o)
taken_push o xs m = sum_by_push (λ (x : Message). length x + o) xs m

takes_next : (l : Meaning) (n : ℕ) → n ≤ message_limit → n + l.overhead ≤ room l → count l < l.places → 0 < l.session → takes l n ≡ Ok tt
takes_next l n a b c d =
    cond-false _ _ _ (le-ltb message_limit n a)
    ∙ cond-false _ _ _ (le-ltb (room l) (n + l.overhead) b)
    ∙ cond-false _ _ _ (ne_eqb (l.places - count l) 0 (λ z. omega arith))
    ∙ cond-false _ _ _ (ne_eqb l.session 0 (λ z. omega arith))

-- between rounds: the hub serves number n, the seat is live and holds the messages before it at least
pub record Ready (F aq nu : ℕ) (k : Meaning) (n : ℕ) (t : Pair) : Type 0 where
  pub q : ℕ
  pub d : Bool
  pub l : Meaning
  pub is : core t ≡ core_of (Serving q n d) Live aq nu k l
  pub off : Off F t
  pub session : l.session ≡ k.session
  pub front : IsPrefix l.messages k.messages
  pub near : n ≤ count l + 1
  pub some : 0 < n
  pub room : taken l.overhead (drop (count l) k.messages) ≤ room l
  pub places : count k ≤ l.places

module _ (F aq nu : ℕ) (k : Meaning) (wide : packet_limit ≤ F) (begun : 0 < k.session) (short : (i : ℕ) → length (get_or k.messages i []) ≤ message_limit) (few : count k ≤ size_limit) where
  ready_round : (n : ℕ) (s : Pair) (p : Report) (w : Option Value) (t : Pair) → n ≤ count k → Rounds s p w t → Ready F aq nu k n s → Ready F aq nu k (n + 1) t
  ready_round n s p w t le r rd =
      let hd = hub_dry_drains r.hub_drains (ap (λ (z : Core). listens z.hub) rd.is) (ap (λ (z : Core). z.up) rd.is) in
      let heard : Pair = r.heard in
      let c : Core = core_of (Serving rd.q n rd.d) Live aq nu k rd.l in
      let ch : core heard ≡ c = hd.same ∙ rd.is in
      let of : Off F heard = off_move F s heard hd.down (ap (λ (z : SeatEnd). z.frame) hd.seat) rd.off in
      let ph : heard.hub.phase ≡ Serving rd.q n rd.d = ap (λ (z : Core). z.hub) ch in
      let ke : heard.running.log ≡ k = ap (λ (z : Core). z.kept) ch in
      let m : Message = Log.nth k n in
      let hs : has k n ≡ true = and_from _ _ (le-leb 1 n rd.some) (le-leb n (count k) le) in
      let rm : slice_get k.messages (n - 1) ≡ Some m = read_message k n hs in
      let va : Valid (sequenced n m) = sequenced_valid n m (omega (arith, few)) (short (n - 1)) in
      let h : HubPhase = Serving rd.q (n + 1) rd.d in
      let du : hub_due heard.hub.phase heard ≡ due (sequenced n m) (hub_to h heard) =
      ap (λ g. hub_due g heard) ph
      ∙ cond-true _ _ _ (ap (λ l. has l n) ke ∙ hs)
      ∙ ap (λ (l : Meaning). due (sequenced n (Log.nth l n)) (hub_to h heard)) ke in
      let ns : is_shut heard.hub.phase ≡ false = ap is_shut ph in
      ⊎_elim
      (λ lt.
      let rest = rest_of_round F (sequenced n m) h c (core_of h Live aq nu k rd.l) va wide refl refl refl refl refl (act_pass (core_of h Live aq nu k rd.l) n m refl lt) s p w t r ch of ns du in
      record { q = rd.q; d = rd.d; l = rd.l; is = rest.1; off = rest.0; session = rd.session; front = rd.front; near = omega arith; some = omega arith; room = rd.room; places = rd.places })
      (λ ge.
      let i : ℕ = count rd.l in
      let nx : n ≡ next_number rd.l = omega (arith, rd.near) in
      let at : n - 1 ≡ i = omega arith in
      let r1 : slice_get k.messages i ≡ Some m = subst (λ z. slice_get k.messages z ≡ Some m) at rm in
      let pr : IsPrefix (rd.l.messages ++ (m ∷ [])) k.messages = subst (λ z. IsPrefix (rd.l.messages ++ (m ∷ [])) z) (sym rd.front.1) (IsPrefix-next rd.l.messages rd.front.0 m (subst (λ z. slice_get z i ≡ Some m) rd.front.1 r1)) in
      let tk : taken rd.l.overhead (drop i k.messages) ≡ (length m + rd.l.overhead) + taken rd.l.overhead (drop (i + 1) k.messages) =
      sum_by-drop_more (λ (x : Message). length x + rd.l.overhead) k.messages i [] (omega arith)
      ∙ ap (λ z. (length (get_or k.messages z []) + rd.l.overhead) + taken rd.l.overhead (drop (i + 1) k.messages)) (sym at) in
      let ok : takes rd.l (length m) ≡ Ok tt = takes_next rd.l (length m) (short (n - 1)) (omega (arith, rd.room)) (omega (arith, rd.places)) (omega (arith, rd.session)) in
      let a : Meaning = Log.added rd.l m in
      let ca : count a ≡ i + 1 = length_push rd.l.messages m in
      let ta : taken a.overhead (drop (count a) k.messages) ≡ taken rd.l.overhead (drop (i + 1) k.messages) = ap (λ z. taken rd.l.overhead (drop z k.messages)) ca in
      let rest = rest_of_round F (sequenced n m) h c (core_of h Live aq nu k a) va wide refl refl refl refl refl (act_append (core_of h Live aq nu k rd.l) n m refl nx ok) s p w t r ch of ns du in
      record { q = rd.q; d = rd.d; l = a; is = rest.1; off = rest.0; session = rd.session; front = pr; near = omega arith; some = omega arith; room = omega (arith, rd.room, taken_push rd.l.overhead rd.l.messages m); places = rd.places })
      (cases_lt n (next_number rd.l))

-- a granted round, as what it does
pub record WentRound (s : Pair) (d : Effect) : Type 0 where
  pub report : Report
  pub wrote : Option Value
  pub does : Rounds s report wrote d.after

granted_round : (s : Pair) (d : Effect) (p : Report) → Step s Round d → d.answer ≡ Answer.Round (Ok p) → WentRound s d
granted_round s _ p (short_buffer _ e) g = (cc)
granted_round s _ p (rounds q w t e r) g = record { report = q; wrote = w; does = r }

module _ (F aq nu : ℕ) (k : Meaning) (wide : packet_limit ≤ F) (begun : 0 < k.session) (short : (i : ℕ) → length (get_or k.messages i []) ≤ message_limit) (few : count k ≤ size_limit) where
  ready_rounds : (n : ℕ) {j : ℕ} {s t : Pair} → GrantedRounds Step j s t → n + j ≤ count k + 1 → Ready F aq nu k n s → Ready F aq nu k (n + j) t
  ready_rounds n (no_round s) le rd = subst (λ z. Ready F aq nu k z s) (omega arith) rd
  ready_rounds n (round j s t d p st g rs) le rd =
      let r = granted_round s d p st g in
      subst (λ z. Ready F aq nu k z t) (omega arith) (ready_rounds (n + 1) rs (omega arith) (ready_round F aq nu k wide begun short few n s r.report r.wrote d.after (omega arith) r.does rd))

-- the login is on its way to the hub; the hub has accepted it
pub record HubOn (v : Value) (o s : Pair) : Type 0 where
  pub phase : s.hub.phase ≡ Waiting
  pub stream : s.hub.frame ++ s.up.waiting ≡ flat_map encode (v ∷ [])
  pub short : Short sesm s.hub.frame (v ∷ [])
  pub limit : 0 < s.up.limit
  pub rows : s.rows ≡ o.rows
  pub running : s.running ≡ o.running
  pub held : s.held ≡ o.held
  pub seat : s.seat ≡ o.seat
  pub down : s.down ≡ o.down

pub record HubOff (nu : ℕ) (o s : Pair) : Type 0 where
  pub phase : s.hub.phase ≡ Answering nu
  pub frame : s.hub.frame ≡ []
  pub dry : s.up.waiting ≡ []
  pub running : s.running ≡ o.running
  pub held : s.held ≡ o.held
  pub seat : s.seat ≡ o.seat
  pub down : s.down ≡ o.down

module _ (o : Pair) (u c p : List ℕ) (aq nu : ℕ) (va : Valid (login_request spoken_version u c p aq nu)) (ok : status_for o.rows o.running.log.session (count o.running.log) (asks spoken_version u c p aq nu) ≡ Accepted) where
  abbrev its : Value
  its = login_request spoken_version u c p aq nu

  abbrev its_asked : account.Asked
  its_asked = asks spoken_version u c p aq nu

  admitted_off : (i : Option ℕ) (s : Pair) → s.hub.frame ≡ [] → s.up.waiting ≡ [] → s.running ≡ o.running → s.held ≡ o.held → s.seat ≡ o.seat → s.down ≡ o.down → HubOff nu o (admitted i nu s)
  admitted_off None s f d r h t l = record { phase = refl; frame = f; dry = d; running = r; held = h; seat = t; down = l }
  admitted_off (Some i) s f d r h t l = record { phase = refl; frame = f; dry = d; running = r; held = h; seat = t; down = l }

  hub_acts_login : (s : Pair) → s.rows ≡ o.rows → s.hub.frame ≡ [] → s.up.waiting ≡ [] → s.running ≡ o.running → s.held ≡ o.held → s.seat ≡ o.seat → s.down ≡ o.down → HubOff nu o (logs_in its_asked s)
  hub_acts_login s ro f d r h t l =
      let e : status_for s.rows s.running.log.session (count s.running.log) its_asked ≡ Accepted =
      ap (λ x. status_for x s.running.log.session (count s.running.log) its_asked) ro
      ∙ ap (λ x. status_for o.rows x.log.session (count x.log) its_asked) r
      ∙ ok in
      subst (λ x. HubOff nu o (decided x its_asked s)) (sym e) (admitted_off (found s.rows u c) s f d r h t l)

  -- a receive while the login is on its way
  hub_login : (s : Pair) (r : Outcome Received) → HubOn its o s → HubHeard s r → ((going r.answer ≡ continue 0) × HubOn its o r.after) ⊎ ((going r.answer ≡ continue 1) × HubOff nu o r.after)
  hub_login s _ on (hub_refused l) = (cc (ap listens on.phase, l))
  hub_login s _ on (hub_none d l tk) = absurd (no_silence its s.hub.frame s.up d va on.stream on.short on.limit tk)
  hub_login s _ on (hub_part x xs d l tk ju) =
      let r = still_part (hub_letters s.hub.phase) s.hub.frame (x ∷ xs) d.waiting (its ∷ []) (ap (λ z. s.hub.frame ++ z) (sym tk.front) ∙ on.stream) on.short (va, tt) (omega arith) (got_within s.up (lack s.hub.frame) (x ∷ xs) d tk) ju in
      inl (refl, record { phase = on.phase; stream = r.1; short = r.0; limit = omega (arith, on.limit, tk.limit); rows = on.rows; running = on.running; held = on.held; seat = on.seat; down = on.down })
  hub_login s _ on (hub_fault x xs d fault l tk ju) =
      absurd (no_fault (hub_letters s.hub.phase) s.hub.frame (x ∷ xs) d.waiting (its ∷ []) (ap (λ z. s.hub.frame ++ z) (sym tk.front) ∙ on.stream) on.short (va, tt) (omega arith) (got_within s.up (lack s.hub.frame) (x ∷ xs) d tk) its [] fault refl (ap (λ h. among (hub_letters h) (letter_byte L.LoginRequest)) on.phase) ju)
  hub_login s _ on (hub_whole x xs d v l tk ju) =
      let w = now_whole (hub_letters s.hub.phase) s.hub.frame (x ∷ xs) d.waiting (its ∷ []) (ap (λ z. s.hub.frame ++ z) (sym tk.front) ∙ on.stream) on.short (va, tt) (omega arith) (got_within s.up (lack s.hub.frame) (x ∷ xs) d tk) v ju in
      let al = alone its v w.rest w.is in
      let t : Pair = hub_took (x ∷ xs) [] d s in
      let off : HubOff nu o (logs_in its_asked t) = hub_acts_login t on.rows refl (w.waits ∙ ap (flat_map encode) al.1) on.running on.held on.seat on.down in
      let e : hub_acts s.hub.phase v t ≡ hub_acts Waiting its t = ap (λ h. hub_acts h v t) on.phase ∙ ap (λ z. hub_acts Waiting z t) al.0 in
      inr (ap (λ (z : Outcome Received). going z.answer) e, subst (λ (z : Outcome Received). HubOff nu o z.after) (sym e) off)

  deaf_drains : {s : Pair} {n : ℕ} {x : Option Fault} {t : Pair} → Drains HubReceives s n x t → listens s.hub.phase ≡ false → t ≡ s
  deaf_drains (ends s r x h g) li = go r (hub_heard_lem s r h)
    where
      go : (r : Outcome Received) → HubHeard s r → r.after ≡ s
      go _ (hub_refused l) = refl
      go _ (hub_none d l tk) = (cc (li, l))
      go _ (hub_part y ys d l tk ju) = (cc (li, l))
      go _ (hub_fault y ys d fault l tk ju) = (cc (li, l))
      go _ (hub_whole y ys d v l tk ju) = (cc (li, l))
  deaf_drains (more s r k n x t h g e) li = go r g (hub_heard_lem s r h)
    where
      go : (r : Outcome Received) → going r.answer ≡ continue k → HubHeard s r → t ≡ s
      go _ g (hub_refused l) = (cc)
      go _ g (hub_none d l tk) = (cc (li, l))
      go _ g (hub_part y ys d l tk ju) = (cc (li, l))
      go _ g (hub_fault y ys d fault l tk ju) = (cc (li, l))
      go _ g (hub_whole y ys d v l tk ju) = (cc (li, l))

  login_drains : {s : Pair} {n : ℕ} {x : Option Fault} {t : Pair} → Drains HubReceives s n x t → HubOn its o s → HubOff nu o t
  login_drains (ends s r x h g) on = ⊎_elim (λ z. (cc (z.0, g))) (λ z. (cc (z.0, g))) (hub_login s r on (hub_heard_lem s r h))
  login_drains (more s r k n x t h g e) on =
      ⊎_elim
      (λ z. login_drains e z.1)
      (λ z. subst (HubOff nu o) (sym (deaf_drains e (ap listens z.1.phase))) z.1)
      (hub_login s r on (hub_heard_lem s r h))

abbrev served : Meaning → ℕ → HubPhase
served k q = Serving q (first_number q (count k)) (owes q (count k))

-- the first round: the login is accepted, and the seat is live
module _ (F : ℕ) (o : Pair) (aq nu : ℕ) (wide : packet_limit ≤ F) (sm : o.running.log.session < 256) (few : count o.running.log ≤ size_limit) (su : suits aq o.running.log.session ≡ true) where
  first_round : (s : Pair) (p : Report) (w : Option Value) (t : Pair) → o.seat.phase ≡ Asking → o.seat.session ≡ aq → o.seat.number ≡ nu → o.seat.fetch ≡ None → o.seat.unsent ≡ 0 → Off F o → (r : Rounds s p w t) → HubOff nu o r.heard → Off F t × (core t ≡ core_of (served o.running.log nu) Live aq nu o.running.log (in_session o.held o.running.log.session))
  first_round s p w t p1 p2 p3 p4 p5 of r ho =
      let heard : Pair = r.heard in
      let k : Meaning = o.running.log in
      let q1 : heard.seat.phase ≡ Asking = ap (λ (z : SeatEnd). z.phase) ho.seat ∙ p1 in
      let q2 : heard.seat.session ≡ aq = ap (λ (z : SeatEnd). z.session) ho.seat ∙ p2 in
      let q3 : heard.seat.number ≡ nu = ap (λ (z : SeatEnd). z.number) ho.seat ∙ p3 in
      let q4 : heard.seat.fetch ≡ None = ap (λ (z : SeatEnd). z.fetch) ho.seat ∙ p4 in
      let q5 : heard.seat.unsent ≡ 0 = ap (λ (z : SeatEnd). z.unsent) ho.seat ∙ p5 in
      let q6 = ho.phase in let q7 = ho.frame in let q8 = ho.dry in
      let q9 : heard.running.log ≡ k = ap (λ z. z.log) ho.running in
      let q0 = ho.held in
      let c : Core = core_of (Answering nu) Asking aq nu k o.held in
      let ch : core heard ≡ c = cc in
      let oh : Off F heard = off_move F o heard ho.down (ap (λ (z : SeatEnd). z.frame) ho.seat) of in
      let v : Value = login_response Accepted k.session (count k) in
      let h : HubPhase = served k nu in
      let du : hub_due heard.hub.phase heard ≡ due v (hub_to h heard) =
      ap (λ g. hub_due g heard) q6
      ∙ ap (λ (l : Meaning). due (login_response Accepted l.session (count l)) (hub_to (served l nu) heard)) q9 in
      let ns : is_shut heard.hub.phase ≡ false = ap is_shut q6 in
      rest_of_round F v h c (core_of h Live aq nu k (in_session o.held k.session)) (response_valid Accepted k.session (count k) sm (omega (arith, few))) wide refl refl refl refl refl (act_response (core_of h Asking aq nu k o.held) k.session (count k) refl su) s p w t r ch oh ns du

-- the first of some rounds
pub record First (j : ℕ) (s t : Pair) : Type 0 where
  pub mid : Pair
  pub report : Report
  pub wrote : Option Value
  pub does : Rounds s report wrote mid
  pub rest : GrantedRounds Step j mid t

split : {n : ℕ} {s t : Pair} → GrantedRounds Step n s t → (j : ℕ) → n ≡ j + 1 → First j s t
split (no_round s) j e = absurd (omega arith)
split (round n s t d p st g rs) j e =
    let q : n ≡ j = omega arith in
    let r = granted_round s d p st g in
    record { mid = d.after; report = r.report; wrote = r.wrote; does = r.does; rest = subst (λ z. GrantedRounds Step z d.after t) q rs }

suits_ok : (aq x : ℕ) → 0 < x → (aq ≡ 0) ⊎ (aq ≡ x) → suits aq x ≡ true
suits_ok aq x po (inl e) = cond-true _ _ _ (eq-eqb aq 0 e) ∙ not_from_false (eqb x 0) (ne_eqb x 0 (λ z. omega arith))
suits_ok aq x po (inr e) = cond-false _ _ _ (ne_eqb aq 0 (λ z. omega arith)) ∙ eq-eqb x aq (sym e)

-- catch-up, from a state that keeps the invariants and whose lines are sound
pub catches_up : (b : Book) (n : Option Note) (s t : Pair) (how : How) → Sound b s → Truth n b s → Line.Steady s.up → Line.Steady s.down → Able how s → GrantedRounds Step (rounds_needed how s) (connected how s) t → Level s.running.log t
catches_up b n s t how i tr ul dl ab rs =
    let c : Pair = connected how s in
    let ask : Asked (view c) = connect_asked b s how ab.no_fetch i in
    let ic : Sound b c = to_waiting b _ _ _ _ _ _ i in
    let tc : Truth None b c = new_tru n b s how (joins (new_joined s how ab.no_fetch ask)) tr in
    let aq : ℕ = c.seat.session in
    let nu : ℕ = c.seat.number in
    let k : Meaning = s.running.log in
    let x : ℕ = k.session in
    let h : ℕ = count k in
    let F : ℕ = s.down.full in
    let l : Meaning = in_session s.held x in
    let va : Valid (its_login (view c)) = login_valid None b c ic tc ask in
    let ss : (aq ≡ 0) ⊎ (aq ≡ x) = (passed c.rows x h (asked how s) ab.accepted).session in
    let near : nu ≤ count l + 1 = asked_fits (view c) ask ss in
    let some : 0 < nu = asked_some (view c) ask in
    let front : IsPrefix l.messages k.messages = cond_both (eqb s.held.session x) s.held (begun s.held x) (λ (z : Meaning). IsPrefix z.messages k.messages)
    (λ q. subst (λ z. IsPrefix s.held.messages z) (ap b.lists (eqb-true s.held.session x q) ∙ i.kept) i.held) (λ q. (k.messages, refl)) in
    let lf = IsPrefix-length l.messages k.messages front in
    let on : HubOn (its_login (view c)) c c = record { phase = refl; stream = sym (append-nil (encode (its_login (view c)))); short = sesm.some (its_login (view c)); limit = ul.sound.some; rows = refl; running = refl; held = refl; seat = refl; down = refl } in
    let of : Off F c = record { frame = refl; dry = refl; room = refl; full = refl; limit = dl.sound.some } in
    let few : h ≤ size_limit = omega (arith, i.few, i.places) in
    let wide : packet_limit ≤ F = dl.sound.size.0 in
    let fs = split rs (h + 1 - nu) (omega arith) in
    let ho = login_drains c s.account.user s.account.computer s.account.protocol aq nu va ab.accepted fs.does.hub_drains on in
    let fr = first_round F c aq nu wide i.small few (suits_ok aq x i.begun ss) c fs.report fs.wrote fs.mid refl refl refl ab.no_fetch refl of fs.does ho in
    let fq : first_number nu h ≡ nu = cond-false _ _ _ (ne_eqb nu 0 (λ z. omega arith)) in
    let ro = cond_both (eqb s.held.session x) s.held (begun s.held x) (λ (z : Meaning). (z.overhead ≡ s.held.overhead) × (z.places ≡ s.held.places)) (λ q. (refl, refl)) (λ q. (refl, refl)) in
    let rd : Ready F aq nu k nu fs.mid = record { q = nu; d = owes nu h; l = l; is = fr.1 ∙ ap (λ z. core_of (Serving nu z (owes nu h)) Live aq nu k l) fq; off = fr.0; session = in_session_is s.held x; front = front; near = near; some = some; room = subst (λ z. taken z (drop (count l) k.messages) ≤ room l) (sym ro.0) ab.room; places = omega (arith, ab.places, ro.1) } in
    let en = ready_rounds F aq nu k wide i.begun i.short few nu fs.rest (omega arith) rd in
    let hl : t.held ≡ en.l = ap (λ (z : Core). z.held) en.is in
    record { session = ap (λ (z : Meaning). z.session) hl ∙ en.session; messages = ap (λ (z : Meaning). z.messages) hl ∙ IsPrefix-all en.l.messages k.messages en.front (omega (arith, en.near)) }
