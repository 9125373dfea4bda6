-- What every call keeps, for the first promise: what is on its way to the seat is a list of whole packets, each of
-- which says what was published in the session of the connection.
use Rattle.std.proofs.Common.{◌≡◌, ℕ, ◌+◌, ◌-◌, ◌<◌, ◌≤◌, Bool, true, false, eqb, ◌⊎◌, List, [], ◌∷◌, ◌++◌, length, get_or, Some, Ok, sym, refl, ap, ◌∙◌, subst, inl, inr, ⊎_elim, arith}
use Rattle.std.specs.List.{slice_get, flat_map, AllByRecursion as All}
use Rattle.std.proofs.lemmas.List.{length_push}
use Rattle.std.proofs.ByRecursion.{All-push, All-weaker}
use Rattle.std.proofs.lemmas.Bool.{cond_both, eq-eqb, ne_eqb, cond-true, cond-false, cases_Bool}
use Rattle.wire.specs.Limits.{message_limit}
use Rattle.wire.specs.declared.statuses.Status.{Status}
use Rattle.wire.specs.declared.statuses.Status.TheVariants.{Accepted}
use Rattle.packet.specs.Values.{Value, Valid, login_request, login_response, sequenced, unsequenced, synchronization_complete, retransmission_request, logout_request, good_bye, end_of_session, hub_heartbeat, seat_heartbeat, test, encode}
use Rattle.message_log.specs.Meaning.{Meaning, count, room, begun, size_limit}
use Rattle.message_log.specs.Meaning as Log
use Rattle.message_log.specs.Calls.{takes}
use Rattle.message_log.proofs.Verdicts.{verdict_ok}
use Rattle.rules.specs.declared.phases.HubPhase.{HubPhase}
use Rattle.rules.specs.declared.phases.HubPhase.TheVariants.{Shut, Waiting, Answering, Rejecting, Serving, Filling}
use Rattle.rules.specs.declared.phases.SeatPhase.{SeatPhase}
use Rattle.rules.specs.declared.phases.SeatPhase.TheVariants.{Apart, Asking, Live}
use Rattle.rules.specs.State.{Pair}
use Rattle.rules.specs.Calls.{busy, last_session}
use Rattle.promises.specs.Book.{Message, Book, added, turned}
use Rattle.promises.specs.Runs.{IsPrefix}
use Rattle.promises.proofs.Fronts.{IsPrefix-refl, IsPrefix-push, IsPrefix-trans, nth_append, get_d_push}
use Rattle.promises.proofs.Frames.{Short, short_push, stream_push}
use Rattle.promises.proofs.Packets.{sesm}

-- phases in which the hub's session is the connection's
abbrev pub bound : HubPhase → Bool
bound Waiting = true
bound (Answering q) = true
bound (Serving q n d) = true
bound (Filling n l) = true
bound phase = false

-- phases in which the hub has written nothing on this connection
abbrev pub early : HubPhase → Bool
early Waiting = true
early (Answering q) = true
early (Rejecting x) = true
early phase = false

-- what a packet to the seat says is so, of the messages ms of session x
abbrev pub HonestResponse : Status → ℕ → ℕ → Type 0
HonestResponse Accepted s x = (s ≡ x) × (0 < x)
HonestResponse status s x = Unit {0}

abbrev pub Honest : List Message → ℕ → Value → Type 0
Honest ms x (login_response t s n) = HonestResponse t s x
Honest ms x (sequenced n m) = (0 < n) × (slice_get ms (n - 1) ≡ Some m)
Honest ms x v = Unit {0}

-- a status that rejects is not the one that accepts
abbrev pub Rejected : HubPhase → Type 0
Rejected (Rejecting x) = x ≡ Accepted → ⊥
Rejected phase = Unit {0}

-- what is on its way to the seat: its frame f and what waits, w; k and l are the sessions of the two logs
pub record Flying (lists : ℕ → List Message) (h : HubPhase) (p : SeatPhase) (f : List ℕ) (k l : ℕ) (w : List ℕ) : Type 0 where
  -- the session of the connection
  pub session : ℕ
  pub packets : List Value
  pub stream : f ++ w ≡ flat_map encode packets
  pub short : Short sesm f packets
  pub valid : All Valid packets
  pub honest : All (Honest (lists session) session) packets
  pub lower : l ≤ session
  pub upper : session ≤ k
  pub is_bound : bound h ≡ true → k ≡ session
  pub quiet : early h ≡ true → (packets ≡ []) × (p ≡ Live → ⊥)
  pub live : p ≡ Live → l ≡ session

-- a seat that is apart hears nothing more, so nothing need be so of the line
pub data Flight (lists : ℕ → List Message) (h : HubPhase) (p : SeatPhase) (f : List ℕ) (k l : ℕ) (w : List ℕ) : Type 0 where
  away : p ≡ Apart → Flight lists h p f k l w
  flies : Flying lists h p f k l w → Flight lists h p f k l w

pub record Inv (b : Book) (h : HubPhase) (p : SeatPhase) (f : List ℕ) (k l : Meaning) (w : List ℕ) : Type 0 where
  pub running : b.running ≡ k.session
  pub kept : b.lists k.session ≡ k.messages
  pub later : (x : ℕ) → k.session < x → b.lists x ≡ []
  pub none : b.lists 0 ≡ []
  pub begun : 0 < k.session
  pub small : k.session < 256
  pub few : count k ≤ k.places
  pub places : k.places ≤ size_limit
  pub short : (i : ℕ) → length (get_or k.messages i []) ≤ message_limit
  pub held : IsPrefix l.messages (b.lists l.session)
  pub older : l.session ≤ k.session
  pub rejected : Rejected h
  pub flight : Flight b.lists h p f k.session l.session w

abbrev pub Sound : Book → Pair → Type 0
Sound b s = Inv b s.hub.phase s.seat.phase s.seat.frame s.running.log s.held s.down.waiting

-- the seat's log stays or grows in its session, or goes on to a later one
abbrev pub Grows : Meaning → Meaning → Type 0
Grows l n = ((n.session ≡ l.session) × IsPrefix l.messages n.messages) ⊎ (l.session < n.session)

pub grows_refl : (l : Meaning) → Grows l l
grows_refl l = inl (refl, IsPrefix-refl l.messages)

pub grows_trans : (l m n : Meaning) → Grows l m → Grows m n → Grows l n
grows_trans l m n (inl (a, p)) (inl (b, q)) = inl (b ∙ a, IsPrefix-trans l.messages m.messages n.messages p q)
grows_trans l m n (inl (a, p)) (inr b) = inr (omega arith)
grows_trans l m n (inr a) (inl (b, q)) = inr (omega arith)
grows_trans l m n (inr a) (inr b) = inr (omega arith)

module _ (b : Book) (h : HubPhase) (p : SeatPhase) (f : List ℕ) (k l : Meaning) (w : List ℕ) where
  -- the same but for what is on its way
  pub refly : (g : HubPhase) (q : SeatPhase) (e v : List ℕ) → Inv b h p f k l w → Rejected g → Flight b.lists g q e k.session l.session v → Inv b g q e k l v
  refly g q e v i re fl = record { running = i.running; kept = i.kept; later = i.later; none = i.none; begun = i.begun; small = i.small; few = i.few; places = i.places; short = i.short; held = i.held; older = i.older; rejected = re; flight = fl }

  -- the hub goes on to another phase
  pub to_phase : (g : HubPhase) → Rejected g → (bound g ≡ true → bound h ≡ true) → (early g ≡ true → early h ≡ true) → Inv b h p f k l w → Inv b g p f k l w
  to_phase g re a c i = refly g p f w i re (go i.flight)
    where
      go : Flight b.lists h p f k.session l.session w → Flight b.lists g p f k.session l.session w
      go (away e) = away e
      go (flies y) = flies (record { session = y.session; packets = y.packets; stream = y.stream; short = y.short; valid = y.valid; honest = y.honest; lower = y.lower; upper = y.upper; is_bound = λ z. y.is_bound (a z); quiet = λ z. y.quiet (c z); live = y.live })

  pub to_shut : Inv b h p f k l w → Inv b Shut p f k l w
  to_shut = to_phase Shut tt (λ z. (cc)) (λ z. (cc))

  -- the seat goes apart
  pub to_apart : (e v : List ℕ) → Inv b h p f k l w → Inv b h Apart e k l v
  to_apart e v i = refly h Apart e v i i.rejected (away refl)

  -- a connect: nothing is on its way, and the session of the connection is the hub's
  pub to_waiting : Inv b h p f k l w → Inv b Waiting Asking [] k l []
  to_waiting i = refly Waiting Asking [] [] i tt (flies (record { session = k.session; packets = []; stream = refl; short = tt; valid = tt; honest = tt; lower = i.older; upper = omega arith; is_bound = λ z. refl; quiet = λ z. (refl, λ y. (cc)); live = λ y. (cc) }))

  -- the hub writes a packet
  pub writes : (v : Value) → early h ≡ false → Valid v → (bound h ≡ true → Honest (b.lists k.session) k.session v) → (bound h ≡ false → (ms : List Message) (x : ℕ) → Honest ms x v) → Inv b h p f k l w → Inv b h p f k l (w ++ encode v)
  writes v ea va ho hu i = refly h p f (w ++ encode v) i i.rejected (go i.flight)
    where
      go : Flight b.lists h p f k.session l.session w → Flight b.lists h p f k.session l.session (w ++ encode v)
      go (away e) = away e
      go (flies y) =
          let o : Honest (b.lists y.session) y.session v = ⊎_elim (λ t. subst (λ x. Honest (b.lists x) x v) (y.is_bound t) (ho t)) (λ t. hu t (b.lists y.session) y.session) (cases_Bool (bound h)) in
          flies (record {
            session = y.session;
            packets = y.packets ++ (v ∷ []);
            stream = stream_push sesm f w v y.packets y.stream;
            short = short_push sesm f w v y.packets y.stream y.short;
            valid = All-push Valid y.packets v y.valid va;
            honest = All-push (Honest (b.lists y.session) y.session) y.packets v y.honest o;
            lower = y.lower;
            upper = y.upper;
            is_bound = y.is_bound;
            quiet = λ z. (cc);
            live = y.live;
          })

  -- the seat's log is another, in the session of the connection
  pub relog : (n : Meaning) → early h ≡ false → IsPrefix n.messages (b.lists n.session) → (y : Flying b.lists h p f k.session l.session w) → n.session ≡ y.session → Inv b h p f k l w → Inv b h Live f k n w
  relog n ea pre y e i = record {
    running = i.running;
    kept = i.kept;
    later = i.later;
    none = i.none;
    begun = i.begun;
    small = i.small;
    few = i.few;
    places = i.places;
    short = i.short;
    held = pre;
    older = omega (arith, y.upper);
    rejected = i.rejected;
    flight = flies (record { session = y.session; packets = y.packets; stream = y.stream; short = y.short; valid = y.valid; honest = y.honest; lower = omega arith; upper = y.upper; is_bound = y.is_bound; quiet = λ z. (cc); live = λ z. e });
  }

-- more was published
honest_more : (xs ys : List Message) (x : ℕ) (v : Value) → IsPrefix xs ys → Honest xs x v → Honest ys x v
honest_more xs ys x (login_request v u c p s n) pre h = tt
honest_more xs ys x (login_response t s n) pre h = h
honest_more xs ys x (sequenced n m) pre h = (h.0, rw pre.1 (nth_append xs pre.0 (n - 1) m h.1))
honest_more xs ys x (unsequenced m) pre h = tt
honest_more xs ys x synchronization_complete pre h = tt
honest_more xs ys x (retransmission_request a e) pre h = tt
honest_more xs ys x (logout_request r t) pre h = tt
honest_more xs ys x (good_bye r t) pre h = tt
honest_more xs ys x end_of_session pre h = tt
honest_more xs ys x hub_heartbeat pre h = tt
honest_more xs ys x seat_heartbeat pre h = tt
honest_more xs ys x (test t) pre h = tt

pub list_grows : (b : Book) (m : Message) (x : ℕ) → IsPrefix (b.lists x) ((added b m).lists x)
list_grows b m x = cond_both (eqb x b.running) (b.lists x ++ (m ∷ [])) (b.lists x) (λ z. IsPrefix (b.lists x) z) (λ t. IsPrefix-push (b.lists x) m) (λ t. IsPrefix-refl (b.lists x))

pub publishes : (b : Book) (h : HubPhase) (p : SeatPhase) (f : List ℕ) (k l : Meaning) (w : List ℕ) (m : Message) → takes k (length m) ≡ Ok tt → Inv b h p f k l w → Inv (added b m) h p f (Log.added k m) l w
publishes b h p f k l w m ok i =
    let fit = verdict_ok k.session (room k) (k.places - count k) k.overhead (length m) ok in
    record {
      running = i.running;
      kept = cond-true _ _ _ (eq-eqb k.session b.running (sym i.running)) ∙ ap (λ z. z ++ (m ∷ [])) i.kept;
      later = λ x g. cond-false _ _ _ (ne_eqb x b.running (λ e. omega (arith, i.running))) ∙ i.later x g;
      none = cond-false _ _ _ (ne_eqb 0 b.running (λ e. omega (arith, i.running, i.begun))) ∙ i.none;
      begun = i.begun;
      small = i.small;
      few = omega (arith, length_push k.messages m, fit.2);
      places = i.places;
      short = get_d_push (λ x. length x ≤ message_limit) k.messages m i.short fit.0;
      held = IsPrefix-trans l.messages (b.lists l.session) ((added b m).lists l.session) i.held (list_grows b m l.session);
      older = i.older;
      rejected = i.rejected;
      flight = go i.flight;
    }
  where
    go : Flight b.lists h p f k.session l.session w → Flight (added b m).lists h p f k.session l.session w
    go (away e) = away e
    go (flies y) = flies (record { session = y.session; packets = y.packets; stream = y.stream; short = y.short; valid = y.valid; honest = All-weaker _ _ (λ v g. honest_more (b.lists y.session) ((added b m).lists y.session) y.session v (list_grows b m y.session) g) y.packets y.honest; lower = y.lower; upper = y.upper; is_bound = y.is_bound; quiet = y.quiet; live = y.live })

-- the hub went on to the next session
roll_flight : (lists : ℕ → List Message) (h : HubPhase) (p : SeatPhase) (f : List ℕ) (k l : ℕ) (w : List ℕ) → busy h ≡ false → l ≤ k → Flying lists h p f k l w → Flying lists h p f (k + 1) l w
roll_flight lists Shut p f k l w bu o y = record { session = y.session; packets = y.packets; stream = y.stream; short = y.short; valid = y.valid; honest = y.honest; lower = y.lower; upper = omega (arith, y.upper); is_bound = λ z. (cc); quiet = y.quiet; live = y.live }
roll_flight lists Waiting p f k l w bu o y =
    let q = y.quiet refl in
    record { session = k + 1; packets = []; stream = y.stream ∙ ap (flat_map encode) q.0; short = tt; valid = tt; honest = tt; lower = omega arith; upper = omega arith; is_bound = λ z. refl; quiet = λ z. (refl, q.1); live = λ z. absurd (q.1 z) }
roll_flight lists (Answering q) p f k l w bu o y = (cc)
roll_flight lists (Rejecting x) p f k l w bu o y = record { session = y.session; packets = y.packets; stream = y.stream; short = y.short; valid = y.valid; honest = y.honest; lower = y.lower; upper = omega (arith, y.upper); is_bound = λ z. (cc); quiet = y.quiet; live = y.live }
roll_flight lists (Serving q n d) p f k l w bu o y = (cc)
roll_flight lists (Filling n m) p f k l w bu o y = (cc)

pub rolls_on : (b : Book) (h : HubPhase) (p : SeatPhase) (f : List ℕ) (k l : Meaning) (w : List ℕ) → busy h ≡ false → k.session < last_session → Inv b h p f k l w → Inv (turned b) h p f (begun k (k.session + 1)) l w
rolls_on b h p f k l w bu sm i = record {
  running = ap (λ x. x + 1) i.running;
  kept = i.later (k.session + 1) (omega arith);
  later = λ x g. i.later x (omega arith);
  none = i.none;
  begun = omega arith;
  small = omega arith;
  few = omega arith;
  places = i.places;
  short = λ j. omega arith;
  held = i.held;
  older = omega (arith, i.older);
  rejected = i.rejected;
  flight = go i.flight;
}
  where
    go : Flight b.lists h p f k.session l.session w → Flight b.lists h p f (k.session + 1) l.session w
    go (away e) = away e
    go (flies y) = flies (roll_flight b.lists h p f k.session l.session w bu i.older y)
