-- The calls that concern both ends come to what the two made of their sides.
use Rattle.std.proofs.Common.{◌≡◌, Bool, true, false, cond, eqb, leb, Ok, Err, Result, sym, refl, ap, subst, ◌∙◌}
use Rattle.wire.specs.declared.refusals.Refusal.{Refusal}
use Rattle.wire.specs.declared.refusals.Refusal.TheVariants.{ShortBuffer, NoSession, NothingToFetch}
use Rattle.line.specs.Lines.{LineView, cleared}
use Rattle.message_log.specs.Meaning.{count}
use Rattle.rules.specs.declared.phases.HubPhase.{HubPhase}
use Rattle.rules.specs.declared.phases.How.{How}
use Rattle.rules.specs.declared.phases.How.TheVariants.{Join, Anew, Fetch}
use Rattle.rules.specs.State.{Pair}
use Rattle.rules.specs.Changes.{with_up, with_down, refuses}
use Rattle.rules.specs.Calls.{Done, done, connect, connected, cut, tick, counted, hub_timed, seat_timed}
use Rattle.rules.specs.Rounds.{Connect, Cut, Tick, too_short, short_buffer, connects, cuts, ticks, did, Step}
use Rattle.rules.specs.Sides.{hub_side_of, with_hub_side, seat_side_of, with_seat_side}
use Rattle.rules.proofs.Sides.{hub_timed_core, seat_timed_core}
use Rattle.framing.specs.Calling.{answered, unless_short}
use Rattle.hub.specs.Asks.{awaits, times}
use Rattle.seat.specs.Asks.{asks}
use Rattle.seat.proofs.Asks.{connect_refused, connect_granted}
use Rattle.pair.specs.Steps.{Does}
use Rattle.pair.proofs.Sides.{hub_core, seat_core}

-- the seat's side as a connect finds it, once the down line is cleared
abbrev pub facing : Pair → Pair
facing s = seat_side_of (with_down s (cleared s.down))

-- a pair whose seat's side is that of another, but for the down line
abbrev pub with_asker : Pair → Pair → Pair
with_asker s t = with_down (with_seat_side s t) s.down

same_answer : (how : How) (s : Pair) → (connect how s).answer ≡ (connect how (facing s)).answer
same_answer Join s = refl
same_answer Anew s = refl
same_answer (Fetch end) s = go (eqb s.held.session 0) (leb end (count s.held))
  where
    go : (a b : Bool) → (cond {A = Done} a (refuses NoSession s) (cond b (refuses NothingToFetch s) (done (connected (Fetch end) s)))).answer ≡ (cond {A = Done} a (refuses NoSession (facing s)) (cond b (refuses NothingToFetch (facing s)) (done (connected (Fetch end) (facing s))))).answer
    go true b = refl
    go false true = refl
    go false false = refl

pub connects_refused : (how : How) (s t : Pair) (a r : Result (Unit {0}) Refusal) (e : Refusal) → a ≡ Err e → r ≡ Err e → answered a t ≡ unless_short (asks how) (facing s) → Does (Connect how) s r (with_asker s t)
connects_refused how s t a r e w v = go (too_short s.buffers.out) refl
  where
    go : (b : Bool) → too_short s.buffers.out ≡ b → answered a t ≡ cond b (refuses ShortBuffer (facing s)) (asks how (facing s)) → Does (Connect how) s r (with_asker s t)
    go true q h = subst (λ (o : Done). Does (Connect how) s o.answer (with_asker s o.after)) (sym h ∙ ap (λ (x : Result (Unit {0}) Refusal). answered x t) (w ∙ sym v)) (short_buffer (Connect how) q)
    go false q h =
        let k : (connect how (facing s)).answer ≡ Err e = sym (ap (λ (o : Done). o.answer) h) ∙ w in
        let u : t ≡ facing s = ap (λ (o : Done). o.after) h ∙ ap (λ (o : Done). seat_side_of o.after) (connect_refused how (facing s) e k) in
        let d : answered r s ≡ connect how s = ap (λ (x : Result (Unit {0}) Refusal). answered x s) v ∙ sym (connect_refused how s e (same_answer how s ∙ k)) in
        subst (λ (x : Pair). Does (Connect how) s r (with_asker s x)) (sym u) (subst (λ (o : Done). Step s (Connect how) (did o)) (sym d) (connects how q))

pub connects_granted : (how : How) (s t u : Pair) (a : Result (Unit {0}) Refusal) (x : Unit {0}) → a ≡ Ok x → answered a t ≡ unless_short (asks how) (facing s) → u ≡ awaits (hub_side_of s) → Does (Connect how) s (Ok tt) (with_asker u t)
connects_granted how s t u a x w h v = go (too_short s.buffers.out) refl h
  where
    go : (b : Bool) → too_short s.buffers.out ≡ b → answered a t ≡ cond b (refuses ShortBuffer (facing s)) (asks how (facing s)) → Does (Connect how) s (Ok tt) (with_asker u t)
    go true q h = absurd (let k : Ok x ≡ Err ShortBuffer = sym w ∙ ap (λ (o : Done). o.answer) h in cc)
    go false q h =
        let k : (connect how (facing s)).answer ≡ Ok x = sym (ap (λ (o : Done). o.answer) h) ∙ w in
        let l : t ≡ seat_side_of (connected how (facing s)) = ap (λ (o : Done). o.after) h ∙ ap (λ (o : Done). seat_side_of o.after) (connect_granted how (facing s) x k) in
        let e : with_asker u t ≡ connected how s = ap (λ (y : Pair). with_asker y t) v ∙ ap (with_asker (awaits (hub_side_of s))) l in
        subst (λ (y : Pair). Does (Connect how) s (Ok tt) y) (sym e)
        (subst (λ (o : Done). Step s (Connect how) (did o)) (connect_granted how s x (same_answer how s ∙ k)) (connects how q))

pub cuts_both : (s t u : Pair) (up down : LineView) → up ≡ cleared s.up → down ≡ cleared s.down → u ≡ hub_side_of (cut (hub_side_of s)) → t ≡ seat_side_of (cut (seat_side_of s)) →
    Does Cut s (Ok tt) (with_down (with_up (with_seat_side u t) up) down)
cuts_both s t u up down a b w v =
    let e : with_down (with_up (with_seat_side u t) up) down ≡ cut s =
    ap (λ (x : LineView). with_down (with_up (with_seat_side u t) x) down) a
    ∙ ap (λ (x : LineView). with_down (with_up (with_seat_side u t) (cleared s.up)) x) b
    ∙ ap (λ (x : Pair). with_down (with_up (with_seat_side x t) (cleared s.up)) (cleared s.down)) w
    ∙ ap (λ (x : Pair). with_down (with_up (with_seat_side (hub_side_of (cut (hub_side_of s))) x) (cleared s.up)) (cleared s.down)) v in
    subst (λ (x : Pair). Does Cut s (Ok tt) x) (sym e) cuts

-- the hub's side of a tick, and then the seat's
timed_hub : (h : HubPhase) (s x : Pair) → hub_timed h (with_hub_side s x) ≡ with_hub_side s (hub_timed h x)
timed_hub h s x = ap (λ (o : Done). o.after) (hub_core (λ y. done (hub_timed h y)) (λ y z. ap done (hub_timed_core h y z)) s x)

timed_seat : (s x : Pair) → seat_timed (with_seat_side s x) ≡ with_seat_side s (seat_timed x)
timed_seat s x = ap (λ (o : Done). o.after) (seat_core (λ y. done (seat_timed y)) (λ y z. ap done (seat_timed_core y z)) s x)

pub ticks_both : (s t u : Pair) (a : Result (Unit {0}) Refusal) (x : Unit {0}) → a ≡ Ok x → answered a u ≡ unless_short times (hub_side_of s) → t ≡ seat_side_of (seat_timed (counted (seat_side_of (with_hub_side s u)))) →
    Does Tick s (Ok tt) (with_seat_side (with_hub_side s u) t)
ticks_both s t u a x w h v = go (too_short s.buffers.out) refl h
  where
    go : (b : Bool) → too_short s.buffers.out ≡ b → answered a u ≡ cond b (refuses ShortBuffer (hub_side_of s)) (times (hub_side_of s)) → Does Tick s (Ok tt) (with_seat_side (with_hub_side s u) t)
    go true q h = absurd (let k : Ok x ≡ Err ShortBuffer = sym w ∙ ap (λ (o : Done). o.answer) h in cc)
    go false q h =
        let m : Pair = with_hub_side (counted s) u in
        let l : hub_timed s.hub.phase (counted s) ≡ m =
        timed_hub s.hub.phase (counted s) (counted (hub_side_of s)) ∙ ap (with_hub_side (counted s)) (sym (ap (λ (o : Done). o.after) h)) in
        let e : tick s ≡ with_seat_side (with_hub_side s u) t =
        ap seat_timed l ∙ timed_seat m (counted (seat_side_of (with_hub_side s u))) ∙ ap (with_seat_side m) (sym v) in
        subst (λ (y : Pair). Does Tick s (Ok tt) y) e (ticks q)

pub ticks_refused : (s u : Pair) (a r : Result (Unit {0}) Refusal) (e : Refusal) → a ≡ Err e → r ≡ Err e → answered a u ≡ unless_short times (hub_side_of s) → Does Tick s r (with_hub_side s u)
ticks_refused s u a r e w v h = go (too_short s.buffers.out) refl h
  where
    go : (b : Bool) → too_short s.buffers.out ≡ b → answered a u ≡ cond b (refuses ShortBuffer (hub_side_of s)) (times (hub_side_of s)) → Does Tick s r (with_hub_side s u)
    go true q h = subst (λ (o : Done). Does Tick s o.answer (with_hub_side s o.after)) (sym h ∙ ap (λ (x : Result (Unit {0}) Refusal). answered x u) (w ∙ sym v)) (short_buffer Tick q)
    go false q h = absurd (let k : Err e ≡ Ok tt = sym w ∙ ap (λ (o : Done). o.answer) h in cc)
