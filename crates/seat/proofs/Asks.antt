-- What the calls that are neither a receive nor a send come to.
use Rattle.std.proofs.Common.{◌≡◌, ℕ, ◌≤◌, Bool, true, false, cond, eqb, leb, List, [], length, Ok, Err, sym, refl, ap, ◌∙◌, arith, length-append}
use Rattle.std.proofs.lemmas.Bool.{and_right, cond-true, cond-false, le-ltb, le-leb}
use Rattle.wire.specs.declared.refusals.Refusal.{Refusal}
use Rattle.wire.specs.declared.refusals.Refusal.TheVariants.{NoSession, NothingToFetch}
use Rattle.wire.specs.Limits.{message_limit}
use Rattle.wire.specs.declared.logouts.LogoutReason.TheVariants as X
use Rattle.packet.specs.Values.{Value, encode, length_number, login_request, logout_request, unsequenced}
use Rattle.packet.proofs.Back.{length_encode}
use Rattle.line.specs.Lines.{LineView, Sound, cleared, fits}
use Rattle.message_log.specs.Meaning.{Meaning, count}
use Rattle.account.specs.Logins.{spoken_version}
use Rattle.rules.specs.declared.phases.How.{How}
use Rattle.rules.specs.declared.phases.How.TheVariants.{Join, Anew, Fetch}
use Rattle.rules.specs.declared.phases.SeatPhase.TheVariants.{Apart, Live}
use Rattle.rules.specs.State.{Account, Pair}
use Rattle.rules.specs.Changes.{refuses, seat_to, seat_tells, seat_writes}
use Rattle.rules.specs.Calls.{Done, done, connect, connected, asking, is_live, leave}
use Rattle.rules.specs.Rounds.{too_short}
use Rattle.rules.specs.Seat.{is_apart, seat_gone}
use Rattle.rules.specs.Sides.{seat_side_of}
use Rattle.seat.specs.declared.seats.Seat.{Seat}
use Rattle.seat.specs.Asks.{asks, says}
use Rattle.framing.specs.Calling.{answered, unless_short}
use Rattle.seat.specs.Ends.{side_of}

pub says_granted : (m : List ℕ) (s : Pair) → length m ≤ message_limit → too_short s.buffers.out ≡ false → fits s.up (encode (unsequenced m)) ≡ true → s.seat.phase ≡ Live →
    done (seat_writes (unsequenced m) s) ≡ says m s
says_granted m s h a f p =
    sym (cond-false _ _ _ (and_right _ _ a)
    ∙ cond-false _ _ _ (le-ltb message_limit (length m) h)
    ∙ cond-true _ _ _ f
    ∙ cond-true _ _ _ (ap is_live p))

pub leaves_granted : (s : Pair) → too_short s.buffers.out ≡ false → fits s.up (encode (logout_request X.Done [])) ≡ true → is_apart s.seat.phase ≡ false →
    done (seat_gone X.Done s) ≡ unless_short leave s
leaves_granted s a f p =
    ap (λ (x : Pair). done (seat_to Apart x)) (cond-true _ _ _ f)
    ∙ sym (cond-false _ _ _ a ∙ cond-true _ _ _ f ∙ cond-false _ _ _ p)

-- a connect that is refused changes nothing, and one that is granted connects
pub connect_refused : (how : How) (s : Pair) (e : Refusal) → (connect how s).answer ≡ Err e → connect how s ≡ refuses e s
connect_refused Join s e h = cc
connect_refused Anew s e h = cc
connect_refused (Fetch end) s e h = go (eqb s.held.session 0) (leb end (count s.held)) h
  where
    go : (a b : Bool) → (cond {A = Done} a (refuses NoSession s) (cond b (refuses NothingToFetch s) (done (connected (Fetch end) s)))).answer ≡ Err e →
        cond {A = Done} a (refuses NoSession s) (cond b (refuses NothingToFetch s) (done (connected (Fetch end) s))) ≡ refuses e s
    go true b h = let q : NoSession ≡ e = cc in ap (λ (x : Refusal). refuses x s) q
    go false true h = let q : NothingToFetch ≡ e = cc in ap (λ (x : Refusal). refuses x s) q
    go false false h = cc

pub connect_granted : (how : How) (s : Pair) (x : Unit {0}) → (connect how s).answer ≡ Ok x → connect how s ≡ done (connected how s)
connect_granted Join s x h = refl
connect_granted Anew s x h = refl
connect_granted (Fetch end) s x h = go (eqb s.held.session 0) (leb end (count s.held)) h
  where
    go : (a b : Bool) → (cond {A = Done} a (refuses NoSession s) (cond b (refuses NothingToFetch s) (done (connected (Fetch end) s)))).answer ≡ Ok x →
        cond {A = Done} a (refuses NoSession s) (cond b (refuses NothingToFetch s) (done (connected (Fetch end) s))) ≡ done (connected (Fetch end) s)
    go true b h = cc
    go false true h = cc
    go false false h = refl

-- the login of an account fits a line that is empty
pub login_fits : (u c p : List ℕ) (s n : ℕ) (up : LineView) → length u ≡ 5 → length c ≡ 8 → length p ≡ 8 → Sound up → fits (cleared up) (encode (login_request spoken_version u c p s n)) ≡ true
login_fits u c p s n up a b d h =
    let v : Value = login_request spoken_version u c p s n in
    let l : length_number v ≡ 36 = simp length-append (omega arith) in
    le-leb (length (encode v)) up.full (omega (arith, length_encode v, h.size))

pub asks_refused : (how : How) (s : Pair) (e : Refusal) → too_short s.buffers.out ≡ false → (connect how s).answer ≡ Err e → seat_side_of s ≡ s → answered (Err e) s ≡ unless_short (asks how) s
asks_refused how s e a h k =
    sym (cond-false _ _ _ a ∙ ap (λ (o : Done). answered o.answer (seat_side_of o.after)) (connect_refused how s e h) ∙ ap (λ (x : Pair). answered (Err e) x) k)

-- with frame and counts cleared
abbrev pub emptied : Pair → Pair
emptied s =
    record s { seat = record s.seat { frame = []; unsent = 0; silent = 0 } }

-- the seat is new, and has written its login on the cleared line
pub asks_granted : (how : How) (seat begun written : Seat) (log : Meaning) (up cleaned up' down : LineView) (account : Account) (frame out out' : List ℕ) (x : Unit {0}) →
    too_short out ≡ false → cleaned ≡ cleared up → (connect how (side_of seat log up (cleared down) account frame out)).answer ≡ Ok x →
    side_of begun log cleaned (cleared down) account frame out ≡ asking how (emptied (side_of seat log cleaned (cleared down) account frame out)) →
    fits cleaned (encode (login_request spoken_version account.user account.computer account.protocol begun.state.session begun.state.number)) ≡ true →
    side_of written log up' (cleared down) account frame out' ≡ seat_tells (login_request spoken_version account.user account.computer account.protocol begun.state.session begun.state.number) (side_of begun log cleaned (cleared down) account frame out) →
    answered (Ok tt) (side_of written log up' (cleared down) account frame out') ≡ unless_short (asks how) (side_of seat log up (cleared down) account frame out)
asks_granted how seat begun written log up cleaned up' down account frame out out' x a c h b f w =
    let s : Pair = side_of seat log up (cleared down) account frame out in
    let login : Pair → Pair = λ t. seat_writes (login_request spoken_version account.user account.computer account.protocol t.seat.session t.seat.number) t in
    let t : side_of written log up' (cleared down) account frame out' ≡ seat_side_of (connected how s) =
    w ∙ cond-true _ _ _ f ∙ ap login b ∙ ap (λ (u : LineView). login (asking how (emptied (side_of seat log u (cleared down) account frame out)))) c in
    ap (λ (y : Pair). answered (Ok tt) y) t
    ∙ sym (cond-false _ _ _ a ∙ ap (λ (o : Done). answered o.answer (seat_side_of o.after)) (connect_granted how s x h))
