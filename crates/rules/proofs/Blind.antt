-- What an end does with bytes does not depend on the line that they came from, and leaves that line alone.
use Rattle.std.proofs.Common.{◌≡◌, ℕ, Bool, true, false, cond, eqb, ltb, List, [], ◌∷◌, ◌++◌, length, Some, None, Ok, Err, Option, Result, refl, ap}
use Rattle.wire.specs.declared.faults.PacketFault.{PacketFault}
use Rattle.wire.specs.declared.refusals.Refusal.{Refusal}
use Rattle.wire.specs.declared.refusals.Refusal.TheVariants.{BadPacket, LogFull}
use Rattle.wire.specs.declared.letters.Letter.TheVariants as L
use Rattle.wire.specs.declared.statuses.Status.{Status}
use Rattle.wire.specs.declared.statuses.Status.TheVariants.{Accepted}
use Rattle.wire.specs.declared.goodbyes.GoodByeReason.{GoodByeReason}
use Rattle.wire.specs.declared.goodbyes.GoodByeReason.TheVariants as G
use Rattle.wire.specs.declared.logouts.LogoutReason.{LogoutReason}
use Rattle.wire.specs.declared.logouts.LogoutReason.TheVariants as X
use Rattle.packet.specs.Values.{Value, encode, good_bye, logout_request}
use Rattle.packet.specs.Decoding.{Decoded, part, whole}
use Rattle.line.specs.Lines.{LineView, fits}
use Rattle.message_log.specs.Calls.{takes}
use Rattle.account.specs.Logins.{Asked}
use Rattle.rules.specs.declared.phases.HubPhase.{HubPhase}
use Rattle.rules.specs.declared.phases.HubPhase.TheVariants.{Shut}
use Rattle.rules.specs.declared.phases.SeatPhase.{SeatPhase}
use Rattle.rules.specs.declared.phases.SeatPhase.TheVariants.{Apart}
use Rattle.rules.specs.declared.answers.Received.{Received}
use Rattle.rules.specs.declared.answers.Received.TheVariants.{Acted}
use Rattle.rules.specs.State.{Pair, Outcome}
use Rattle.rules.specs.Changes.{with_up, with_down, grants, refuses, hub_leaves, hub_writes, hub_took, seat_to, seat_writes, seat_took}
use Rattle.rules.specs.Frames.{judged}
use Rattle.rules.specs.Hub.{hub_gone, hub_letters, admitted, decided, hub_acts, hub_judges, hub_hears}
use Rattle.rules.specs.Seat.{seat_gone, seat_letters, suits, next_number, seat_keeps, seat_skips, seat_complete, seat_acts, seat_judges, seat_hears}
use Rattle.rules.proofs.Cases.{Act, hub_acts_lem, seat_acts_lem}

pub along : {A B : Type 0} (f : A → B) (b : Bool) (x y : A) (z w : B) → z ≡ f x → w ≡ f y → cond b z w ≡ f (cond b x y)
along f true x y z w p q = p
along f false x y z w p q = q

-- the same outcome with this up line
abbrev pub on_up : LineView → Outcome Received → Outcome Received
on_up w o = record { answer = o.answer; after = with_up o.after w }

abbrev pub on_down : LineView → Outcome Received → Outcome Received
on_down w o = record { answer = o.answer; after = with_down o.after w }

abbrev BlindUp : Act → Type 0
BlindUp f = (s : Pair) (w : LineView) → f (with_up s w) ≡ on_up w (f s)

abbrev BlindDown : Act → Type 0
BlindDown f = (s : Pair) (w : LineView) → f (with_down s w) ≡ on_down w (f s)

hub_gone_blind : (r : GoodByeReason) (s : Pair) (w : LineView) → hub_gone r (with_up s w) ≡ with_up (hub_gone r s) w
hub_gone_blind r s w = go (fits s.down (encode (good_bye r [])))
  where
    go : (b : Bool) → hub_leaves Shut (cond b (hub_writes (good_bye r []) (with_up s w)) (with_up s w)) ≡ with_up (hub_leaves Shut (cond b (hub_writes (good_bye r []) s) s)) w
    go true = refl
    go false = refl

seat_gone_blind : (r : LogoutReason) (s : Pair) (w : LineView) → seat_gone r (with_down s w) ≡ with_down (seat_gone r s) w
seat_gone_blind r s w = go (fits s.up (encode (logout_request r [])))
  where
    go : (b : Bool) → seat_to Apart (cond b (seat_writes (logout_request r []) (with_down s w)) (with_down s w)) ≡ with_down (seat_to Apart (cond b (seat_writes (logout_request r []) s) s)) w
    go true = refl
    go false = refl

-- refused, and gone
hub_refused : (x : Refusal) (r : GoodByeReason) → BlindUp (λ s. refuses x (hub_gone r s))
hub_refused x r s w = ap (λ t. refuses {R = Received} x t) (hub_gone_blind r s w)

seat_refused : (x : Refusal) (r : LogoutReason) → BlindDown (λ s. refuses x (seat_gone r s))
seat_refused x r s w = ap (λ t. refuses {R = Received} x t) (seat_gone_blind r s w)

admitted_blind : (o : Option ℕ) (n : ℕ) (s : Pair) (w : LineView) → admitted o n (with_up s w) ≡ with_up (admitted o n s) w
admitted_blind None n s w = refl
admitted_blind (Some i) n s w = refl

decided_blind : (t : Status) (a : Asked) (s : Pair) (w : LineView) → decided t a (with_up s w) ≡ with_up (decided t a s) w
decided_blind Accepted a s w = admitted_blind _ a.number s w
decided_blind status a s w = refl

hub_acts_blind : (p : HubPhase) (v : Value) → BlindUp (λ s. hub_acts p v s)
hub_acts_blind p v =
    hub_acts_lem BlindUp (λ f. hub_refused (BadPacket f) G.BadPacket) (λ r s w. refl) (λ r s w. refl) (λ a e s w. refl)
    (λ a s w. ap (λ t. grants (Acted L.LoginRequest) t) (decided_blind _ a s w)) p v

hub_judges_blind : (r : Result Decoded PacketFault) (got frame : List ℕ) (w : LineView) (s : Pair) → hub_judges r got frame w s ≡ on_up w (hub_judges r got frame s.up s)
hub_judges_blind (Ok part) got frame w s = refl
hub_judges_blind (Ok (whole v)) got frame w s = hub_acts_blind s.hub.phase v (hub_took got [] s.up s) w
hub_judges_blind (Err f) got frame w s = hub_refused (BadPacket f) G.BadPacket (hub_took got [] s.up s) w

pub hub_hears_blind : (got : List ℕ) (w : LineView) (s : Pair) → hub_hears got w s ≡ on_up w (hub_hears got s.up s)
hub_hears_blind [] w s = refl
hub_hears_blind (b ∷ bs) w s = hub_judges_blind (judged (hub_letters s.hub.phase) (s.hub.frame ++ (b ∷ bs))) (b ∷ bs) (s.hub.frame ++ (b ∷ bs)) w s

keeps_blind : (r : Result (Unit {0}) Refusal) (m : List ℕ) → BlindDown (λ s. seat_keeps r m s)
keeps_blind (Ok x) m s w = refl
keeps_blind (Err x) m s w = seat_refused LogFull X.Terminating s w

skips_blind : (o : Option ℕ) → BlindDown (λ s. seat_skips o s)
skips_blind None s w = seat_refused _ X.BadPacket s w
skips_blind (Some e) s w = refl

completes_blind : (o : Option ℕ) → BlindDown (λ s. seat_complete o s)
completes_blind None s w = refl
completes_blind (Some e) s w = seat_refused _ X.BadPacket s w

seat_acts_blind : (p : SeatPhase) (v : Value) → BlindDown (λ s. seat_acts p v s)
seat_acts_blind p v =
    seat_acts_lem BlindDown (λ f. seat_refused (BadPacket f) X.BadPacket) (λ r s w. refl) (λ r s w. refl)
    (λ x n s w. along (on_down w) (suits s.seat.session x) _ _ _ _ refl (seat_refused _ X.BadPacket s w))
    (λ t s w. refl)
    (λ n m s w. along (on_down w) (eqb n (next_number s.held)) _ _ _ _ (keeps_blind (takes s.held (length m)) m s w)
    (along (on_down w) (ltb n (next_number s.held)) _ _ _ _ refl (skips_blind s.seat.fetch s w)))
    (λ s w. completes_blind s.seat.fetch s w) p v

seat_judges_blind : (r : Result Decoded PacketFault) (got frame : List ℕ) (w : LineView) (s : Pair) → seat_judges r got frame w s ≡ on_down w (seat_judges r got frame s.down s)
seat_judges_blind (Ok part) got frame w s = refl
seat_judges_blind (Ok (whole v)) got frame w s = seat_acts_blind s.seat.phase v (seat_took got [] s.down s) w
seat_judges_blind (Err f) got frame w s = seat_refused (BadPacket f) X.BadPacket (seat_took got [] s.down s) w

pub seat_hears_blind : (got : List ℕ) (w : LineView) (s : Pair) → seat_hears got w s ≡ on_down w (seat_hears got s.down s)
seat_hears_blind [] w s = refl
seat_hears_blind (b ∷ bs) w s = seat_judges_blind (judged (seat_letters s.seat.phase s.seat.fetch) (s.seat.frame ++ (b ∷ bs))) (b ∷ bs) (s.seat.frame ++ (b ∷ bs)) w s
