-- Every call leads somewhere.
use Rattle.std.proofs.Common.{◌≡◌, ℕ, zero, suc, ◌<◌, false, List, [], ◌∷◌, length, drop, refl, ap, arith, length-drop, length-take}
use Rattle.std.proofs.lemmas.Bool.{cond_both}
use Rattle.line.specs.Lines.{LineView, handed}
use Rattle.rules.specs.declared.answers.Received.{Received}
use Rattle.rules.specs.State.{Steady, Pair, Outcome}
use Rattle.rules.specs.Frames.{lack, given, left, Free}
use Rattle.rules.specs.Hub.{listens, hub_hears, hub_sends}
use Rattle.rules.specs.Seat.{is_apart, seat_hears}
use Rattle.rules.specs.Rounds.{HubReceives, hub_deaf, hub_hears_bytes, SeatReceives, seat_deaf, seat_hears_bytes, Going, stop, continue, going, Drains, ends, more, Call, Connect, Cut, Publish, Finish, Roll, Tell, Say, Leave, HubReceive, SeatReceive, HubSend, SeatSend, Tick, Round, lent_short, Step, short_buffer, connects, cuts, publishes, finishes, rolls, tells, says, leaves, hub_receives, seat_receives, hub_sends_one, seat_sends_one, ticks, rounds}
use Rattle.rules.specs.Roomiest.{hub_takes, seat_takes, onwards, drained, hub_drained, seat_drained, round_went, allowed}
use Rattle.rules.specs.Laws.{Lined, Total, RoundsGranted, GoesOnByTaking}
use Rattle.rules.proofs.Keeps.{Keeps, keeps_trans, drains_keep, hub_receives_keep, seat_receives_keep, hub_sends_keep}
use Rattle.rules.proofs.Blind.{hub_hears_blind, seat_hears_blind}

-- a line may always give all its room
all_free : (v : LineView) (n : ℕ) → Steady v → Free v n v.full
all_free v n i = record { grows = i.within; within = omega arith; empty = λ e. refl }

hub_takes_lem : (s : Pair) → Lined s → HubReceives s (hub_takes s)
hub_takes_lem s i = cond_both (listens s.hub.phase) _ _ (λ o. HubReceives s o) (λ e. hub_hears_bytes s.up.full e (all_free s.up (lack s.hub.frame) i.up)) (λ e. hub_deaf e)

seat_takes_lem : (s : Pair) → Lined s → SeatReceives s (seat_takes s)
seat_takes_lem s i = cond_both (is_apart s.seat.phase) _ _ (λ o. SeatReceives s o) (λ e. seat_deaf e) (λ e. seat_hears_bytes s.down.full e (all_free s.down (lack s.seat.frame) i.down))

-- a receive that goes on was handed something
hub_handed : (got : List ℕ) (w : LineView) (s : Pair) (k : ℕ) → going (hub_hears got w s).answer ≡ continue k → 0 < length got
hub_handed [] w s k e = (cc)
hub_handed (b ∷ bs) w s k e = omega arith

seat_handed : (got : List ℕ) (w : LineView) (s : Pair) (k : ℕ) → going (seat_hears got w s).answer ≡ continue k → 0 < length got
seat_handed [] w s k e = (cc)
seat_handed (b ∷ bs) w s k e = omega arith

-- so less waits than before
falls : (v : LineView) (n room : ℕ) (w : LineView) → w ≡ left v n room → 0 < length (given v n) → length w.waiting < length v.waiting
falls v n room w e h =
    let l : length w.waiting ≡ length (drop (handed v n) v.waiting) = ap (λ (x : LineView). length x.waiting) e in
    omega (arith, l, h, length-take (handed v n) v.waiting, length-drop (handed v n) v.waiting)

hub_falls : (s : Pair) (o : Outcome Received) (k : ℕ) → HubReceives s o → going o.answer ≡ continue k → length o.after.up.waiting < length s.up.waiting
hub_falls s _ k (hub_deaf e) g = (cc)
hub_falls s _ k (hub_hears_bytes room e f) g =
    falls s.up (lack s.hub.frame) room _ (ap (λ o. o.after.up) (hub_hears_blind (given s.up (lack s.hub.frame)) (left s.up (lack s.hub.frame) room) s)) (hub_handed _ _ s k g)

seat_falls : (s : Pair) (o : Outcome Received) (k : ℕ) → SeatReceives s o → going o.answer ≡ continue k → length o.after.down.waiting < length s.down.waiting
seat_falls s _ k (seat_deaf e) g = (cc)
seat_falls s _ k (seat_hears_bytes room e f) g =
    falls s.down (lack s.seat.frame) room _ (ap (λ o. o.after.down) (seat_hears_blind (given s.down (lack s.seat.frame)) (left s.down (lack s.seat.frame) room) s)) (seat_handed _ _ s k g)

keeps_lined : (s t : Pair) → Keeps s t → Lined s → Lined t
keeps_lined s t k i = record { up = k.up i.up; down = k.down i.down }

-- an end that can always receive, keeps its lines, and takes a byte where it goes on, comes to an end
module _ (R : Pair → Outcome Received → Type 0) (receive : Pair → Outcome Received) (line : Pair → LineView)
    (some : (s : Pair) → Lined s → R s (receive s))
    (keep : (s : Pair) (o : Outcome Received) → R s o → Keeps s o.after)
    (fall : (s : Pair) (o : Outcome Received) (k : ℕ) → R s o → going o.answer ≡ continue k → length (line o.after).waiting < length (line s).waiting) where
  pub drains : (m : ℕ) (s : Pair) → Lined s → length (line s).waiting < m → Drains R s (drained receive m s).packets (drained receive m s).fault (drained receive m s).after
  drains zero s i h = absurd (omega arith)
  drains (suc m) s i h = next (going (receive s).answer) refl (drains m (receive s).after (keeps_lined s (receive s).after (keep s (receive s) (some s i)) i))
    where
      next : (g : Going) → going (receive s).answer ≡ g →
          (length (line (receive s).after).waiting < m → Drains R (receive s).after (drained receive m (receive s).after).packets (drained receive m (receive s).after).fault (drained receive m (receive s).after).after) →
          Drains R s (onwards g (receive s).after (drained receive m (receive s).after)).packets (onwards g (receive s).after (drained receive m (receive s).after)).fault (onwards g (receive s).after (drained receive m (receive s).after)).after
      next (stop f) e later = ends s (receive s) f (some s i) e
      next (continue k) e later = more s (receive s) k _ _ _ (some s i) e (later (omega (arith, fall s (receive s) k (some s i) e)))

round_goes : (s : Pair) → Lined s → lent_short Round s ≡ false → Step s Round (round_went s)
round_goes s i e =
    let h = drains HubReceives hub_takes (λ t. t.up) hub_takes_lem hub_receives_keep hub_falls (suc (length s.up.waiting)) s i (omega arith) in
    let heard : Pair = (hub_drained s).after in
    let sent : Pair = (hub_sends heard).after in
    let j = keeps_lined s sent (keeps_trans (drains_keep HubReceives hub_receives_keep _ _ _ _ h) (hub_sends_keep heard)) i in
    let t = drains SeatReceives seat_takes (λ t. t.down) seat_takes_lem seat_receives_keep seat_falls (suc (length sent.down.waiting)) sent j (omega arith) in
    rounds _ _ _ e (record { heard = heard; taken = (seat_drained sent).after; hub_drains = h; hub_wrote = refl; seat_drains = t; seat_sent = refl })

pub rounds_granted : RoundsGranted
rounds_granted s i e = (round_went s, round_goes s i e, (_, refl))

pub goes_on_by_taking : GoesOnByTaking
goes_on_by_taking = record { hub = hub_falls; seat = seat_falls }

-- a call to which no short buffer is lent
goes : (s : Pair) (c : Call) → Lined s → lent_short c s ≡ false → Step s c (allowed c s)
goes s (Connect how) i e = connects how e
goes s Cut i e = cuts
goes s (Publish m) i e = publishes m
goes s Finish i e = finishes
goes s Roll i e = rolls
goes s (Tell m) i e = tells m e
goes s (Say m) i e = says m e
goes s Leave i e = leaves e
goes s HubReceive i e = hub_receives (hub_takes s) e (hub_takes_lem s i)
goes s SeatReceive i e = seat_receives (seat_takes s) e (seat_takes_lem s i)
goes s HubSend i e = hub_sends_one e
goes s SeatSend i e = seat_sends_one e
goes s Tick i e = ticks e
goes s Round i e = round_goes s i e

pub total : Total
total s c i = cond_both (lent_short c s) _ _ (λ d. Step s c d) (λ e. short_buffer c e) (λ e. goes s c i e)
