-- How the hub's phase, its log and the packets that it has written go on from call to call, within one connection.
use Rattle.std.proofs.Common.{◌≡◌, ℕ, Bool, false, List, [], ◌∷◌, Option, refl, sym, ap, subst}
use Rattle.std.proofs.lemmas.Bool.{cond_both}
use Rattle.wire.specs.declared.faults.Fault.{Fault}
use Rattle.wire.specs.declared.statuses.Status.{Status}
use Rattle.wire.specs.declared.goodbyes.GoodByeReason.{GoodByeReason}
use Rattle.wire.specs.declared.goodbyes.GoodByeReason.TheVariants as G
use Rattle.packet.specs.Values.{Value, encode, good_bye}
use Rattle.line.specs.Lines.{fits}
use Rattle.message_log.specs.Meaning.{Meaning, added, begun}
use Rattle.rules.specs.declared.phases.HubPhase.{HubPhase}
use Rattle.rules.specs.declared.phases.HubPhase.TheVariants.{Shut, Waiting, Answering, Rejecting, Serving, Filling}
use Rattle.rules.specs.declared.phases.How.{How}
use Rattle.rules.specs.declared.answers.Received.{Received}
use Rattle.rules.specs.declared.answers.Report.{Report}
use Rattle.rules.specs.State.{HubEnd, Running, Pair, Outcome}
use Rattle.rules.specs.Changes.{hub_leaves, hub_writes, hub_took}
use Rattle.rules.specs.Frames.{lack, given, left}
use Rattle.rules.specs.Hub.{hub_gone, Sending, hub_sends}
use Rattle.rules.specs.Seat.{seat_sends}
use Rattle.rules.specs.Calls.{Done, busy, counted, hub_timed, tick}
use Rattle.rules.specs.declared.answers.Answer.TheVariants as Answer
use Rattle.rules.specs.Rounds.{HubReceives, SeatReceives, seat_deaf, seat_hears_bytes, Drains, ends, more, Rounds, Call, Connect, Effect, Step, short_buffer, connects, cuts, publishes, finishes, rolls, tells, says, leaves, hub_receives, seat_receives, hub_sends_one, seat_sends_one, ticks, rounds}
use Rattle.rules.proofs.Sides.{seat_hears_side, seat_sends_core}
use Rattle.promises.specs.Completes.{begins_one, with_written}
use Rattle.promises.proofs.Cases.{Tried, refused, granted, connect_tried, publish_tried, finish_tried, roll_tried, tell_tried, say_tried, leave_tried, HubActed, hub_bad_lem, hub_admits_lem, hub_rejects, hub_refills, hub_leaves_lem, hub_stays, hub_acted, HubHeard, hub_refused, hub_none, hub_part, hub_fault, hub_whole, hub_heard_lem, HubOwes, HubSent, sent_refused, sent_none, sent_all_lem, sent_packet, hub_sent_lem, HubTimed, hub_lasts, hub_lost, hub_late, hub_timed_lem, SeatTimed, seat_lasts, seat_lost, seat_timed_lem}

-- the seat leaves the hub alone
pub seat_receives_same : (s : Pair) (o : Outcome Received) → SeatReceives s o → (o.after.hub ≡ s.hub) × (o.after.running ≡ s.running)
seat_receives_same s _ (seat_deaf e) = (refl, refl)
seat_receives_same s _ (seat_hears_bytes room e f) =
    let q = seat_hears_side (given s.down (lack s.seat.frame)) (left s.down (lack s.seat.frame) room) s s in
    (ap (λ o. o.after.hub) q, ap (λ o. o.after.running) q)

pub seat_sends_same : (s : Pair) → ((seat_sends s).after.hub ≡ s.hub) × ((seat_sends s).after.running ≡ s.running)
seat_sends_same s = let q = seat_sends_core s s in (ap (λ o. o.after.hub) q, ap (λ o. o.after.running) q)

-- A fact of the packets written, the hub's phase and its log that every move keeps is kept by every call.
module _ (I : List Value → HubPhase → Meaning → Type 0)
    (shuts : (vs : List Value) (h : HubPhase) (k : Meaning) → I vs h k → I vs Shut k)
    (admits : (vs : List Value) (n : ℕ) (k : Meaning) → I vs Waiting k → I vs (Answering n) k)
    (rejects : (vs : List Value) (t : Status) (k : Meaning) → I vs Waiting k → I vs (Rejecting t) k)
    (fills : (vs : List Value) (q n a e : ℕ) (d : Bool) (k : Meaning) → I vs (Serving q n d) k → I vs (Filling a e) k)
    (posts : (vs : List Value) (s : Pair) (v : Value) (t : Pair) → HubOwes s v t → I vs s.hub.phase s.running.log → I (v ∷ vs) t.hub.phase t.running.log)
    (adds : (vs : List Value) (h : HubPhase) (k : Meaning) (m : List ℕ) → I vs h k → I vs h (added k m))
    (turns : (vs : List Value) (h : HubPhase) (k : Meaning) (x : ℕ) → busy h ≡ false → I vs h k → I vs h (begun k x)) where
  abbrev pub At : List Value → Pair → Type 0
  At vs s = I vs s.hub.phase s.running.log

  at_same : (vs : List Value) (s t : Pair) → (t.hub ≡ s.hub) × (t.running ≡ s.running) → At vs s → At vs t
  at_same vs s t (h, r) i =
      subst (λ (x : Running). I vs t.hub.phase x.log) (sym r) (subst (λ (x : HubEnd). I vs x.phase s.running.log) (sym h) i)

  at_gone : (vs : List Value) (r : GoodByeReason) (s : Pair) → At vs s → At vs (hub_gone r s)
  at_gone vs r s i =
      let j = shuts vs s.hub.phase s.running.log i in
      cond_both (fits s.down (encode (good_bye r []))) (hub_writes (good_bye r []) s) s (λ u. At vs (hub_leaves Shut u)) (λ t. j) (λ t. j)

  acted : (vs : List Value) (s : Pair) (h : HubPhase) (v : Value) (o : Outcome Received) → s.hub.phase ≡ h → HubActed s h v o → At vs s → At vs o.after
  acted vs s _ _ _ ph (hub_bad_lem h v fault) i = at_gone vs G.BadPacket s i
  acted vs s _ _ _ ph (hub_admits_lem v u c p x n j st) i = admits vs n s.running.log (subst (λ h. I vs h s.running.log) ph i)
  acted vs s _ _ _ ph (hub_rejects v u c p x n t ne st) i = rejects vs t s.running.log (subst (λ h. I vs h s.running.log) ph i)
  acted vs s _ _ _ ph (hub_refills q n a e d z) i = fills vs q n a _ d s.running.log (subst (λ h. I vs h s.running.log) ph i)
  acted vs s _ _ _ ph (hub_leaves_lem h v l) i = shuts vs s.hub.phase s.running.log i
  acted vs s _ _ _ ph (hub_stays h v r nl) i = i

  heard : (vs : List Value) (s : Pair) (o : Outcome Received) → HubHeard s o → At vs s → At vs o.after
  heard vs s _ (hub_refused l) i = i
  heard vs s _ (hub_none u l tk) i = i
  heard vs s _ (hub_part x xs u l tk ju) i = i
  heard vs s _ (hub_fault x xs u fault l tk ju) i = at_gone vs G.BadPacket (hub_took (x ∷ xs) [] u s) i
  heard vs s _ (hub_whole x xs u v l tk ju) i = acted vs (hub_took (x ∷ xs) [] u s) s.hub.phase v _ refl (hub_acted (hub_took (x ∷ xs) [] u s) s.hub.phase v) i

  hub_receives_at : (vs : List Value) (s : Pair) (o : Outcome Received) → HubReceives s o → At vs s → At vs o.after
  hub_receives_at vs s o r = heard vs s o (hub_heard_lem s o r)

  seat_receives_at : (vs : List Value) (s : Pair) (o : Outcome Received) → SeatReceives s o → At vs s → At vs o.after
  seat_receives_at vs s o r = at_same vs s o.after (seat_receives_same s o r)

  sent : (vs : List Value) (s : Pair) (x : Sending) → HubSent s x → At vs s → At (with_written x.wrote vs) x.after
  sent vs s _ (sent_refused r) i = i
  sent vs s _ sent_none i = i
  sent vs s _ sent_all_lem i = shuts vs s.hub.phase s.running.log i
  sent vs s _ (sent_packet v t d) i = posts vs s v t d i

  drains_at : (vs : List Value) (R : Pair → Outcome Received → Type 0) → ((s : Pair) (o : Outcome Received) → R s o → At vs s → At vs o.after) →
      {s : Pair} {n : ℕ} {f : Option Fault} {t : Pair} → Drains R s n f t → At vs s → At vs t
  drains_at vs R k (ends s o f r g) i = k s o r i
  drains_at vs R k (more s o j n f t r g rest) i = drains_at vs R k rest (k s o r i)

  pub heard_at : (vs : List Value) (s : Pair) (report : Report) (w : Option Value) (t : Pair) (r : Rounds s report w t) → At vs s → At vs r.heard
  heard_at vs s report w t r i = drains_at vs HubReceives (hub_receives_at vs) r.hub_drains i

  round_at : (vs : List Value) (s : Pair) (report : Report) (w : Option Value) (t : Pair) → Rounds s report w t → At vs s → At (with_written w vs) t
  round_at vs s report w t r i =
      let a = sent vs r.heard (hub_sends r.heard) (hub_sent_lem r.heard) (heard_at vs s report w t r i) in
      let b = subst (λ x. At (with_written x vs) (hub_sends r.heard).after) (sym r.hub_wrote) a in
      let c = drains_at (with_written w vs) SeatReceives (seat_receives_at (with_written w vs)) r.seat_drains b in
      subst (At (with_written w vs)) (sym r.seat_sent) (at_same (with_written w vs) r.taken (seat_sends r.taken).after (seat_sends_same r.taken) c)

  timed : (vs : List Value) (s t : Pair) → HubTimed s t → At vs s → At vs t
  timed vs s _ hub_lasts i = i
  timed vs s _ hub_lost i = shuts vs s.hub.phase s.running.log i
  timed vs s _ hub_late i = at_gone vs G.LoginTimeout s i

  seat_timed_at : (vs : List Value) (s t : Pair) → SeatTimed s t → At vs s → At vs t
  seat_timed_at vs s _ seat_lasts i = i
  seat_timed_at vs s _ seat_lost i = i

  tried : (vs : List Value) (s t : Pair) (Fact : Type 0) (r : Done) → Tried s t Fact r → (Fact → At vs t) → At vs s → At vs r.after
  tried vs s t Fact _ (refused x) f i = i
  tried vs s t Fact _ (granted x) f i = f x

  connecting : (vs : List Value) (how : How) (s t : Pair) (Fact : Type 0) (r : Done) → Tried s t Fact r → begins_one (Connect how) (Answer.Done r.answer) ≡ false → At vs s → At vs r.after
  connecting vs how s t Fact _ (refused x) n i = i
  connecting vs how s t Fact _ (granted x) n i = (cc)

  pub step_at : (vs : List Value) (s : Pair) (c : Call) (d : Effect) → Step s c d → begins_one c d.answer ≡ false → At vs s → At (with_written d.wrote vs) d.after
  step_at vs s _ _ (short_buffer c e) n i = i
  step_at vs s _ _ (connects how e) n i = connecting vs how s _ _ _ (connect_tried how s) n i
  step_at vs s _ _ cuts n i = shuts vs s.hub.phase s.running.log i
  step_at vs s _ _ (publishes m) n i = tried vs s _ _ _ (publish_tried m s) (λ f. adds vs s.hub.phase s.running.log m i) i
  step_at vs s _ _ finishes n i = tried vs s _ _ _ (finish_tried s) (λ f. i) i
  step_at vs s _ _ rolls n i = tried vs s _ _ _ (roll_tried s) (λ f. turns vs s.hub.phase s.running.log _ f.0 i) i
  step_at vs s _ _ (tells m e) n i = tried vs s _ _ _ (tell_tried m s) (λ f. i) i
  step_at vs s _ _ (says m e) n i = tried vs s _ _ _ (say_tried m s) (λ f. i) i
  step_at vs s _ _ (leaves e) n i = tried vs s _ _ _ (leave_tried s) (λ f. i) i
  step_at vs s _ _ (hub_receives o e r) n i = hub_receives_at vs s o r i
  step_at vs s _ _ (seat_receives o e r) n i = seat_receives_at vs s o r i
  step_at vs s _ _ (hub_sends_one e) n i = sent vs s (hub_sends s) (hub_sent_lem s) i
  step_at vs s _ _ (seat_sends_one e) n i = at_same vs s (seat_sends s).after (seat_sends_same s) i
  step_at vs s _ _ (ticks e) n i =
      let t : Pair = hub_timed s.hub.phase (counted s) in
      seat_timed_at vs t (tick s) (seat_timed_lem t) (timed vs (counted s) t (hub_timed_lem s.hub.phase (counted s)) i)
  step_at vs s _ _ (rounds report w t e r) n i = round_at vs s report w t r i
