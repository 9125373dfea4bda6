-- Nothing but the rooms after takes is free.
use Rattle.std.proofs.Common.{◌≡◌, ℕ, ◌+◌, true, false, List, [], ◌++◌, None, Ok, Option, sym, refl, ap, ◌∙◌, subst, append_assoc}
use Rattle.std.proofs.lemmas.List.{append-nil}
use Rattle.wire.specs.declared.faults.Fault.{Fault}
use Rattle.wire.specs.declared.refusals.Refusal.TheVariants.{ShortBuffer}
use Rattle.packet.specs.Values.{Value}
use Rattle.rules.specs.declared.answers.Received.{Received}
use Rattle.rules.specs.declared.answers.Heard.{Heard}
use Rattle.rules.specs.declared.answers.Report.{Report}
use Rattle.rules.specs.State.{Pair, Outcome}
use Rattle.rules.specs.Frames.{lack, given, left}
use Rattle.rules.specs.Hub.{hub_hears, hub_sends}
use Rattle.rules.specs.Seat.{seat_hears, seat_sends}
use Rattle.rules.specs.Calls.{done, connect, cut, publish, finish, roll, tell, say, leave, tick}
use Rattle.rules.specs.declared.answers.Answer.TheVariants as Answer
use Rattle.rules.specs.Rounds.{HubReceives, hub_deaf, hub_hears_bytes, SeatReceives, seat_deaf, seat_hears_bytes, going, Drains, ends, more, Rounds, Call, Connect, Cut, Publish, Finish, Roll, Tell, Say, Leave, HubReceive, SeatReceive, HubSend, SeatSend, Tick, Round, refusal, lent_short, Effect, did, took, Step, short_buffer, connects, cuts, publishes, finishes, rolls, tells, says, leaves, hub_receives, seat_receives, hub_sends_one, seat_sends_one, ticks, rounds}
use Rattle.rules.specs.Laws.{roomless, Alike, OneOutcome, hub_gave, seat_gave, drains_gave, gave, OnlyRoomsFree}
use Rattle.rules.proofs.Blind.{hub_hears_blind, seat_hears_blind}

-- two receives of one end from one pair: their outcomes are alike, and the same if they left the same room
pub record Close (o p : Outcome Received) : Type 0 where
  pub answer : o.answer ≡ p.answer
  pub after : roomless o.after ≡ roomless p.after

hub_close : (s : Pair) (o p : Outcome Received) → HubReceives s o → HubReceives s p → Close o p
hub_close s _ _ (hub_deaf e) (hub_deaf f) = record { answer = refl; after = refl }
hub_close s _ _ (hub_deaf e) (hub_hears_bytes room f free) = (cc)
hub_close s _ _ (hub_hears_bytes room e free) (hub_deaf f) = (cc)
hub_close s _ _ (hub_hears_bytes a e free) (hub_hears_bytes b f free') =
    let n : ℕ = lack s.hub.frame in
    let x = hub_hears_blind (given s.up n) (left s.up n a) s in
    let y = hub_hears_blind (given s.up n) (left s.up n b) s in
    record { answer = ap (λ o. o.answer) x ∙ sym (ap (λ o. o.answer) y); after = ap (λ o. roomless o.after) x ∙ sym (ap (λ o. roomless o.after) y) }

seat_close : (s : Pair) (o p : Outcome Received) → SeatReceives s o → SeatReceives s p → Close o p
seat_close s _ _ (seat_deaf e) (seat_deaf f) = record { answer = refl; after = refl }
seat_close s _ _ (seat_deaf e) (seat_hears_bytes room f free) = (cc)
seat_close s _ _ (seat_hears_bytes room e free) (seat_deaf f) = (cc)
seat_close s _ _ (seat_hears_bytes a e free) (seat_hears_bytes b f free') =
    let n : ℕ = lack s.seat.frame in
    let x = seat_hears_blind (given s.down n) (left s.down n a) s in
    let y = seat_hears_blind (given s.down n) (left s.down n b) s in
    record { answer = ap (λ o. o.answer) x ∙ sym (ap (λ o. o.answer) y); after = ap (λ o. roomless o.after) x ∙ sym (ap (λ o. roomless o.after) y) }

hub_same : (s : Pair) (o p : Outcome Received) (x : HubReceives s o) (y : HubReceives s p) (xs ys : List ℕ) → hub_gave s o x ++ xs ≡ hub_gave s p y ++ ys → (o ≡ p) × (xs ≡ ys)
hub_same s _ _ (hub_deaf e) (hub_deaf f) xs ys q = (refl, q)
hub_same s _ _ (hub_deaf e) (hub_hears_bytes room f free) xs ys q = (cc)
hub_same s _ _ (hub_hears_bytes room e free) (hub_deaf f) xs ys q = (cc)
hub_same s _ _ (hub_hears_bytes a e free) (hub_hears_bytes b f free') xs ys q =
    let n : ℕ = lack s.hub.frame in
    let r : a ≡ b = cc in (ap (λ i. hub_hears (given s.up n) (left s.up n i) s) r, cc)

seat_same : (s : Pair) (o p : Outcome Received) (x : SeatReceives s o) (y : SeatReceives s p) (xs ys : List ℕ) → seat_gave s o x ++ xs ≡ seat_gave s p y ++ ys → (o ≡ p) × (xs ≡ ys)
seat_same s _ _ (seat_deaf e) (seat_deaf f) xs ys q = (refl, q)
seat_same s _ _ (seat_deaf e) (seat_hears_bytes room f free) xs ys q = (cc)
seat_same s _ _ (seat_hears_bytes room e free) (seat_deaf f) xs ys q = (cc)
seat_same s _ _ (seat_hears_bytes a e free) (seat_hears_bytes b f free') xs ys q =
    let n : ℕ = lack s.seat.frame in
    let r : a ≡ b = cc in (ap (λ i. seat_hears (given s.down n) (left s.down n i) s) r, cc)

-- two drains from one pair that left the same rooms
pub record Same (n m : ℕ) (f g : Option Fault) (t u : Pair) (xs ys : List ℕ) : Type 0 where
  pub packets : n ≡ m
  pub fault : f ≡ g
  pub after : t ≡ u
  pub rest : xs ≡ ys

module _ (R : Pair → Outcome Received → Type 0) (rooms : (s : Pair) (o : Outcome Received) → R s o → List ℕ)
    (same : (s : Pair) (o p : Outcome Received) (x : R s o) (y : R s p) (xs ys : List ℕ) → rooms s o x ++ xs ≡ rooms s p y ++ ys → (o ≡ p) × (xs ≡ ys)) where
  abbrev Fixed : (s : Pair) (n : ℕ) (f : Option Fault) (t : Pair) (xs gs : List ℕ) → Type 0
  Fixed s n f t xs gs = (m : ℕ) (g : Option Fault) (u : Pair) (y : Drains R s m g u) (ys : List ℕ) → gs ++ xs ≡ drains_gave rooms y ++ ys → Same n m f g t u xs ys

  pub drains_same : (s : Pair) (n : ℕ) (f : Option Fault) (t : Pair) (x : Drains R s n f t) (xs : List ℕ) → Fixed s n f t xs (drains_gave rooms x)
  drains_same _ _ _ _ (ends s o f r e) xs _ _ _ (ends _ p g r' e') ys q =
      let w = same s o p r r' xs ys q in
      let a : going o.answer ≡ going p.answer = ap (λ o. going o.answer) w.0 in
      record { packets = refl; fault = cc; after = ap (λ o. o.after) w.0; rest = w.1 }
  drains_same _ _ _ _ (ends s o f r e) xs _ _ _ (more _ p k m g u r' e' rest) ys q =
      let w = same s o p r r' xs (drains_gave rooms rest ++ ys) (q ∙ append_assoc (rooms s p r') (drains_gave rooms rest) ys) in
      let a : going o.answer ≡ going p.answer = ap (λ o. going o.answer) w.0 in
      (cc)
  drains_same _ _ _ _ (more s o k n f t r e rest) xs _ _ _ (ends _ p g r' e') ys q =
      let w = same s o p r r' (drains_gave rooms rest ++ xs) ys (sym (append_assoc (rooms s o r) (drains_gave rooms rest) xs) ∙ q) in
      let a : going o.answer ≡ going p.answer = ap (λ o. going o.answer) w.0 in
      (cc)
  drains_same _ _ _ _ (more s o k n f t r e rest) xs _ _ _ (more _ p l m g u r' e' rest') ys q =
      let w = same s o p r r' (drains_gave rooms rest ++ xs) (drains_gave rooms rest' ++ ys) (sym (append_assoc (rooms s o r) (drains_gave rooms rest) xs) ∙ q ∙ append_assoc (rooms s p r') (drains_gave rooms rest') ys) in
      let a : going o.answer ≡ going p.answer = ap (λ o. going o.answer) w.0 in
      let i : k ≡ l = cc in
      let z = subst (λ v. Fixed v n f t xs (drains_gave rooms rest)) (ap (λ o. o.after) w.0) (drains_same o.after n f t rest xs) m g u rest' ys w.1 in
      record { packets = ap (λ j. j + n) i ∙ ap (λ j. l + j) z.packets; fault = z.fault; after = z.after; rest = z.rest }

rounds_same : (s : Pair) (report : Report) (w : Option Value) (t : Pair) (x : Rounds s report w t) (report' : Report) (w' : Option Value) (t' : Pair) (y : Rounds s report' w' t') →
    drains_gave hub_gave x.hub_drains ++ drains_gave seat_gave x.seat_drains ≡ drains_gave hub_gave y.hub_drains ++ drains_gave seat_gave y.seat_drains →
    (report ≡ report') × (w ≡ w') × (t ≡ t')
rounds_same s report w t x report' w' t' y q =
    let xs : List ℕ = drains_gave seat_gave x.seat_drains in
    let ys : List ℕ = drains_gave seat_gave y.seat_drains in
    let h = drains_same HubReceives hub_gave hub_same s _ _ _ x.hub_drains xs _ _ _ y.hub_drains ys q in
    let z = subst (λ v. Fixed SeatReceives seat_gave seat_same (hub_sends v).after report.seat.packets report.seat.fault x.taken [] xs) h.after
    (drains_same SeatReceives seat_gave seat_same _ _ _ _ x.seat_drains []) _ _ _ y.seat_drains [] (append-nil xs ∙ h.rest ∙ sym (append-nil ys)) in (
      ap (λ (i : Heard). (let r : Report = record { hub = i; seat = report.seat } in r)) (heard h.packets h.fault) ∙ ap (λ (i : Heard). (let r : Report = record { hub = report'.hub; seat = i } in r)) (heard z.packets z.fault),
      x.hub_wrote ∙ ap (λ v. (hub_sends v).wrote) h.after ∙ sym y.hub_wrote,
      x.seat_sent ∙ ap (λ v. (seat_sends v).after) z.after ∙ sym y.seat_sent,
    )
  where
    heard : {n m : ℕ} {f g : Option Fault} → n ≡ m → f ≡ g → ◌≡◌ {A = Heard} (record { packets = n; fault = f }) (record { packets = m; fault = g })
    heard a b = cc

-- a call to which no short buffer is lent: what came of it, and the rooms that it left
abbrev WentSo : Pair → Call → Effect → List ℕ → Type 0
WentSo s (Connect how) d gs = d ≡ did (connect how s)
WentSo s Cut d gs = d ≡ did (done (cut s))
WentSo s (Publish m) d gs = d ≡ did (publish m s)
WentSo s Finish d gs = d ≡ did (finish s)
WentSo s Roll d gs = d ≡ did (roll s)
WentSo s (Tell m) d gs = d ≡ did (tell m s)
WentSo s (Say m) d gs = d ≡ did (say m s)
WentSo s Leave d gs = d ≡ did (leave s)
WentSo s HubReceive d gs = (o : Outcome Received) × (x : HubReceives s o) × (d ≡ took o) × (gs ≡ hub_gave s o x)
WentSo s SeatReceive d gs = (o : Outcome Received) × (x : SeatReceives s o) × (d ≡ took o) × (gs ≡ seat_gave s o x)
WentSo s HubSend d gs = d ≡ record { answer = Answer.Sent (hub_sends s).answer; wrote = (hub_sends s).wrote; after = (hub_sends s).after }
WentSo s SeatSend d gs = d ≡ record { answer = Answer.Sent (seat_sends s).answer; wrote = None; after = (seat_sends s).after }
WentSo s Tick d gs = d ≡ did (done (tick s))
WentSo s Round d gs =
    (report : Report) × (w : Option Value) × (t : Pair) × (x : Rounds s report w t) × (d ≡ record { answer = Answer.Round (Ok report); wrote = w; after = t })
    × (gs ≡ drains_gave hub_gave x.hub_drains ++ drains_gave seat_gave x.seat_drains)

data Sorted (s : Pair) (c : Call) (d : Effect) (gs : List ℕ) : Type 0 where
  stopped : lent_short c s ≡ true → d ≡ record { answer = refusal c ShortBuffer; wrote = None; after = s } → Sorted s c d gs
  went : lent_short c s ≡ false → WentSo s c d gs → Sorted s c d gs

sorted : (s : Pair) (c : Call) (d : Effect) (x : Step s c d) → Sorted s c d (gave x)
sorted s _ _ (short_buffer c e) = stopped e refl
sorted s _ _ (connects how e) = went e refl
sorted s _ _ cuts = went refl refl
sorted s _ _ (publishes m) = went refl refl
sorted s _ _ finishes = went refl refl
sorted s _ _ rolls = went refl refl
sorted s _ _ (tells m e) = went e refl
sorted s _ _ (says m e) = went e refl
sorted s _ _ (leaves e) = went e refl
sorted s _ _ (hub_receives o e r) = went e (o, r, refl, refl)
sorted s _ _ (seat_receives o e r) = went e (o, r, refl, refl)
sorted s _ _ (hub_sends_one e) = went e refl
sorted s _ _ (seat_sends_one e) = went e refl
sorted s _ _ (ticks e) = went e refl
sorted s _ _ (rounds report w t e r) = went e (report, w, t, r, refl, refl)

-- what is to be shown of two effects of one call
pub record Agree (c : Call) (d e : Effect) (gs hs : List ℕ) : Type 0 where
  pub alike : (c ≡ Round → ⊥) → Alike d e
  pub same : gs ≡ hs → d ≡ e

agree_same : {c : Call} {d e : Effect} {gs hs : List ℕ} → d ≡ e → Agree c d e gs hs
agree_same q = record { alike = λ n. record { answer = ap (λ d. d.answer) q; wrote = ap (λ d. d.wrote) q; after = ap (λ d. roomless d.after) q }; same = λ g. q }

agree_close : {c : Call} {d e : Effect} {gs hs : List ℕ} (o p : Outcome Received) → Close o p → (gs ≡ hs → o ≡ p) → d ≡ took o → e ≡ took p → Agree c d e gs hs
agree_close o p k h x y =
    record {
      alike = λ n. record { answer = ap (λ d. d.answer) x ∙ ap Answer.Received k.answer ∙ sym (ap (λ d. d.answer) y); wrote = ap (λ d. d.wrote) x ∙ sym (ap (λ d. d.wrote) y); after = ap (λ d. roomless d.after) x ∙ k.after ∙ sym (ap (λ d. roomless d.after) y) };
      same = λ g. x ∙ ap took (h g) ∙ sym y;
    }

went_agree : (s : Pair) (c : Call) (d e : Effect) (gs hs : List ℕ) → WentSo s c d gs → WentSo s c e hs → Agree c d e gs hs
went_agree s (Connect how) d e gs hs x y = agree_same (x ∙ sym y)
went_agree s Cut d e gs hs x y = agree_same (x ∙ sym y)
went_agree s (Publish m) d e gs hs x y = agree_same (x ∙ sym y)
went_agree s Finish d e gs hs x y = agree_same (x ∙ sym y)
went_agree s Roll d e gs hs x y = agree_same (x ∙ sym y)
went_agree s (Tell m) d e gs hs x y = agree_same (x ∙ sym y)
went_agree s (Say m) d e gs hs x y = agree_same (x ∙ sym y)
went_agree s Leave d e gs hs x y = agree_same (x ∙ sym y)
went_agree s HubReceive d e gs hs (o, a, x, u) (p, b, y, v) =
    agree_close o p (hub_close s o p a b) (λ g. (hub_same s o p a b [] [] (ap (λ l. l ++ []) (sym u ∙ g ∙ v))).0) x y
went_agree s SeatReceive d e gs hs (o, a, x, u) (p, b, y, v) =
    agree_close o p (seat_close s o p a b) (λ g. (seat_same s o p a b [] [] (ap (λ l. l ++ []) (sym u ∙ g ∙ v))).0) x y
went_agree s HubSend d e gs hs x y = agree_same (x ∙ sym y)
went_agree s SeatSend d e gs hs x y = agree_same (x ∙ sym y)
went_agree s Tick d e gs hs x y = agree_same (x ∙ sym y)
went_agree s Round d e gs hs (report, w, t, a, x, u) (report', w', t', b, y, v) =
    record {
      alike = λ n. absurd (n refl);
      same = λ g. let z = rounds_same s report w t a report' w' t' b (sym u ∙ g ∙ v) in x ∙ effect z.0 z.1 z.2 ∙ sym y;
    }
  where
    effect : {r r' : Report} {w w' : Option Value} {t t' : Pair} → r ≡ r' → w ≡ w' → t ≡ t' → ◌≡◌ {A = Effect} (record { answer = Answer.Round (Ok r); wrote = w; after = t }) (record { answer = Answer.Round (Ok r'); wrote = w'; after = t' })
    effect a b c = cc

agree : (s : Pair) (c : Call) (d e : Effect) (gs hs : List ℕ) → Sorted s c d gs → Sorted s c e hs → Agree c d e gs hs
agree s c d e gs hs (stopped a x) (stopped b y) = agree_same (x ∙ sym y)
agree s c d e gs hs (stopped a x) (went b y) = (cc)
agree s c d e gs hs (went a x) (stopped b y) = (cc)
agree s c d e gs hs (went a x) (went b y) = went_agree s c d e gs hs x y

pub one_outcome : OneOutcome
one_outcome s c d e n x y = (agree s c d e (gave x) (gave y) (sorted s c d x) (sorted s c e y)).alike n

pub only_rooms_free : OnlyRoomsFree
only_rooms_free s c d e x y q = (agree s c d e (gave x) (gave y) (sorted s c d x) (sorted s c e y)).same q
