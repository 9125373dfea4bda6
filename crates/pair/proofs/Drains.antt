-- How receives, one after the other, come to what an end drains; and what a step of one call tells.
use Rattle.std.proofs.Common.{◌≡◌, ℕ, ◌+◌, ◌≤◌, false, ◌||◌, List, length, Ok, Err, Option, Result, sym, refl, subst, add_assoc, zero-add, add-zero, arith}
use Rattle.std.proofs.lemmas.Bool.{or_from, or_parts, le-ltb, ltb-false}
use Rattle.wire.specs.declared.faults.Fault.{Fault}
use Rattle.wire.specs.declared.refusals.Refusal.{Refusal}
use Rattle.wire.specs.Limits.{packet_limit}
use Rattle.wire.specs.declared.letters.Letter.{Letter}
use Rattle.rules.specs.declared.answers.Received.{Received}
use Rattle.rules.specs.declared.answers.Report.{Report}
use Rattle.rules.specs.declared.answers.Received.TheVariants.{Nothing, Part, Acted, Message}
use Rattle.pair.specs.Lent.{any_short}
use Rattle.rules.specs.State.{Buffers, Pair, Outcome}
use Rattle.rules.specs.Laws.{NoShorter}
use Rattle.rules.specs.Hub.{hub_sends}
use Rattle.rules.specs.Seat.{seat_sends}
use Rattle.rules.specs.declared.answers.Answer.TheVariants as Answer
use Rattle.rules.specs.Rounds.{HubReceives, SeatReceives, HubReceive, SeatReceive, HubSend, SeatSend, Round, going, stop, continue, Drains, ends, more, too_short, lent_short, Effect, Step, short_buffer, hub_receives, seat_receives, hub_sends_one, seat_sends_one, rounds}
use Rattle.pair.specs.Steps.{ReceivesAtHub, ReceivesAtSeat, SendsFromHub, SendsFromSeat, GoesRound}

-- so many packets were acted on, from the first pair to the second, and the receives go on
pub record Ahead (R : Pair → Outcome Received → Type 0) (s : Pair) (k : ℕ) (t : Pair) : Type 0 where
  pub then : (n : ℕ) (fault : Option Fault) (u : Pair) → Drains R t n fault u → Drains R s (k + n) fault u

module _ (R : Pair → Outcome Received → Type 0) where
  pub ahead_none : (s : Pair) → Ahead R s 0 s
  ahead_none s = record { then = λ n f u d. subst (λ m. Drains R s m f u) (sym (zero-add n)) d }

  pub ahead_more : (s t : Pair) (o : Outcome Received) (k j : ℕ) → Ahead R s k t → R t o → going o.answer ≡ continue j → Ahead R s (k + j) o.after
  ahead_more s t o k j a r g = record { then = λ n f u d. subst (λ m. Drains R s m f u) (sym (add_assoc k j n)) (a.then (j + n) f u (more t o j n f u r g d)) }

  pub ahead_ends : (s t : Pair) (o : Outcome Received) (k : ℕ) (f : Option Fault) → Ahead R s k t → R t o → going o.answer ≡ stop f → Drains R s k f o.after
  ahead_ends s t o k f a r g = subst (λ m. Drains R s m f o.after) (add-zero k) (a.then 0 f o.after (ends t o f r g))

-- a buffer that holds the longest packet is not too short
pub long : (buffer : List ℕ) → packet_limit ≤ length buffer → too_short buffer ≡ false
long buffer h = le-ltb (length buffer) packet_limit h

pub both_long : (a b : List ℕ) → packet_limit ≤ length a → packet_limit ≤ length b → too_short a || too_short b ≡ false
both_long a b h k = or_from _ _ (long a h) (long b k)

trans : {a b c : ℕ} → a ≤ b → b ≤ c → a ≤ c
trans f g = omega arith

-- buffers of which none is too short
pub record AllLong (b : Buffers) : Type 0 where
  pub hub_frame : packet_limit ≤ length b.hub_frame
  pub seat_frame : packet_limit ≤ length b.seat_frame
  pub out : packet_limit ≤ length b.out

pub all_long : (b : Buffers) → any_short b ≡ false → AllLong b
all_long b e =
    let p = or_parts (too_short b.hub_frame) (too_short b.seat_frame || too_short b.out) e in
    let q = or_parts (too_short b.seat_frame) (too_short b.out) p.1 in
    record { hub_frame = ltb-false _ packet_limit p.0; seat_frame = ltb-false _ packet_limit q.0; out = ltb-false _ packet_limit q.1 }

pub longer : {b c : Buffers} → NoShorter b c → AllLong b → AllLong c
longer f a = record { hub_frame = trans a.hub_frame f.hub_frame; seat_frame = trans a.seat_frame f.seat_frame; out = trans a.out f.out }

pub none_short : {b : Buffers} → AllLong b → any_short b ≡ false
none_short {b} a = or_from _ _ (long b.hub_frame a.hub_frame) (both_long b.seat_frame b.out a.seat_frame a.out)

pub still_long : {b c : Buffers} → NoShorter b c → any_short b ≡ false → any_short c ≡ false
still_long {b} f e = none_short (longer f (all_long b e))

-- buffers that are no shorter than others that are no shorter than these
pub no_shorter : {a b c : Buffers} → NoShorter a b → NoShorter b c → NoShorter a c
no_shorter f g = record { hub_frame = trans f.hub_frame g.hub_frame; seat_frame = trans f.seat_frame g.seat_frame; out = trans f.out g.out }

pub as_long : (b : Buffers) → NoShorter b b
as_long b = record { hub_frame = omega arith; seat_frame = omega arith; out = omega arith }

-- a receive to which no short buffer is lent
hub_step : (s : Pair) (d : Effect) (answer : Result Received Refusal) → lent_short HubReceive s ≡ false → Step s HubReceive d → d.answer ≡ Answer.Received answer → HubReceives s (record { answer = answer; after = d.after })
hub_step s _ a f (short_buffer _ e) g = (cc)
hub_step s _ a f (hub_receives o e r) g = let h : o.answer ≡ a = cc in subst (λ x. HubReceives s (record { answer = x; after = o.after })) h r

pub hub_received : {s t : Pair} {answer : Result Received Refusal} → ReceivesAtHub s answer t → packet_limit ≤ length s.buffers.hub_frame → packet_limit ≤ length s.buffers.out →
    HubReceives s (record { answer = answer; after = t })
hub_received {s} {t} {answer} h f o = hub_step s _ answer (both_long s.buffers.hub_frame s.buffers.out f o) h refl

seat_step : (s : Pair) (d : Effect) (answer : Result Received Refusal) → lent_short SeatReceive s ≡ false → Step s SeatReceive d → d.answer ≡ Answer.Received answer → SeatReceives s (record { answer = answer; after = d.after })
seat_step s _ a f (short_buffer _ e) g = (cc)
seat_step s _ a f (seat_receives o e r) g = let h : o.answer ≡ a = cc in subst (λ x. SeatReceives s (record { answer = x; after = o.after })) h r

pub seat_received : {s t : Pair} {answer : Result Received Refusal} → ReceivesAtSeat s answer t → packet_limit ≤ length s.buffers.seat_frame → packet_limit ≤ length s.buffers.out →
    SeatReceives s (record { answer = answer; after = t })
seat_received {s} {t} {answer} h f o = seat_step s _ answer (both_long s.buffers.seat_frame s.buffers.out f o) h refl

-- a send to which no short buffer is lent, granted or refused, leaves the pair as the rule says
hub_sent_by : (s : Pair) (d : Effect) → lent_short HubSend s ≡ false → Step s HubSend d → d.after ≡ (hub_sends s).after
hub_sent_by s _ f (short_buffer _ e) = (cc)
hub_sent_by s _ f (hub_sends_one e) = refl

pub hub_sent : (s t : Pair) (answer : Result (Option Letter) Refusal) → lent_short HubSend s ≡ false → SendsFromHub s answer t → t ≡ (hub_sends s).after
hub_sent s t a f (wrote, h) = hub_sent_by s _ f h

seat_sent_by : (s : Pair) (d : Effect) → lent_short SeatSend s ≡ false → Step s SeatSend d → d.after ≡ (seat_sends s).after
seat_sent_by s _ f (short_buffer _ e) = (cc)
seat_sent_by s _ f (seat_sends_one e) = refl

pub seat_sent : (s t : Pair) (answer : Result (Option Letter) Refusal) → lent_short SeatSend s ≡ false → SendsFromSeat s answer t → t ≡ (seat_sends s).after
seat_sent s t a f h = seat_sent_by s _ f h

-- a receive acts on one packet at most
pub one_at_most : (answer : Result Received Refusal) (k : ℕ) → going answer ≡ continue k → k ≤ 1
one_at_most (Ok Nothing) k e = (cc)
one_at_most (Ok Part) k e = let h : k ≡ 0 = cc in omega arith
one_at_most (Ok (Acted letter)) k e = let h : k ≡ 1 = cc in omega arith
one_at_most (Ok (Message place long)) k e = let h : k ≡ 1 = cc in omega arith
one_at_most (Err refusal) k e = (cc)

-- a round, of the receives and sends that it is made of
pub round_goes : (s heard sent taken t : Pair) (report : Report) (hub : Result (Option Letter) Refusal) (seat : Result (Option Letter) Refusal) → lent_short Round s ≡ false →
    Drains HubReceives s report.hub.packets report.hub.fault heard → lent_short HubSend heard ≡ false → SendsFromHub heard hub sent →
    Drains SeatReceives sent report.seat.packets report.seat.fault taken → lent_short SeatSend taken ≡ false → SendsFromSeat taken seat t →
    GoesRound s (Ok report) t
round_goes s heard sent taken t report hub seat e a e1 b c e2 d = (
  (hub_sends heard).wrote,
  rounds report _ t e (record {
    heard = heard;
    taken = taken;
    hub_drains = a;
    hub_wrote = refl;
    seat_drains = subst (λ x. Drains SeatReceives x report.seat.packets report.seat.fault taken) (hub_sent heard sent hub e1 b) c;
    seat_sent = seat_sent taken t seat e2 d;
  }),
)
