-- Runs, call by call, by rules that are the right ones at least for every call but the connect. What the lent buffers hold is left open along a run: all that matters is that they stay long
-- enough, so each step is a lemma for any buffers that are.
use Rattle.std.proofs.Common.{◌≡◌, ℕ, ◌-◌, ◌≤◌, true, false, ◌||◌, List, length, drop, replicate, sym, ap, subst, arith, length-append, length-drop, length-take}
use lib.ListN.{length-replicate}
use Rattle.std.proofs.lemmas.Bool.{le-ltb, or_from}
use Rattle.wire.specs.Limits.{packet_limit}
use Rattle.packet.specs.Values.{Value, encode}
use Rattle.line.specs.Lines.{handed}
use Rattle.wire.specs.Overlay.{laid}
use Rattle.message_log.specs.Calls.{fronted}
use Rattle.rules.specs.declared.phases.How.{How}
use Rattle.rules.specs.State.{Buffers, Pair}
use Rattle.rules.specs.Frames.{lack, given, left, Free}
use Rattle.rules.specs.Hub.{listens, hub_hears, hub_sends}
use Rattle.rules.specs.Seat.{is_apart, seat_hears}
use Rattle.rules.specs.Calls.{publish}
use Rattle.rules.specs.declared.answers.Answer.TheVariants as Answer
use Rattle.rules.specs.Rounds.{Call, Connect, Publish, HubReceive, SeatReceive, HubSend, Effect, did, took, too_short, Step, publishes, hub_receives, seat_receives, hub_sends_one, hub_hears_bytes, seat_hears_bytes}
use Rattle.promises.specs.Book.{Message}
use Rattle.promises.specs.Runs.{World, stepped, Run, goes_on}
use Rattle.counterexamples.specs.Setting.{line_of, fresh_buffers}

pub record Long (b : Buffers) : Type 0 where
  pub hub : packet_limit ≤ length b.hub_frame
  pub seat : packet_limit ≤ length b.seat_frame
  pub out : packet_limit ≤ length b.out

pub fresh_long : Long fresh_buffers
fresh_long =
    let h : packet_limit ≤ length {A = ℕ} (replicate packet_limit 0) = subst (λ n. packet_limit ≤ n) (sym (length-replicate {A = ℕ} packet_limit 0)) (omega arith) in
    record { hub = h; seat = h; out = h }

-- no write makes a buffer shorter
pub fronted_long : (n : ℕ) (m b : List ℕ) → n ≤ length b → n ≤ length (fronted m b)
fronted_long n m b h = simp (length-append, length-drop) (omega arith)

laid_long : (n : ℕ) (b : List ℕ) (at : ℕ) (m : List ℕ) → n ≤ length b → n ≤ length (laid b at m)
laid_long n b at m h = simp (length-append, length-drop, length-take) (omega arith)

pub long_enough : (b : List ℕ) → packet_limit ≤ length b → too_short b ≡ false
long_enough b h = le-ltb (length b) packet_limit h

-- the buffers after a packet was written, and after an end has taken bytes
abbrev pub wrote : Value → Buffers → Buffers
wrote v b = record { hub_frame = b.hub_frame; seat_frame = b.seat_frame; out = fronted (encode v) b.out }

abbrev pub hub_got : List ℕ → List ℕ → Buffers → Buffers
hub_got frame got b = record { hub_frame = laid b.hub_frame (length frame) got; seat_frame = b.seat_frame; out = b.out }

abbrev pub seat_got : List ℕ → List ℕ → Buffers → Buffers
seat_got frame got b = record { hub_frame = b.hub_frame; seat_frame = laid b.seat_frame (length frame) got; out = b.out }

abbrev hub_takes : Pair → List ℕ
hub_takes s = given s.up (lack s.hub.frame)

abbrev seat_takes : Pair → List ℕ
seat_takes s = given s.down (lack s.seat.frame)

abbrev pub hub_heard : ℕ → Pair → Effect
hub_heard room s = took (hub_hears (hub_takes s) (left s.up (lack s.hub.frame) room) s)

abbrev pub seat_heard : ℕ → Pair → Effect
seat_heard room s = took (seat_hears (seat_takes s) (left s.down (lack s.seat.frame) room) s)

abbrev pub hub_sent : Pair → Effect
hub_sent s = record { answer = Answer.Sent (hub_sends s).answer; wrote = (hub_sends s).wrote; after = (hub_sends s).after }

-- a line that gives room back as soon as bytes are taken may do so
pub roomier : (limit n : ℕ) (waiting : List ℕ) → length waiting ≤ packet_limit →
    Free (line_of limit waiting) n (packet_limit - length (drop (handed (line_of limit waiting) n) waiting))
roomier limit n waiting h =
    let k : ℕ = handed (line_of limit waiting) n in
    record {
      grows = simp length-drop (omega arith);
      within = omega arith;
      empty = λ e. omega (arith, ap length e);
    }

-- a family of worlds, one for all buffers, is reached if a run leads to it with buffers that are long enough
pub record Reached (Rules : Pair → Call → Effect → Type 0) (start : World) (f : Buffers → World) : Type 0 where
  pub buffers : Buffers
  pub long : Long buffers
  pub run : Run Rules start (f buffers)

module _ {Rules : Pair → Call → Effect → Type 0} {start : World} (ruled : (s : Pair) (c : Call) (d : Effect) → ((how : How) → c ≡ Connect how → ⊥) → Step s c d → Rules s c d) where
  -- one call more
  pub goes : (f g : Buffers → World) (call : Call) (d : Buffers → Effect) (after : Buffers → Buffers) →
      ((b : Buffers) → Long b → Long (after b)) → ((b : Buffers) → Long b → Rules (f b).pair call (d b)) → ((b : Buffers) → stepped (f b) call (d b) ≡ g (after b)) →
      Reached Rules start f → Reached Rules start g
  goes f g call d after long rule is r =
      record {
        buffers = after r.buffers;
        long = long r.buffers r.long;
        run = subst (Run Rules start) (is r.buffers) (goes_on r.run call (d r.buffers) (rule r.buffers r.long));
      }

  pub hub_takes_lem : (f g : Buffers → World) (room : ℕ) (frame got : List ℕ) →
      ((b : Buffers) → (f b).pair.buffers ≡ b) → ((b : Buffers) → listens (f b).pair.hub.phase ≡ true) →
      ((b : Buffers) → Free (f b).pair.up (lack (f b).pair.hub.frame) room) →
      ((b : Buffers) → stepped (f b) HubReceive (hub_heard room (f b).pair) ≡ g (hub_got frame got b)) →
      Reached Rules start f → Reached Rules start g
  hub_takes_lem f g room frame got same hears free is r =
      goes f g HubReceive (λ b. hub_heard room (f b).pair) (hub_got frame got)
      (λ b l. record { hub = laid_long packet_limit b.hub_frame (length frame) got l.hub; seat = l.seat; out = l.out })
      (λ b l. ruled (f b).pair HubReceive (hub_heard room (f b).pair) (λ how e. (cc e))
      (hub_receives _ (subst (λ (x : Buffers). (too_short x.hub_frame || too_short x.out) ≡ false) (sym (same b)) (or_from _ _ (long_enough b.hub_frame l.hub) (long_enough b.out l.out)))
      (hub_hears_bytes room (hears b) (free b))))
      is r

  pub seat_takes_lem : (f g : Buffers → World) (room : ℕ) (frame got : List ℕ) →
      ((b : Buffers) → (f b).pair.buffers ≡ b) → ((b : Buffers) → is_apart (f b).pair.seat.phase ≡ false) →
      ((b : Buffers) → Free (f b).pair.down (lack (f b).pair.seat.frame) room) →
      ((b : Buffers) → stepped (f b) SeatReceive (seat_heard room (f b).pair) ≡ g (seat_got frame got b)) →
      Reached Rules start f → Reached Rules start g
  seat_takes_lem f g room frame got same hears free is r =
      goes f g SeatReceive (λ b. seat_heard room (f b).pair) (seat_got frame got)
      (λ b l. record { hub = l.hub; seat = laid_long packet_limit b.seat_frame (length frame) got l.seat; out = l.out })
      (λ b l. ruled (f b).pair SeatReceive (seat_heard room (f b).pair) (λ how e. (cc e))
      (seat_receives _ (subst (λ (x : Buffers). (too_short x.seat_frame || too_short x.out) ≡ false) (sym (same b)) (or_from _ _ (long_enough b.seat_frame l.seat) (long_enough b.out l.out)))
      (seat_hears_bytes room (hears b) (free b))))
      is r

  -- a call that writes a packet
  pub writes : (f g : Buffers → World) (call : Call) (d : Buffers → Effect) (v : Value) →
      ((b : Buffers) → (f b).pair.buffers ≡ b) → ((b : Buffers) → too_short (f b).pair.buffers.out ≡ false → Rules (f b).pair call (d b)) →
      ((b : Buffers) → stepped (f b) call (d b) ≡ g (wrote v b)) → Reached Rules start f → Reached Rules start g
  writes f g call d v same rule is r =
      goes f g call d (wrote v)
      (λ b l. record { hub = l.hub; seat = l.seat; out = fronted_long packet_limit (encode v) b.out l.out })
      (λ b l. rule b (subst (λ (x : Buffers). too_short x.out ≡ false) (sym (same b)) (long_enough b.out l.out)))
      is r

  pub hub_writes_lem : (f g : Buffers → World) (v : Value) → ((b : Buffers) → (f b).pair.buffers ≡ b) →
      ((b : Buffers) → stepped (f b) HubSend (hub_sent (f b).pair) ≡ g (wrote v b)) → Reached Rules start f → Reached Rules start g
  hub_writes_lem f g v same is r = writes f g HubSend (λ b. hub_sent (f b).pair) v same (λ b e. ruled _ _ _ (λ how q. (cc q)) (hub_sends_one e)) is r

  pub hub_publishes : (f g : Buffers → World) (m : Message) → ((b : Buffers) → stepped (f b) (Publish m) (did (publish m (f b).pair)) ≡ g b) →
      Reached Rules start f → Reached Rules start g
  hub_publishes f g m is r = goes f g (Publish m) (λ b. did (publish m (f b).pair)) (λ b. b) (λ b l. l) (λ b l. ruled _ _ _ (λ how q. (cc q)) (publishes m)) is r
