-- Receives with what is free in them, rounds, and the calls together.
use Rattle.std.specs.Prelude.{◌≡◌, ℕ, ◌+◌, Bool, true, false, ◌&&◌, ◌||◌, List, length, None, Ok, Err, Option, Result, nat_le, nat_lt}
use Rattle.wire.specs.declared.faults.Fault.{Fault}
use Rattle.wire.specs.declared.refusals.Refusal.{Refusal}
use Rattle.wire.specs.declared.refusals.Refusal.TheVariants.{ShortBuffer, WrongPhase}
use Rattle.wire.specs.Refusals.{fault_of}
use Rattle.wire.specs.Limits.{message_limit, packet_limit}
use Rattle.wire.specs.declared.letters.Letter.{Letter}
use Rattle.packet.specs.Values.{Value}
use Rattle.rules.specs.declared.phases.How.{How}
use Rattle.rules.specs.declared.answers.Received.{Received}
use Rattle.rules.specs.declared.answers.Received.TheVariants.{Nothing, Part, Acted, Message}
use Rattle.rules.specs.declared.answers.Report.{Report}
use Rattle.rules.specs.declared.answers.Answer.{Answer}
use Rattle.rules.specs.State.{Pair, Outcome}
use Rattle.rules.specs.Changes.{refuses}
use Rattle.rules.specs.Frames.{lack, given, left, Free}
use Rattle.rules.specs.Hub.{Sending, listens, hub_hears, hub_sends}
use Rattle.rules.specs.Seat.{is_apart, seat_hears, seat_sends}
use Rattle.rules.specs.Calls.{Done, done, connect, cut, publish, finish, roll, tell, say, leave, tick}

-- The hub receives: it takes once, at most what its frame lacks. The take leaves a room that is free.
pub data HubReceives (s : Pair) : Outcome Received → Type 0 where
  hub_deaf : listens s.hub.phase ≡ false → HubReceives s (refuses WrongPhase s)
  hub_hears_bytes : (room : ℕ) → listens s.hub.phase ≡ true → Free s.up (lack s.hub.frame) room →
      HubReceives s (hub_hears (given s.up (lack s.hub.frame)) (left s.up (lack s.hub.frame) room) s)

pub data SeatReceives (s : Pair) : Outcome Received → Type 0 where
  seat_deaf : is_apart s.seat.phase ≡ true → SeatReceives s (refuses WrongPhase s)
  seat_hears_bytes : (room : ℕ) → is_apart s.seat.phase ≡ false → Free s.down (lack s.seat.frame) room →
      SeatReceives s (seat_hears (given s.down (lack s.seat.frame)) (left s.down (lack s.seat.frame) room) s)

-- what a receive's answer means for a round: the receives end, or go on with so many packets acted on more
pub data Going : Type 0 where
  stop : Option Fault → Going
  continue : ℕ → Going

abbrev pub going : Result Received Refusal → Going
going (Ok Nothing) = stop None
going (Ok Part) = continue 0
going (Ok (Acted letter)) = continue 1
going (Ok (Message offset long)) = continue 1
going (Err refusal) = stop (fault_of refusal)

-- An end receives until nothing waits or it is refused: so many packets were acted on, and what was wrong.
pub data Drains (Receives : Pair → Outcome Received → Type 0) : Pair → ℕ → Option Fault → Pair → Type 0 where
  ends : (s : Pair) (o : Outcome Received) (fault : Option Fault) →
      Receives s o → going o.answer ≡ stop fault →
      Drains Receives s 0 fault o.after
  more : (s : Pair) (o : Outcome Received) (k n : ℕ) (fault : Option Fault) (t : Pair) →
      Receives s o → going o.answer ≡ continue k → Drains Receives o.after n fault t →
      Drains Receives s (k + n) fault t

-- A round: the hub receives what waits, the hub sends, the seat receives what waits, the seat sends. The refusal
-- of a send is swallowed.
pub record Rounds (s : Pair) (report : Report) (wrote : Option Value) (t : Pair) : Type 0 where
  pub heard : Pair
  pub taken : Pair
  pub hub_drains : Drains HubReceives s report.hub.packets report.hub.fault heard
  pub hub_wrote : wrote ≡ (hub_sends heard).wrote
  pub seat_drains : Drains SeatReceives (hub_sends heard).after report.seat.packets report.seat.fault taken
  pub seat_sent : t ≡ (seat_sends taken).after

-- The calls of a pair.
pub data Call : Type 0 where
  Connect : How → Call
  Cut : Call
  Publish : List ℕ → Call
  Finish : Call
  Roll : Call
  Tell : List ℕ → Call
  Say : List ℕ → Call
  Leave : Call
  HubReceive : Call
  SeatReceive : Call
  HubSend : Call
  SeatSend : Call
  Tick : Call
  Round : Call

-- a call is refused, with nothing changed
abbrev pub refusal : Call → Refusal → Answer
refusal HubReceive r = Answer.Received (Err r)
refusal SeatReceive r = Answer.Received (Err r)
refusal HubSend r = Answer.Sent (Err r)
refusal SeatSend r = Answer.Sent (Err r)
refusal Round r = Answer.Round (Err r)
refusal call r = Answer.Done (Err r)

-- a lent buffer must hold the longest packet
abbrev pub too_short : List ℕ → Bool
too_short buffer = nat_lt (length buffer) packet_limit

-- whether a buffer that is lent to the call is too short; a message that is too long is reported before it
abbrev pub lent_short : Call → Pair → Bool
lent_short (Connect how) s = too_short s.buffers.out
lent_short (Tell m) s = nat_le (length m) message_limit && too_short s.buffers.out
lent_short (Say m) s = nat_le (length m) message_limit && too_short s.buffers.out
lent_short Leave s = too_short s.buffers.out
lent_short HubReceive s = too_short s.buffers.hub_frame || too_short s.buffers.out
lent_short SeatReceive s = too_short s.buffers.seat_frame || too_short s.buffers.out
lent_short HubSend s = too_short s.buffers.out
lent_short SeatSend s = too_short s.buffers.out
lent_short Tick s = too_short s.buffers.out
lent_short Round s =
    too_short s.buffers.hub_frame || (too_short s.buffers.seat_frame || too_short s.buffers.out)
lent_short call s = false

-- What a call answers, the packet that a send of the hub wrote in it, and the pair after it.
pub record Effect : Type 0 where
  pub answer : Answer
  pub wrote : Option Value
  pub after : Pair

abbrev pub did : Done → Effect
did o = record { answer = Answer.Done o.answer; wrote = None; after = o.after }

abbrev pub took : Outcome Received → Effect
took o = record { answer = Answer.Received o.answer; wrote = None; after = o.after }

abbrev pub sent : Sending → Effect
sent x = record { answer = Answer.Sent x.answer; wrote = x.wrote; after = x.after }

abbrev pub posted : Outcome (Option Letter) → Effect
posted o = record { answer = Answer.Sent o.answer; wrote = None; after = o.after }

-- a short buffer refuses a call
abbrev pub stopped : Call → Pair → Effect
stopped c s = record { answer = refusal c ShortBuffer; wrote = None; after = s }

-- What each call may lead to. But for what is free in receives there is one outcome.
pub data Step (s : Pair) : Call → Effect → Type 0 where
  short_buffer : (c : Call) → lent_short c s ≡ true → Step s c (stopped c s)
  connects : (how : How) → lent_short (Connect how) s ≡ false → Step s (Connect how) (did (connect how s))
  cuts : Step s Cut (did (done (cut s)))
  publishes : (m : List ℕ) → Step s (Publish m) (did (publish m s))
  finishes : Step s Finish (did (finish s))
  rolls : Step s Roll (did (roll s))
  tells : (m : List ℕ) → lent_short (Tell m) s ≡ false → Step s (Tell m) (did (tell m s))
  says : (m : List ℕ) → lent_short (Say m) s ≡ false → Step s (Say m) (did (say m s))
  leaves : lent_short Leave s ≡ false → Step s Leave (did (leave s))
  hub_receives : (o : Outcome Received) → lent_short HubReceive s ≡ false → HubReceives s o →
      Step s HubReceive (took o)
  seat_receives : (o : Outcome Received) → lent_short SeatReceive s ≡ false → SeatReceives s o →
      Step s SeatReceive (took o)
  hub_sends_one : lent_short HubSend s ≡ false → Step s HubSend (sent (hub_sends s))
  seat_sends_one : lent_short SeatSend s ≡ false → Step s SeatSend (posted (seat_sends s))
  ticks : lent_short Tick s ≡ false → Step s Tick (did (done (tick s)))
  rounds : (report : Report) (wrote : Option Value) (t : Pair) →
      lent_short Round s ≡ false → Rounds s report wrote t →
      Step s Round (record { answer = Answer.Round (Ok report); wrote = wrote; after = t })
