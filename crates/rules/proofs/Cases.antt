-- What the acts of the two ends come to: a fact of all of them follows from the fact of a few.
use Rattle.std.proofs.Common.{ℕ, min, Bool, true, false, cond, eqb, ltb, leb, List, length}
use Rattle.wire.specs.declared.faults.Field.TheVariants as Field
use Rattle.wire.specs.declared.faults.PacketFault.{PacketFault}
use Rattle.wire.specs.declared.faults.PacketFault.TheVariants.{OutOfPlace, WrongContent}
use Rattle.wire.specs.declared.letters.Letter.TheVariants as L
use Rattle.wire.specs.declared.statuses.Status.{Status}
use Rattle.wire.specs.declared.statuses.Status.TheVariants.{Accepted}
use Rattle.packet.specs.Values.{Value, login_request, login_response, sequenced, unsequenced, synchronization_complete, retransmission_request, logout_request, good_bye, end_of_session, hub_heartbeat, seat_heartbeat, test}
use Rattle.message_log.specs.Meaning.{count}
use Rattle.account.specs.Logins.{Asked}
use Rattle.rules.specs.declared.phases.HubPhase.{HubPhase}
use Rattle.rules.specs.declared.phases.HubPhase.TheVariants.{Shut, Waiting, Serving, Filling}
use Rattle.rules.specs.declared.phases.SeatPhase.{SeatPhase}
use Rattle.rules.specs.declared.phases.SeatPhase.TheVariants.{Apart, Asking, Live}
use Rattle.rules.specs.declared.answers.Received.{Received}
use Rattle.rules.specs.declared.answers.Received.TheVariants.{Acted, Message}
use Rattle.rules.specs.State.{Pair, Outcome}
use Rattle.rules.specs.Changes.{grants, hub_to, hub_leaves, seat_to}
use Rattle.rules.specs.Hub.{message_offset, hub_bad, logs_in, hub_acts}
use Rattle.rules.specs.Seat.{seat_bad, seat_accepted, seat_rejected, seat_message, seat_complete, seat_acts}

abbrev pub Act : Type 0
Act = Pair → Outcome Received

-- the hub refuses, stays as it is, shuts, begins to fill, or decides on a login
module _ (P : Act → Type 0)
    (bad : (f : PacketFault) → P (λ s. hub_bad f s))
    (stays : (r : Received) → P (λ s. grants r s))
    (shuts : (r : Received) → P (λ s. grants r (hub_leaves Shut s)))
    (fills : (start end : ℕ) → P (λ s. grants (Acted L.RetransmissionRequest) (hub_to (Filling start (min end (count s.running.log))) s)))
    (logs : (a : Asked) → P (λ s. grants (Acted L.LoginRequest) (logs_in a s))) where
  waiting : (v : Value) → P (λ s. hub_acts Waiting v s)
  waiting (login_request v u c p x n) = logs (record { version = v; user = u; computer = c; protocol = p; session = x; number = n })
  waiting v = bad OutOfPlace

  refilling : (a e : ℕ) (b c d : Bool) → P (λ s. cond b (cond c (hub_bad (WrongContent Field.Start) s) (cond d (hub_bad (WrongContent Field.End) s) (grants (Acted L.RetransmissionRequest) (hub_to (Filling a (min e (count s.running.log))) s)))) (hub_bad OutOfPlace s))
  refilling a e false c d = bad OutOfPlace
  refilling a e true true d = bad (WrongContent Field.Start)
  refilling a e true false true = bad (WrongContent Field.End)
  refilling a e true false false = fills a e

  beating : (b : Bool) → P (λ s. grants (Acted L.SeatHeartbeat) (cond b s (hub_leaves Shut s)))
  beating true = stays (Acted L.SeatHeartbeat)
  beating false = shuts (Acted L.SeatHeartbeat)

  serving : (asked next : ℕ) (owed : Bool) (v : Value) → P (λ s. hub_acts (Serving asked next owed) v s)
  serving q n o (unsequenced m) = stays (Message message_offset (length m))
  serving q n o (retransmission_request a e) = refilling a e (eqb q 0) (eqb a 0) (ltb e a)
  serving q n o (logout_request r t) = shuts (Acted L.LogoutRequest)
  serving q n o seat_heartbeat = stays (Acted L.SeatHeartbeat)
  serving q n o (test t) = stays (Acted L.Test)
  serving q n o v = bad OutOfPlace

  filling : (next last : ℕ) (v : Value) → P (λ s. hub_acts (Filling next last) v s)
  filling n l (unsequenced m) = stays (Message message_offset (length m))
  filling n l (logout_request r t) = shuts (Acted L.LogoutRequest)
  filling n l seat_heartbeat = beating (leb n l)
  filling n l (test t) = stays (Acted L.Test)
  filling n l v = bad OutOfPlace

  pub hub_acts_lem : (p : HubPhase) (v : Value) → P (λ s. hub_acts p v s)
  hub_acts_lem Waiting v = waiting v
  hub_acts_lem (Serving q n o) v = serving q n o v
  hub_acts_lem (Filling n l) v = filling n l v
  hub_acts_lem phase v = bad OutOfPlace

-- the seat refuses, stays as it is, is apart, hears of its login, reads a message, or is in step
module _ (P : Act → Type 0)
    (bad : (f : PacketFault) → P (λ s. seat_bad f s))
    (stays : (r : Received) → P (λ s. grants r s))
    (parts : (r : Received) → P (λ s. grants r (seat_to Apart s)))
    (accepted : (x n : ℕ) → P (λ s. seat_accepted x n s))
    (rejected : (t : Status) → P (λ s. seat_rejected t s))
    (reads : (n : ℕ) (m : List ℕ) → P (λ s. seat_message n m s))
    (completes : P (λ s. seat_complete s.seat.fetch s)) where
  answered : (t : Status) (x n : ℕ) → P (λ s. seat_acts Asking (login_response t x n) s)
  answered Accepted x n = accepted x n
  answered status x n = rejected status

  asking : (v : Value) → P (λ s. seat_acts Asking v s)
  asking (login_response t x n) = answered t x n
  asking (good_bye r t) = parts (Acted L.GoodBye)
  asking v = bad OutOfPlace

  live : (v : Value) → P (λ s. seat_acts Live v s)
  live (sequenced n m) = reads n m
  live (unsequenced m) = stays (Message message_offset (length m))
  live synchronization_complete = completes
  live (good_bye r t) = parts (Acted L.GoodBye)
  live end_of_session = parts (Acted L.EndOfSession)
  live hub_heartbeat = stays (Acted L.HubHeartbeat)
  live (test t) = stays (Acted L.Test)
  live v = bad OutOfPlace

  pub seat_acts_lem : (p : SeatPhase) (v : Value) → P (λ s. seat_acts p v s)
  seat_acts_lem Asking v = asking v
  seat_acts_lem Live v = live v
  seat_acts_lem phase v = bad OutOfPlace
