-- What the hub does with what it takes, and what it sends.
use Rattle.std.specs.Prelude.{ℕ, ◌+◌, min, Bool, true, false, cond, ◌&&◌, List, [], ◌∷◌, ◌++◌, length, Some, None, Ok, Err, Option, Result, ◌==◌, nat_le, nat_lt}
use Rattle.wire.specs.declared.faults.Field.TheVariants as Field
use Rattle.wire.specs.declared.faults.PacketFault.{PacketFault}
use Rattle.wire.specs.declared.faults.PacketFault.TheVariants.{OutOfPlace, WrongContent}
use Rattle.wire.specs.declared.refusals.Refusal.{Refusal}
use Rattle.wire.specs.declared.refusals.Refusal.TheVariants.{BadPacket, LineFull, WrongPhase}
use Rattle.wire.specs.declared.letters.Letter.{Letter}
use Rattle.wire.specs.declared.letters.Letter.TheVariants as L
use Rattle.wire.specs.declared.statuses.Status.{Status}
use Rattle.wire.specs.declared.statuses.Status.TheVariants.{Accepted}
use Rattle.wire.specs.declared.goodbyes.GoodByeReason.{GoodByeReason}
use Rattle.wire.specs.declared.goodbyes.GoodByeReason.TheVariants as G
use Rattle.packet.specs.Values.{Value, login_request, login_response, sequenced, unsequenced, synchronization_complete, retransmission_request, logout_request, good_bye, end_of_session, hub_heartbeat, seat_heartbeat, test, letter, encode}
use Rattle.packet.specs.Decoding.{Decoded, part, whole}
use Rattle.line.specs.Lines.{LineView, fits}
use Rattle.message_log.specs.Meaning.{count, nth}
use Rattle.message_log.specs.Calls.{has}
use Rattle.account.specs.Rows.{found}
use Rattle.account.specs.Logins.{Asked, status_for}
use Rattle.rules.specs.declared.phases.HubPhase.{HubPhase}
use Rattle.rules.specs.declared.phases.HubPhase.TheVariants.{Shut, Waiting, Answering, Rejecting, Serving, Filling}
use Rattle.rules.specs.declared.answers.Received.{Received}
use Rattle.rules.specs.declared.answers.Received.TheVariants.{Nothing, Part, Acted, Message}
use Rattle.rules.specs.State.{Pair, Outcome}
use Rattle.rules.specs.Changes.{with_up, grants, refuses, hub_to, hub_leaves, hub_admits, hub_writes, hub_tells, hub_took}
use Rattle.rules.specs.Frames.{judged}

-- where a message begins in an unsequenced packet: behind the length number and the letter
abbrev pub message_offset : ℕ
message_offset = 3

-- the hub says goodbye and is shut
abbrev pub hub_gone : GoodByeReason → Pair → Pair
hub_gone reason s = hub_leaves Shut (hub_tells (good_bye reason []) s)

abbrev pub hub_bad : PacketFault → Pair → Outcome Received
hub_bad fault s = refuses (BadPacket fault) (hub_gone G.BadPacket s)

-- the phases in which the hub takes from its line, and the letters that it takes there
abbrev pub listens : HubPhase → Bool
listens Waiting = true
listens (Serving asked next owed) = true
listens (Filling next last) = true
listens phase = false

abbrev pub hub_letters : HubPhase → List Letter
hub_letters Waiting = L.LoginRequest ∷ []
hub_letters (Serving asked next owed) =
    L.Unsequenced ∷ L.LogoutRequest ∷ L.SeatHeartbeat ∷ L.Test
    ∷ cond (asked == 0) (L.RetransmissionRequest ∷ []) []
hub_letters (Filling next last) = L.Unsequenced ∷ L.LogoutRequest ∷ L.SeatHeartbeat ∷ L.Test ∷ []
hub_letters phase = []

-- the row of an accepted login is marked
abbrev pub admitted : Option ℕ → ℕ → Pair → Pair
admitted None number s = hub_to (Answering number) s
admitted (Some i) number s = hub_admits i (Answering number) s

-- what follows from the login decision
abbrev pub decided : Status → Asked → Pair → Pair
decided Accepted asked s = admitted (found s.rows asked.user asked.computer) asked.number s
decided status asked s = hub_to (Rejecting status) s

abbrev pub logs_in : Asked → Pair → Pair
logs_in asked s = decided (status_for s.rows s.running.log.session (count s.running.log) asked) asked s

-- a retransmission is asked for
abbrev pub refills : ℕ → ℕ → Pair → Outcome Received
refills start end s =
    cond (start == 0) (hub_bad (WrongContent Field.Start) s)
    (cond (nat_lt end start) (hub_bad (WrongContent Field.End) s)
    (grants (Acted L.RetransmissionRequest) (hub_to (Filling start (min end (count s.running.log))) s)))

-- a heartbeat ends a fill of which all is sent
abbrev pub beat_while_filling : ℕ → ℕ → Pair → Pair
beat_while_filling next last s = cond (nat_le next last) s (hub_leaves Shut s)

-- what the hub makes of a packet, by its phase
abbrev pub hub_waiting : Value → Pair → Outcome Received
hub_waiting (login_request v u c p session number) s =
    let asked : Asked =
    record { version = v; user = u; computer = c; protocol = p; session = session; number = number } in
    grants (Acted L.LoginRequest) (logs_in asked s)
hub_waiting v s = hub_bad OutOfPlace s

abbrev pub hub_serving : ℕ → Value → Pair → Outcome Received
hub_serving asked (unsequenced m) s = grants (Message message_offset (length m)) s
hub_serving asked (retransmission_request a e) s = cond (asked == 0) (refills a e s) (hub_bad OutOfPlace s)
hub_serving asked (logout_request r t) s = grants (Acted L.LogoutRequest) (hub_leaves Shut s)
hub_serving asked seat_heartbeat s = grants (Acted L.SeatHeartbeat) s
hub_serving asked (test t) s = grants (Acted L.Test) s
hub_serving asked v s = hub_bad OutOfPlace s

abbrev pub hub_filling : ℕ → ℕ → Value → Pair → Outcome Received
hub_filling next last (unsequenced m) s = grants (Message message_offset (length m)) s
hub_filling next last (logout_request r t) s = grants (Acted L.LogoutRequest) (hub_leaves Shut s)
hub_filling next last seat_heartbeat s = grants (Acted L.SeatHeartbeat) (beat_while_filling next last s)
hub_filling next last (test t) s = grants (Acted L.Test) s
hub_filling next last v s = hub_bad OutOfPlace s

abbrev pub hub_acts : HubPhase → Value → Pair → Outcome Received
hub_acts Waiting v s = hub_waiting v s
hub_acts (Serving asked next owed) v s = hub_serving asked v s
hub_acts (Filling next last) v s = hub_filling next last v s
hub_acts phase v s = hub_bad OutOfPlace s

-- the frame is judged once these bytes are in
abbrev pub hub_judges : Result Decoded PacketFault → List ℕ → List ℕ → LineView → Pair → Outcome Received
hub_judges (Ok part) got frame up s = grants Part (hub_took got frame up s)
hub_judges (Ok (whole v)) got frame up s = hub_acts s.hub.phase v (hub_took got [] up s)
hub_judges (Err fault) got frame up s = hub_bad fault (hub_took got [] up s)

-- the hub was handed these bytes, and the up line is then that
abbrev pub hub_hears : List ℕ → LineView → Pair → Outcome Received
hub_hears [] up s = grants Nothing (with_up s up)
hub_hears (b ∷ bs) up s =
    let frame : List ℕ = s.hub.frame ++ (b ∷ bs) in
    hub_judges (judged (hub_letters s.hub.phase) frame) (b ∷ bs) frame up s

-- a packet that is due, and the pair once it is written; where none is due, the pair then
pub record Due : Type 0 where
  pub packet : Option Value
  pub then : Pair

abbrev pub due : Value → Pair → Due
due v s = record { packet = Some v; then = s }

abbrev pub none_due : Pair → Due
none_due s = record { packet = None; then = s }

-- a heartbeat is due above so many ticks in which nothing was written
abbrev pub beat_after : ℕ
beat_after = 10

-- the first number to send: the number asked for, or the next to be published where 0 was asked for
abbrev pub first_number : ℕ → ℕ → ℕ
first_number asked highest = cond (asked == 0) (highest + 1) asked

-- synchronization complete is owed to a login that asked for a number from 1 to the highest of its response
abbrev pub owes : ℕ → ℕ → Bool
owes asked highest = nat_lt 0 asked && nat_le asked highest

-- all messages held are sent
abbrev pub sent_all : ℕ → ℕ → Bool → Pair → Due
sent_all asked next owed s =
    cond owed (due synchronization_complete (hub_to (Serving asked next false) s))
    (cond s.running.finished (due end_of_session (hub_leaves Shut s))
    (cond (nat_lt beat_after s.hub.unsent) (due hub_heartbeat s) (none_due s)))

abbrev pub hub_due : HubPhase → Pair → Due
hub_due (Answering asked) s =
    due (login_response Accepted s.running.log.session (count s.running.log))
    (hub_to (Serving asked (first_number asked (count s.running.log)) (owes asked (count s.running.log))) s)
hub_due (Rejecting status) s = due (login_response status 0 0) (hub_leaves Shut s)
hub_due (Serving asked next owed) s =
    cond (has s.running.log next)
    (due (sequenced next (nth s.running.log next)) (hub_to (Serving asked (next + 1) owed) s))
    (sent_all asked next owed s)
hub_due (Filling next last) s =
    cond (nat_le next last && has s.running.log next)
    (due (sequenced next (nth s.running.log next)) (hub_to (Filling (next + 1) last) s))
    (none_due (hub_leaves Shut s))
hub_due phase s = none_due s

-- What a send of the hub answers, the packet that it wrote, and the pair after it.
pub record Sending : Type 0 where
  pub answer : Result (Option Letter) Refusal
  pub wrote : Option Value
  pub after : Pair

-- the packet that is due is written if the line has the room; a smaller one is not sent instead
abbrev pub hub_posts : Option Value → Pair → Pair → Sending
hub_posts None then s = record { answer = Ok None; wrote = None; after = then }
hub_posts (Some v) then s =
    cond (fits s.down (encode v))
    (record { answer = Ok (Some (letter v)); wrote = Some v; after = hub_writes v then })
    (record { answer = Err LineFull; wrote = None; after = s })

abbrev pub is_shut : HubPhase → Bool
is_shut Shut = true
is_shut phase = false

abbrev pub hub_sends : Pair → Sending
hub_sends s =
    cond (is_shut s.hub.phase) (record { answer = Err WrongPhase; wrote = None; after = s })
    (hub_posts (hub_due s.hub.phase s).packet (hub_due s.hub.phase s).then s)
