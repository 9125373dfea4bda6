-- What the seat does with what it takes, and what it sends.
use Rattle.std.specs.Prelude.{ℕ, ◌+◌, Bool, true, false, cond, not, ◌||◌, List, [], ◌∷◌, ◌++◌, length, Some, None, Ok, Err, Option, Result, ◌==◌, nat_lt}
use Rattle.wire.specs.declared.faults.Field.TheVariants as Field
use Rattle.wire.specs.declared.faults.PacketFault.{PacketFault}
use Rattle.wire.specs.declared.faults.PacketFault.TheVariants.{OutOfPlace, WrongContent}
use Rattle.wire.specs.declared.refusals.Refusal.{Refusal}
use Rattle.wire.specs.declared.refusals.Refusal.TheVariants.{BadPacket, LogFull, LineFull, WrongPhase}
use Rattle.wire.specs.declared.letters.Letter.{Letter}
use Rattle.wire.specs.declared.letters.Letter.TheVariants as L
use Rattle.wire.specs.declared.statuses.Status.{Status}
use Rattle.wire.specs.declared.statuses.Status.TheVariants.{Accepted}
use Rattle.wire.specs.declared.logouts.LogoutReason.{LogoutReason}
use Rattle.wire.specs.declared.logouts.LogoutReason.TheVariants as X
use Rattle.packet.specs.Values.{Value, login_response, sequenced, unsequenced, synchronization_complete, retransmission_request, logout_request, good_bye, end_of_session, hub_heartbeat, seat_heartbeat, test, letter, encode}
use Rattle.packet.specs.Decoding.{Decoded, part, whole}
use Rattle.line.specs.Lines.{LineView, fits}
use Rattle.message_log.specs.Meaning.{Meaning, count, begun, added}
use Rattle.message_log.specs.Calls.{takes}
use Rattle.rules.specs.declared.phases.SeatPhase.{SeatPhase}
use Rattle.rules.specs.declared.phases.SeatPhase.TheVariants.{Apart, Asking, Live}
use Rattle.rules.specs.declared.answers.Received.{Received}
use Rattle.rules.specs.declared.answers.Received.TheVariants.{Nothing, Part, Acted, Message}
use Rattle.rules.specs.State.{Pair, Outcome}
use Rattle.rules.specs.Changes.{with_down, with_held, grants, refuses, seat_to, seat_writes, seat_tells, seat_took}
use Rattle.rules.specs.Frames.{judged}
use Rattle.rules.specs.Hub.{message_offset, beat_after, Due, due, none_due}

-- the seat says why it leaves, and is apart
abbrev pub seat_gone : LogoutReason → Pair → Pair
seat_gone reason s = seat_to Apart (seat_tells (logout_request reason []) s)

abbrev pub seat_bad : PacketFault → Pair → Outcome Received
seat_bad fault s = refuses (BadPacket fault) (seat_gone X.BadPacket s)

abbrev pub is_apart : SeatPhase → Bool
is_apart Apart = true
is_apart phase = false

abbrev pub in_fetch : Option ℕ → Bool
in_fetch None = false
in_fetch (Some end) = true

abbrev pub seat_letters : SeatPhase → Option ℕ → List Letter
seat_letters Apart fetch = []
seat_letters Asking fetch = L.LoginResponse ∷ L.GoodBye ∷ []
seat_letters Live fetch =
    L.Sequenced ∷ L.Unsequenced ∷ L.GoodBye ∷ L.EndOfSession ∷ L.HubHeartbeat ∷ L.Test
    ∷ cond (in_fetch fetch) [] (L.SynchronizationComplete ∷ [])

-- an accepted login response must bear the session asked for; any but 0 where 0 was asked for
abbrev pub suits : ℕ → ℕ → Bool
suits asked session = cond (asked == 0) (not (session == 0)) (session == asked)

-- a log of another session begins this one
abbrev pub in_session : Meaning → ℕ → Meaning
in_session log session = cond (log.session == session) log (begun log session)

-- the number after those that a log holds
abbrev pub next_number : Meaning → ℕ
next_number log = count log + 1

-- accepted: the seat is live, and in step if the next number of the hub is the one that it asked for
abbrev pub seat_accepted : ℕ → ℕ → Pair → Outcome Received
seat_accepted session highest s =
    cond (suits s.seat.session session)
    (grants (Acted L.LoginResponse)
    (record s {
      seat = record s.seat { phase = Live; in_step = s.seat.in_step || highest + 1 == s.seat.number };
      held = in_session s.held session;
    }))
    (seat_bad (WrongContent Field.Session) s)

-- rejected: the status is kept
abbrev pub seat_rejected : Status → Pair → Outcome Received
seat_rejected status s =
    grants (Acted L.LoginResponse)
    (record s { seat = record s.seat { phase = Apart; status = Some status } })

abbrev pub seat_answered : Status → ℕ → ℕ → Pair → Outcome Received
seat_answered Accepted session highest s = seat_accepted session highest s
seat_answered status session highest s = seat_rejected status s

abbrev pub seat_asking : Value → Pair → Outcome Received
seat_asking (login_response status session highest) s = seat_answered status session highest s
seat_asking (good_bye r t) s = grants (Acted L.GoodBye) (seat_to Apart s)
seat_asking v s = seat_bad OutOfPlace s

-- the next message is appended; a log that refuses it ends the connection
abbrev pub seat_keeps : Result (Unit {0}) Refusal → List ℕ → Pair → Outcome Received
seat_keeps (Ok x) m s = grants (Acted L.Sequenced) (with_held s (added s.held m))
seat_keeps (Err refusal) m s = refuses LogFull (seat_gone X.Terminating s)

-- a number above the next is passed over in a fetch, and a fault otherwise
abbrev pub seat_skips : Option ℕ → Pair → Outcome Received
seat_skips None s = seat_bad (WrongContent Field.SequenceNumber) s
seat_skips (Some end) s = grants (Acted L.Sequenced) s

abbrev pub seat_message : ℕ → List ℕ → Pair → Outcome Received
seat_message n m s =
    cond (n == next_number s.held) (seat_keeps (takes s.held (length m)) m s)
    (cond (nat_lt n (next_number s.held)) (grants (Acted L.Sequenced) s)
    (seat_skips s.seat.fetch s))

abbrev pub seat_complete : Option ℕ → Pair → Outcome Received
seat_complete None s =
    grants (Acted L.SynchronizationComplete)
    (record s { seat = record s.seat { phase = Live; in_step = true } })
seat_complete (Some end) s = seat_bad OutOfPlace s

abbrev pub seat_live : Value → Pair → Outcome Received
seat_live (sequenced n m) s = seat_message n m s
seat_live (unsequenced m) s = grants (Message message_offset (length m)) s
seat_live synchronization_complete s = seat_complete s.seat.fetch s
seat_live (good_bye r t) s = grants (Acted L.GoodBye) (seat_to Apart s)
seat_live end_of_session s = grants (Acted L.EndOfSession) (seat_to Apart s)
seat_live hub_heartbeat s = grants (Acted L.HubHeartbeat) s
seat_live (test t) s = grants (Acted L.Test) s
seat_live v s = seat_bad OutOfPlace s

abbrev pub seat_acts : SeatPhase → Value → Pair → Outcome Received
seat_acts Asking v s = seat_asking v s
seat_acts Live v s = seat_live v s
seat_acts phase v s = seat_bad OutOfPlace s

abbrev pub seat_judges : Result Decoded PacketFault → List ℕ → List ℕ → LineView → Pair → Outcome Received
seat_judges (Ok part) got frame down s = grants Part (seat_took got frame down s)
seat_judges (Ok (whole v)) got frame down s = seat_acts s.seat.phase v (seat_took got [] down s)
seat_judges (Err fault) got frame down s = seat_bad fault (seat_took got [] down s)

-- the seat was handed these bytes, and the down line is then that
abbrev pub seat_hears : List ℕ → LineView → Pair → Outcome Received
seat_hears [] down s = grants Nothing (with_down s down)
seat_hears (b ∷ bs) down s =
    let frame : List ℕ = s.seat.frame ++ (b ∷ bs) in
    seat_judges (judged (seat_letters s.seat.phase s.seat.fetch) frame) (b ∷ bs) frame down s

abbrev pub seat_requested : Pair → Pair
seat_requested s =
    record s { seat = record s.seat { requested = true } }

-- in a fetch the request goes out once, while something is lacking; otherwise a heartbeat may be due
abbrev pub live_due : Option ℕ → Pair → Due
live_due None s = cond (nat_lt beat_after s.seat.unsent) (due seat_heartbeat s) (none_due s)
live_due (Some end) s =
    cond s.seat.requested (none_due s)
    (cond (nat_lt (count s.held) end)
    (due (retransmission_request (next_number s.held) end) (seat_requested s))
    (none_due s))

abbrev pub seat_due : SeatPhase → Pair → Due
seat_due Live s = live_due s.seat.fetch s
seat_due phase s = none_due s

abbrev pub seat_posts : Option Value → Pair → Pair → Outcome (Option Letter)
seat_posts None then s = grants None then
seat_posts (Some v) then s =
    cond (fits s.up (encode v)) (grants (Some (letter v)) (seat_writes v then)) (refuses LineFull s)

abbrev pub seat_sends : Pair → Outcome (Option Letter)
seat_sends s =
    cond (is_apart s.seat.phase) (refuses WrongPhase s)
    (seat_posts (seat_due s.seat.phase s).packet (seat_due s.seat.phase s).then s)
