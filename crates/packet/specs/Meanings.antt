-- What the code's packets and answers say.
use Rattle.std.specs.Prelude.{Some, None, Ok, Option, Result}
use Rattle.wire.specs.declared.faults.PacketFault.{PacketFault}
use Rattle.packet.specs.declared.packets.Packet.{Packet}
use Rattle.packet.specs.declared.packets.Packet.TheVariants as P
use Rattle.packet.specs.Values.{Value, login_request, login_response, sequenced, unsequenced, synchronization_complete, retransmission_request, logout_request, good_bye, end_of_session, hub_heartbeat, seat_heartbeat, test}
use Rattle.packet.specs.Decoding.{Decoded, part, whole, next}

abbrev pub value_of : Packet → Value
value_of (P.LoginRequest l) =
    login_request l.version.now l.user.now l.computer.now l.protocol.now l.session l.number
value_of (P.LoginResponse t s n) = login_response t s n
value_of (P.Sequenced n m) = sequenced n m.now
value_of (P.Unsequenced m) = unsequenced m.now
value_of P.SynchronizationComplete = synchronization_complete
value_of (P.RetransmissionRequest a e) = retransmission_request a e
value_of (P.LogoutRequest r t) = logout_request r t.now
value_of (P.GoodBye r t) = good_bye r t.now
value_of P.EndOfSession = end_of_session
value_of P.HubHeartbeat = hub_heartbeat
value_of P.SeatHeartbeat = seat_heartbeat
value_of (P.Test t) = test t.now

abbrev pub values_of : Result Packet PacketFault → Result Value PacketFault
values_of r = next r (λ p. Ok (value_of p))

abbrev pub read_of : Option Packet → Decoded
read_of None = part
read_of (Some p) = whole (value_of p)

abbrev pub answer_of : Result (Option Packet) PacketFault → Result Decoded PacketFault
answer_of r = next r (λ o. Ok (read_of o))
