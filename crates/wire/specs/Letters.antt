-- The twelve letters: their bytes, and the length numbers that their packets may have.
use Rattle.std.specs.Prelude.{ℕ, ◌+◌, Bool, ◌&&◌, List, [], ◌∷◌, Result, nat_le}
use Rattle.wire.specs.declared.faults.PacketFault.{PacketFault}
use Rattle.wire.specs.declared.faults.PacketFault.TheVariants.{UnknownLetter}
use Rattle.wire.specs.declared.letters.Letter.{Letter}
use Rattle.wire.specs.declared.letters.Letter.TheVariants.{LoginRequest, LoginResponse, Sequenced, Unsequenced, SynchronizationComplete, RetransmissionRequest, LogoutRequest, GoodBye, EndOfSession, HubHeartbeat, SeatHeartbeat, Test}
use Rattle.wire.specs.Limits.{message_limit, length_limit}
use Rattle.wire.specs.Coded.{coded}

-- the letters in ASCII: L R S U C A X G E 0 1 T
abbrev pub letter_byte : Letter → ℕ
letter_byte LoginRequest = 0x4C
letter_byte LoginResponse = 0x52
letter_byte Sequenced = 0x53
letter_byte Unsequenced = 0x55
letter_byte SynchronizationComplete = 0x43
letter_byte RetransmissionRequest = 0x41
letter_byte LogoutRequest = 0x58
letter_byte GoodBye = 0x47
letter_byte EndOfSession = 0x45
letter_byte HubHeartbeat = 0x30
letter_byte SeatHeartbeat = 0x31
letter_byte Test = 0x54

abbrev pub letters : List Letter
letters =
    LoginRequest ∷ LoginResponse ∷ Sequenced ∷ Unsequenced ∷ SynchronizationComplete
    ∷ RetransmissionRequest ∷ LogoutRequest ∷ GoodBye ∷ EndOfSession ∷ HubHeartbeat ∷ SeatHeartbeat ∷ Test ∷ []

-- the letter that a byte writes
abbrev pub letter_of : ℕ → Result Letter PacketFault
letter_of = coded letter_byte UnknownLetter letters

-- the smallest length number: the letter itself, and the fields that are always there
abbrev pub shortest : Letter → ℕ
shortest LoginRequest = 36
shortest LoginResponse = 11
shortest Sequenced = 9
shortest Unsequenced = 1
shortest SynchronizationComplete = 1
shortest RetransmissionRequest = 17
shortest LogoutRequest = 2
shortest GoodBye = 2
shortest EndOfSession = 1
shortest HubHeartbeat = 1
shortest SeatHeartbeat = 1
shortest Test = 1

-- the largest length number
abbrev pub longest : Letter → ℕ
longest LoginRequest = 36
longest LoginResponse = 11
longest Sequenced = length_limit
longest Unsequenced = message_limit + 1
longest SynchronizationComplete = 1
longest RetransmissionRequest = 17
longest LogoutRequest = length_limit
longest GoodBye = length_limit
longest EndOfSession = 1
longest HubHeartbeat = 1
longest SeatHeartbeat = 1
longest Test = length_limit

abbrev pub allowed : Letter → ℕ → Bool
allowed letter n = nat_le (shortest letter) n && nat_le n (longest letter)
