-- The bytes of the statuses and of the reasons.
use Rattle.std.specs.Prelude.{ℕ, List, [], ◌∷◌, Result}
use Rattle.wire.specs.declared.faults.Field.TheVariants as Field
use Rattle.wire.specs.declared.faults.PacketFault.{PacketFault}
use Rattle.wire.specs.declared.faults.PacketFault.TheVariants.{WrongContent}
use Rattle.wire.specs.declared.statuses.Status.{Status}
use Rattle.wire.specs.declared.statuses.Status.TheVariants.{Accepted, UnknownUser, SessionUnavailable, InvalidNumber, WrongVersion, WrongProtocol, AlreadyLoggedIn}
use Rattle.wire.specs.declared.logouts.LogoutReason.{LogoutReason}
use Rattle.wire.specs.declared.logouts.LogoutReason.TheVariants as X
use Rattle.wire.specs.declared.goodbyes.GoodByeReason.{GoodByeReason}
use Rattle.wire.specs.declared.goodbyes.GoodByeReason.TheVariants as G
use Rattle.wire.specs.Coded.{coded}

-- the statuses in ASCII: space X S N I A L
abbrev pub status_byte : Status → ℕ
status_byte Accepted = 0x20
status_byte UnknownUser = 0x58
status_byte SessionUnavailable = 0x53
status_byte InvalidNumber = 0x4E
status_byte WrongVersion = 0x49
status_byte WrongProtocol = 0x41
status_byte AlreadyLoggedIn = 0x4C

abbrev pub statuses : List Status
statuses =
    Accepted ∷ UnknownUser ∷ SessionUnavailable ∷ InvalidNumber ∷ WrongVersion ∷ WrongProtocol
    ∷ AlreadyLoggedIn ∷ []

abbrev pub status_of : ℕ → Result Status PacketFault
status_of = coded status_byte (WrongContent Field.Status) statuses

-- the reasons of a logout request: space B L A
abbrev pub logout_byte : LogoutReason → ℕ
logout_byte X.Done = 0x20
logout_byte X.BadPacket = 0x42
logout_byte X.LoginTimeout = 0x4C
logout_byte X.Terminating = 0x41

abbrev pub logout_reasons : List LogoutReason
logout_reasons = X.Done ∷ X.BadPacket ∷ X.LoginTimeout ∷ X.Terminating ∷ []

abbrev pub logout_of : ℕ → Result LogoutReason PacketFault
logout_of = coded logout_byte (WrongContent Field.Reason) logout_reasons

-- the reasons of a GoodBye: B L A
abbrev pub good_bye_byte : GoodByeReason → ℕ
good_bye_byte G.BadPacket = 0x42
good_bye_byte G.LoginTimeout = 0x4C
good_bye_byte G.Terminating = 0x41

abbrev pub good_bye_reasons : List GoodByeReason
good_bye_reasons = G.BadPacket ∷ G.LoginTimeout ∷ G.Terminating ∷ []

abbrev pub good_bye_of : ℕ → Result GoodByeReason PacketFault
good_bye_of = coded good_bye_byte (WrongContent Field.Reason) good_bye_reasons
