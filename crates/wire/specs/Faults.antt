-- Faults: their layers, the numbers of their causes, and their bytes.
use Rattle.std.specs.Prelude.{ℕ}
use Rattle.wire.specs.declared.faults.Field.{Field}
use Rattle.wire.specs.declared.faults.Field.TheVariants.{Status, Reason, Session, SequenceNumber, Start, End}
use Rattle.wire.specs.declared.faults.PacketFault.{PacketFault}
use Rattle.wire.specs.declared.faults.PacketFault.TheVariants.{LengthZero, LengthOverLimit, UnknownLetter, OutOfPlace, WrongLength, WrongContent}
use Rattle.wire.specs.declared.faults.LogFault.{LogFault}
use Rattle.wire.specs.declared.faults.LogFault.TheVariants.{Full}
use Rattle.wire.specs.declared.faults.Layer.{Layer}
use Rattle.wire.specs.declared.faults.Layer.TheVariants as L
use Rattle.wire.specs.declared.faults.Fault.{Fault}
use Rattle.wire.specs.declared.faults.Fault.TheVariants as F

-- a field's first byte, counted from its packet's first byte
abbrev pub field_place : Field → ℕ
field_place Status = 3
field_place Reason = 3
field_place Session = 4
field_place SequenceNumber = 3
field_place Start = 3
field_place End = 11

-- a packet's causes, in the order in which they are reported
abbrev pub packet_cause : PacketFault → ℕ
packet_cause LengthZero = 1
packet_cause LengthOverLimit = 2
packet_cause UnknownLetter = 3
packet_cause OutOfPlace = 4
packet_cause WrongLength = 5
packet_cause (WrongContent field) = 6

-- what a cause points at: the length, the letter or the field
abbrev pub packet_place : PacketFault → ℕ
packet_place LengthZero = 0
packet_place LengthOverLimit = 0
packet_place UnknownLetter = 2
packet_place OutOfPlace = 2
packet_place WrongLength = 0
packet_place (WrongContent field) = field_place field

abbrev pub log_cause : LogFault → ℕ
log_cause Full = 21

abbrev pub log_place : LogFault → ℕ
log_place Full = 0

abbrev pub layer_of : Fault → Layer
layer_of (F.Packet fault) = L.Packet
layer_of (F.Log fault) = L.Log

abbrev pub cause_of : Fault → ℕ
cause_of (F.Packet fault) = packet_cause fault
cause_of (F.Log fault) = log_cause fault

abbrev pub place_of : Fault → ℕ
place_of (F.Packet fault) = packet_place fault
place_of (F.Log fault) = log_place fault
