-- The numbers of the refusals: from 11 what a call was given, from 21 what it met.
use Rattle.std.specs.Prelude.{ℕ, Some, None, Option}
use Rattle.wire.specs.declared.faults.Fault.{Fault}
use Rattle.wire.specs.declared.faults.Fault.TheVariants as F
use Rattle.wire.specs.declared.faults.LogFault.TheVariants.{Full}
use Rattle.wire.specs.declared.refusals.Refusal.{Refusal}
use Rattle.wire.specs.declared.refusals.Refusal.TheVariants.{MessageTooLong, SessionZero, NoSuchMessage, ShortBuffer, SizeOutOfRange, BadAccountField, BrokenLog, BadPacket, LogFull, LineFull, WrongPhase, SessionFinished, HubBusy, LastSession, NoSession, NothingToFetch, AccountTaken, OutOfMemory}
use Rattle.wire.specs.Faults.{log_cause}

abbrev pub number : Refusal → ℕ
number MessageTooLong = 11
number SessionZero = 12
number NoSuchMessage = 13
number ShortBuffer = 14
number SizeOutOfRange = 15
number BadAccountField = 16
number (BrokenLog place) = 17
number (BadPacket fault) = 18
number LogFull = log_cause Full
number LineFull = 22
number WrongPhase = 23
number SessionFinished = 24
number HubBusy = 25
number LastSession = 26
number NoSession = 27
number NothingToFetch = 28
number AccountTaken = 29
number OutOfMemory = 30

-- the fault that a refusal reports: a bad packet, or a full log
abbrev pub fault_of : Refusal → Option Fault
fault_of (BadPacket fault) = Some (F.Packet fault)
fault_of LogFull = Some (F.Log Full)
fault_of other = None

-- the refusal that reports a fault
abbrev pub refusal_of : Fault → Refusal
refusal_of (F.Packet fault) = BadPacket fault
refusal_of (F.Log Full) = LogFull
