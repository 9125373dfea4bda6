-- What comes of a packet that was read.
use Rattle.std.specs.Prelude.{Ok, Err, Result}
use Rattle.wire.specs.declared.faults.Fault.{Fault}
use Rattle.wire.specs.declared.faults.Fault.TheVariants as F
use Rattle.wire.specs.declared.faults.LogFault.{LogFault}
use Rattle.wire.specs.declared.faults.LogFault.TheVariants.{Full}
use Rattle.wire.specs.declared.refusals.Refusal.{Refusal}
use Rattle.wire.specs.Refusals.{refusal_of}
use Rattle.wire.specs.declared.logouts.LogoutReason.{LogoutReason}
use Rattle.wire.specs.declared.logouts.LogoutReason.TheVariants as X
use Rattle.rules.specs.declared.answers.Received.{Received}
use Rattle.rules.specs.State.{Pair, Outcome}
use Rattle.rules.specs.Changes.{grants, refuses}
use Rattle.rules.specs.Seat.{seat_gone}

-- why a seat leaves that met this fault
abbrev pub reason_for : Fault → LogoutReason
reason_for (F.Packet fault) = X.BadPacket
reason_for (F.Log fault) = X.Terminating

-- what a receive comes to, where this was said of the packet: a fault ends the connection
abbrev pub closing : Result Received Fault → Pair → Outcome Received
closing (Ok received) s = grants received s
closing (Err fault) s = refuses (refusal_of fault) (seat_gone (reason_for fault) s)

-- whatever a log refuses a message for, it is full to the seat
abbrev pub kept : Result (Unit {0}) Refusal → Result (Unit {0}) LogFault
kept (Ok x) = Ok tt
kept (Err refusal) = Err Full
