-- Each refusal's number has a count.
use Rattle.std.proofs.Common.{◌<◌, arith}
use Rattle.wire.specs.declared.refusals.Refusal.{Refusal}
use Rattle.wire.specs.declared.refusals.Refusal.TheVariants.{MessageTooLong, SessionZero, NoSuchMessage, ShortBuffer, SizeOutOfRange, BadAccountField, BrokenLog, BadPacket, LogFull, LineFull, WrongPhase, SessionFinished, HubBusy, LastSession, NoSession, NothingToFetch, AccountTaken, OutOfMemory}
use Rattle.wire.specs.Refusals.{number}

pub number_below : (r : Refusal) → number r < 32
number_below MessageTooLong = omega arith
number_below SessionZero = omega arith
number_below NoSuchMessage = omega arith
number_below ShortBuffer = omega arith
number_below SizeOutOfRange = omega arith
number_below BadAccountField = omega arith
number_below (BrokenLog place) = omega arith
number_below (BadPacket fault) = omega arith
number_below LogFull = omega arith
number_below LineFull = omega arith
number_below WrongPhase = omega arith
number_below SessionFinished = omega arith
number_below HubBusy = omega arith
number_below LastSession = omega arith
number_below NoSession = omega arith
number_below NothingToFetch = omega arith
number_below AccountTaken = omega arith
number_below OutOfMemory = omega arith
