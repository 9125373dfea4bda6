-- Calls of a program, in the words of the rules.
use Rattle.relay.specs.declared.commands.Call.{Call}
use Rattle.relay.specs.declared.commands.Call.TheVariants as C
use Rattle.rules.specs.Rounds as R

abbrev pub call_of : Call → R.Call
call_of (C.Connect how) = R.Connect how
call_of C.Cut = R.Cut
call_of (C.Publish message) = R.Publish message.now
call_of C.Finish = R.Finish
call_of C.Roll = R.Roll
call_of (C.Tell message) = R.Tell message.now
call_of (C.Say message) = R.Say message.now
call_of C.Leave = R.Leave
call_of C.HubReceive = R.HubReceive
call_of C.SeatReceive = R.SeatReceive
call_of C.HubSend = R.HubSend
call_of C.SeatSend = R.SeatSend
call_of C.Tick = R.Tick
call_of C.Round = R.Round
