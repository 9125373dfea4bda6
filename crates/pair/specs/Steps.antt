-- Calls as steps of the rules, from a pair before a call to its answer and to the pair after it.
use Rattle.std.specs.Prelude.{None, Option, Result}
use Rattle.wire.specs.declared.refusals.Refusal.{Refusal}
use Rattle.wire.specs.declared.letters.Letter.{Letter}
use Rattle.packet.specs.Values.{Value}
use Rattle.rules.specs.declared.answers.Received.{Received}
use Rattle.rules.specs.declared.answers.Report.{Report}
use Rattle.rules.specs.State.{Pair}
use Rattle.rules.specs.declared.answers.Answer.TheVariants as Answer
use Rattle.rules.specs.Rounds.{Call, HubReceive, SeatReceive, HubSend, SeatSend, Round, Step}

-- a call that is done or refused
abbrev pub Does : Call → Pair → Result (Unit {0}) Refusal → Pair → Type 0
Does call s answer t = Step s call (record { answer = Answer.Done answer; wrote = None; after = t })

-- an end receives once
abbrev pub ReceivesAtHub : Pair → Result Received Refusal → Pair → Type 0
ReceivesAtHub s answer t = Step s HubReceive (record { answer = Answer.Received answer; wrote = None; after = t })

abbrev pub ReceivesAtSeat : Pair → Result Received Refusal → Pair → Type 0
ReceivesAtSeat s answer t = Step s SeatReceive (record { answer = Answer.Received answer; wrote = None; after = t })

-- an end sends once, and answers the letter of the packet that it wrote
abbrev pub SendsFromHub : Pair → Result (Option Letter) Refusal → Pair → Type 0
SendsFromHub s answer t =
    (wrote : Option Value) × Step s HubSend (record { answer = Answer.Sent answer; wrote = wrote; after = t })

abbrev pub SendsFromSeat : Pair → Result (Option Letter) Refusal → Pair → Type 0
SendsFromSeat s answer t = Step s SeatSend (record { answer = Answer.Sent answer; wrote = None; after = t })

-- a round
abbrev pub GoesRound : Pair → Result Report Refusal → Pair → Type 0
GoesRound s answer t =
    (wrote : Option Value) × Step s Round (record { answer = Answer.Round answer; wrote = wrote; after = t })
