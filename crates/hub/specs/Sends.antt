-- What a send does to the hub's side of a pair.
use Rattle.std.specs.Prelude.{Option}
use Rattle.wire.specs.declared.letters.Letter.{Letter}
use Rattle.rules.specs.State.{Pair, Outcome}
use Rattle.rules.specs.Hub.{Sending, hub_sends}

-- a send, but for the packet that it wrote: its caller gets the letter
abbrev pub told : Sending → Outcome (Option Letter)
told sending = record { answer = sending.answer; after = sending.after }

abbrev pub sends : Pair → Outcome (Option Letter)
sends s = told (hub_sends s)
