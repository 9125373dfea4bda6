-- What is due, in the words of the rules.
use Rattle.std.specs.Prelude.{◌≡◌, true}
use Rattle.message_log.specs.Meaning.{Meaning, nth}
use Rattle.message_log.specs.Calls.{has}
use Rattle.packet.specs.Meanings.{value_of}
use Rattle.packet.specs.Values.{Valid, sequenced}
use Rattle.rules.specs.declared.phases.HubPhase.TheVariants as P
use Rattle.rules.specs.State.{Pair}
use Rattle.rules.specs.Changes.{hub_leaves}
use Rattle.rules.specs.Hub as Hub
use Rattle.hub.specs.declared.dues.Due.{Due}
use Rattle.hub.specs.declared.dues.Due.TheVariants.{Nothing, Shut, Message, Packet}
use Rattle.hub.specs.State.{enters}

abbrev pub due_of : Due → Pair → Hub.Due
due_of Nothing s = Hub.none_due s
due_of Shut s = Hub.none_due (hub_leaves P.Shut s)
due_of (Message number then) s = Hub.due (sequenced number (nth s.running.log number)) (enters then s)
due_of (Packet packet then) s = Hub.due (value_of packet) (enters then s)

-- it can be written: a message is held, and a packet is valid
abbrev pub Writable : Meaning → Due → Type 0
Writable log (Message number then) = has log number ≡ true
Writable log (Packet packet then) = Valid (value_of packet)
Writable log due = Unit {0}
