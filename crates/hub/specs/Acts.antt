-- What comes of a packet that was read.
use Rattle.std.specs.Prelude.{Ok, Err, Result}
use Rattle.wire.specs.declared.faults.PacketFault.{PacketFault}
use Rattle.rules.specs.declared.answers.Received.{Received}
use Rattle.rules.specs.State.{Pair, Outcome}
use Rattle.rules.specs.Changes.{grants}
use Rattle.rules.specs.Hub.{hub_bad}

-- what a receive comes to, where this was said of the packet: a fault ends the connection
abbrev pub closing : Result Received PacketFault → Pair → Outcome Received
closing (Ok received) s = grants received s
closing (Err fault) s = hub_bad fault s
