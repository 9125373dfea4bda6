use Rattle.std.proofs.Common.{subst}
use Rattle.relay.specs.CallHistory.{Happened}
use Rattle.relay.proofs.History.{promises_hold}
use Rattle.relay.proofs.relays.Relay.promises.Goals as goal

pub returns : goal.returns
returns g c = promises_hold (subst Happened c.self.view_is c.self.invariant)
