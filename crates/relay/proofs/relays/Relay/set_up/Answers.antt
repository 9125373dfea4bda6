use Rattle.relay.specs.OwnedPairs.{meaning_of}
use Rattle.relay.proofs.History.{begins_with}
use Rattle.relay.proofs.relays.Relay.set_up.Goals as goal

pub invariant_of-result : goal.invariant_of-result
invariant_of-result g c =
    rw (c.of-first.ensures, c.new.ensures) (begins_with (meaning_of g.G.Log.view g.S.Log.view g.U.Line.view g.D.Line.view c.in_ok-owned.owned) (c.in_ok-owned.ensures).1)
