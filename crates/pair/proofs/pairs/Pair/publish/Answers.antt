use Rattle.std.proofs.Common.{refl}
use Rattle.rules.specs.Calls.{publish}
use Rattle.rules.specs.Rounds.{Publish, publishes}
use Rattle.pair.proofs.Sides.{hub_does, of_publish}
use Rattle.pair.proofs.pairs.Pair.publish.Goals as goal

pub returns : goal.returns
returns g c seat_log up down lent =
    hub_does (publish c.args.message.now) (Publish c.args.message.now) _ _ _ (of_publish c.args.message.now) refl (λ q. publishes c.args.message.now) refl (c.publish.ensures up down c.args.self.now.accounts.rows lent.hub_frame lent.out)
