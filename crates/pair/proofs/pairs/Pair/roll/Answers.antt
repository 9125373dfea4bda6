use Rattle.std.proofs.Common.{refl}
use Rattle.rules.specs.Calls.{roll}
use Rattle.rules.specs.Rounds.{Roll, rolls}
use Rattle.pair.proofs.Sides.{hub_does, of_roll}
use Rattle.pair.proofs.pairs.Pair.roll.Goals as goal

pub returns : goal.returns
returns g c seat_log up down lent =
    hub_does roll Roll _ _ _ of_roll refl (λ q. rolls) refl (c.roll.ensures up down c.args.self.now.accounts.rows lent.hub_frame lent.out)
