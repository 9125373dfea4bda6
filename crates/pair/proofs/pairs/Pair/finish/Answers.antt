use Rattle.std.proofs.Common.{refl}
use Rattle.rules.specs.Calls.{finish}
use Rattle.rules.specs.Rounds.{Finish, finishes}
use Rattle.pair.proofs.Sides.{hub_does, of_finish}
use Rattle.pair.proofs.pairs.Pair.finish.Goals as goal

pub returns : goal.returns
returns c hub_log seat_log up down lent =
    hub_does finish Finish _ _ _ of_finish refl (λ q. finishes) refl (c.finish.ensures hub_log up down c.args.self.now.accounts.rows lent.hub_frame lent.out)
