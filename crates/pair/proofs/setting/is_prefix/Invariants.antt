use Rattle.std.proofs.Common.{◌≡◌, drop}
use Rattle.rules.specs.SetUp.{first_of}
use Rattle.pair.proofs.setting.is_prefix.Given as goal

abbrev pub invariant-loop-index : goal.invariant-loop-index
invariant-loop-index g l =
    first_of (g.S.Log.view l.prefix).messages (g.G.Log.view l.log).messages
    ≡ first_of (drop l.index (g.S.Log.view l.prefix).messages) (drop l.index (g.G.Log.view l.log).messages)
