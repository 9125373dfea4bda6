-- What a pair of any kinds means.
use Rattle.std.specs.Prelude.{ℕ, List}
use Rattle.rules.specs.State.{Pair}

pub record PairWithCounts : Type 0 where
  -- the pair with all that its calls are lent
  pub pair : Pair
  -- how many packets were put on each line, by letter
  pub up : List ℕ
  pub down : List ℕ
