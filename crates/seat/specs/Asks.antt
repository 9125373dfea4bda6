-- What the calls of the seat that are neither a receive nor a send do to its side of a pair.
use Rattle.std.specs.Prelude.{ℕ, cond, List}
use Rattle.wire.specs.declared.refusals.Refusal.TheVariants.{ShortBuffer}
use Rattle.rules.specs.declared.phases.How.{How}
use Rattle.rules.specs.State.{Account, Pair}
use Rattle.rules.specs.Changes.{refuses}
use Rattle.rules.specs.Calls.{Done, connect, say}
use Rattle.rules.specs.Rounds.{Say, lent_short}
use Rattle.rules.specs.Sides.{seat_side_of, on_side}

-- the account of a pair that has this one
abbrev pub fields_of : Account → Account
fields_of account = account

-- a connect, on the seat's side
abbrev pub asks : How → Pair → Done
asks how s = on_side seat_side_of (connect how s)

-- a message that is too long is reported before a short buffer
abbrev pub says : List ℕ → Pair → Done
says m s = cond (lent_short (Say m) s) (refuses ShortBuffer s) (say m s)
