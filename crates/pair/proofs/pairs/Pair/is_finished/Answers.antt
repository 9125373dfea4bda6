use Rattle.pair.proofs.pairs.Pair.is_finished.Goals as goal

pub returns : goal.returns
returns c hub_log seat_log up down lent = c.is_finished.ensures hub_log
