use Rattle.pair.proofs.pairs.Pair.status.Goals as goal

pub returns : goal.returns
returns c hub_log seat_log up down lent = c.status.ensures lent.seat_frame
