use Rattle.pair.proofs.pairs.Pair.in_step.Goals as goal

pub returns : goal.returns
returns c hub_log seat_log up down lent = c.in_step.ensures lent.seat_frame
