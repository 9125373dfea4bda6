use Rattle.pair.proofs.pairs.Pair.seat_phase.Goals as goal

pub returns : goal.returns
returns c hub_log seat_log up down lent = c.phase.ensures lent.seat_frame
