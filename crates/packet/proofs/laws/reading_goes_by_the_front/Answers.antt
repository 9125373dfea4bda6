use Rattle.packet.proofs.Fronts.{ignores_rest, beginnings_are_parts, reports_early, knows_no_phase}
use Rattle.packet.proofs.laws.reading_goes_by_the_front.Goals as goal

pub returns : goal.returns
returns c = record { rest = ignores_rest; beginnings = beginnings_are_parts; early = reports_early; phaseless = knows_no_phase }
