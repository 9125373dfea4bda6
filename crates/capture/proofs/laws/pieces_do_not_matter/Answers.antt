use Rattle.capture.proofs.Runs.{pieces_do_not_matter}
use Rattle.capture.proofs.laws.pieces_do_not_matter.Goals as goal

pub returns : goal.returns
returns c = pieces_do_not_matter
