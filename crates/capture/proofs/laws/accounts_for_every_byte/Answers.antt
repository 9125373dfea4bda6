use Rattle.capture.proofs.Runs.{accounts_for_every_byte}
use Rattle.capture.proofs.laws.accounts_for_every_byte.Goals as goal

pub returns : goal.returns
returns c = accounts_for_every_byte
