use Rattle.counterexamples.proofs.Early.{early_complete_lies}
use Rattle.counterexamples.proofs.early_complete_lies.Goals as goal

pub returns : goal.returns
returns c = early_complete_lies
