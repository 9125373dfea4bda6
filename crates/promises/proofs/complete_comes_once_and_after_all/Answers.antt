use Rattle.promises.proofs.Completes.{complete_once, complete_after_all}
use Rattle.promises.proofs.complete_comes_once_and_after_all.Goals as goal

pub returns : goal.returns
returns c = record { once = complete_once; after_all = complete_after_all }
