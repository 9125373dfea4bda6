use Rattle.account.proofs.Only.{folds, finds_by_folded, finds_the_same}
use Rattle.account.proofs.laws.one_row_is_found.Goals as goal

pub returns : goal.returns
returns c = record { folds = folds; folded = finds_by_folded; order = finds_the_same }
