use Rattle.account.proofs.Marking.{marks_one_row, found_as_before}
use Rattle.account.proofs.Deciding.{lets_in_one}
use Rattle.account.proofs.laws.marking_touches_one_row.Goals as goal

pub returns : goal.returns
returns c = record { one = marks_one_row; found = found_as_before; shut = lets_in_one }
