use Rattle.rules.proofs.Keeps.{lines_stay_sound}
use Rattle.rules.proofs.Total.{total, rounds_granted, goes_on_by_taking}
use Rattle.rules.proofs.laws.rules_are_total.Goals as goal

pub returns : goal.returns
returns c = record { total = total; granted = rounds_granted; ending = goes_on_by_taking; sound = lines_stay_sound }
