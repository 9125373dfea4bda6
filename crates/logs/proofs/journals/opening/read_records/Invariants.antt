use Rattle.std.proofs.Common.{◌-◌, length}
use Rattle.logs.proofs.Laying.{ReadTo}
use Rattle.logs.proofs.journals.opening.read_records.Given as goal

abbrev pub invariant-loop-at : goal.invariant-loop-at
invariant-loop-at l = ReadTo l.bytes l.session l.count l.at l.index.items

abbrev pub decreases-loop-at : goal.decreases-loop-at
decreases-loop-at l = length l.bytes - l.at
