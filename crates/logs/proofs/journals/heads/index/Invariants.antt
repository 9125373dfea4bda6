use Rattle.logs.proofs.journals.heads.index.Given as goal

abbrev pub invariant-loop-room : goal.invariant-loop-room
invariant-loop-room l = Unit {0}

abbrev pub decreases-loop-room : goal.decreases-loop-room
decreases-loop-room l = l.room
