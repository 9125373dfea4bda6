-- What a receive's answer means for a round, in the words of the rules.
use Rattle.rules.specs.Rounds as Rules
use Rattle.pair.specs.declared.rounds.Going.{Going}
use Rattle.pair.specs.declared.rounds.Going.TheVariants.{Stop, Continue}

abbrev pub meant : Going → Rules.Going
meant (Stop fault) = Rules.stop fault
meant (Continue more) = Rules.continue more
