-- Counting events.
use Rattle.std.specs.Prelude.{◌+◌, List, [], ◌∷◌}
use Rattle.pump.specs.declared.traces.Act.{Act}
use Rattle.pump.specs.declared.traces.Act.TheVariants as A
use Rattle.pump.specs.declared.traces.Event.{Event}
use Rattle.pump.specs.declared.tallies.Tally.{Tally}

abbrev pub counted : Tally → Act → Tally
counted t A.Put = record t { puts = t.puts + 1 }
counted t A.Refused = record t { refusals = t.refusals + 1 }
counted t A.Take = record t { takes = t.takes + 1 }

abbrev pub tallied_from : Tally → List Event → Tally
tallied_from t [] = t
tallied_from t (d ∷ ds) = tallied_from (counted t d.act) ds

abbrev pub tallied : List Event → Tally
tallied events = tallied_from (record { puts = 0; refusals = 0; takes = 0 }) events
