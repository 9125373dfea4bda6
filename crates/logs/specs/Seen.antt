-- A record that is read, by its mark and its body.
use Rattle.std.specs.Prelude.{ℕ, List, Ok, Err, Result}
use Rattle.logs.specs.declared.records.Mark.{Mark}
use Rattle.logs.specs.declared.records.Record.{Record}
use Rattle.logs.specs.declared.records.RecordFault.{RecordFault}

abbrev pub seen : Result Record RecordFault → Result (Mark × List ℕ) RecordFault
seen (Ok r) = Ok (r.mark, r.body.now)
seen (Err f) = Err f

abbrev pub whole : Mark → List ℕ → Result (Mark × List ℕ) RecordFault
whole mark body = Ok (mark, body)
