use Rattle.std.proofs.Common.{sym, ◌∙◌, zero-add}
use Rattle.pump.specs.declared.traces.Act.TheVariants as A
use Rattle.pump.proofs.Counts.{same_tally, count_of, tallied_is}
use Rattle.pump.proofs.tallies.tally_of.Goals as goal

pub returns : goal.returns
returns c =
    let events = c.args.events.now in
    same_tally
    (c.count_of.ensures ∙ sym (zero-add (count_of A.Put events)))
    (c.count_of-2.ensures ∙ sym (zero-add (count_of A.Refused events)))
    (c.count_of-3.ensures ∙ sym (zero-add (count_of A.Take events)))
    ∙ sym (tallied_is (record { puts = 0; refusals = 0; takes = 0 }) events)
