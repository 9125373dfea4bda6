use Rattle.std.proofs.Common.{refl, ◌∙◌}
use Rattle.std.proofs.lemmas.List.{with_items_is}
use Rattle.rules.specs.Calls.{say}
use Rattle.rules.specs.Rounds.{Say, says}
use Rattle.seat.specs.Asks.{fields_of}
use Rattle.pair.proofs.Sides.{seat_does, of_say}
use Rattle.pair.proofs.pairs.Pair.say.Goals as goal

pub returns : goal.returns
returns g c hub_log seat_log down =
    let m = c.args.message.now in
    rw (← c.buffers.view_is, with_items_is c.buffers.inside.out c.say.new.out (c.say.auto.out ∙ c.deref_mut.ensures.len), ← c.deref_mut.ensures.value)
    (seat_does (say m) (Say m) _ _ _ (of_say m) refl (says m) refl (c.say.ensures seat_log down (fields_of c.args.self.now.account) c.buffers.inside.seat_frame.items))
