use Rattle.std.proofs.Common.{refl, ◌∙◌}
use Rattle.std.proofs.lemmas.List.{with_items_is}
use Rattle.pair.proofs.Sides.{hub_sends_due}
use Rattle.pair.proofs.pairs.Pair.hub_send.Goals as goal

pub returns : goal.returns
returns g c seat_log up =
    rw (← c.buffers.view_is, with_items_is c.buffers.inside.out c.send.new.out (c.send.auto.out ∙ c.deref_mut.ensures.len), ← c.deref_mut.ensures.value)
    (hub_sends_due _ _ _ refl (c.send.ensures up c.buffers.inside.hub_frame.items))
