use Rattle.std.proofs.Common.{refl, ◌∙◌}
use Rattle.std.proofs.lemmas.List.{with_items_is}
use Rattle.pair.proofs.Sides.{hub_receives_once}
use Rattle.pair.proofs.pairs.Pair.hub_receive.Goals as goal

pub returns : goal.returns
returns g c seat_log =
    rw (← c.buffers.view_is, with_items_is c.buffers.inside.hub_frame c.receive.new.frame (c.receive.auto.frame ∙ c.deref_mut.ensures.len), with_items_is c.buffers.inside.out c.receive.new.out (c.receive.auto.out ∙ c.deref_mut-2.ensures.len), ← c.deref_mut.ensures.value, ← c.deref_mut-2.ensures.value)
    (hub_receives_once _ _ _ refl c.receive.ensures)
