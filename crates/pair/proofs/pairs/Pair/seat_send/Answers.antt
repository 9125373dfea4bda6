use Rattle.std.proofs.Common.{refl, ◌∙◌}
use Rattle.std.proofs.lemmas.List.{with_items_is}
use Rattle.seat.specs.Asks.{fields_of}
use Rattle.pair.proofs.Sides.{seat_sends_due}
use Rattle.pair.proofs.pairs.Pair.seat_send.Goals as goal

pub returns : goal.returns
returns g c hub_log down =
    rw (← c.buffers.view_is, with_items_is c.buffers.inside.out c.send.new.out (c.send.auto.out ∙ c.deref_mut.ensures.len), ← c.deref_mut.ensures.value)
    (seat_sends_due _ _ _ refl (c.send.ensures down (fields_of c.args.self.now.account) c.buffers.inside.seat_frame.items))
