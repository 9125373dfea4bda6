use Rattle.std.proofs.Common.{refl, ◌∙◌}
use Rattle.std.proofs.lemmas.List.{with_items_is}
use Rattle.rules.specs.Calls.{leave}
use Rattle.rules.specs.Rounds.{Leave, leaves}
use Rattle.seat.specs.Asks.{fields_of}
use Rattle.pair.proofs.Sides.{seat_does, of_leave}
use Rattle.pair.proofs.pairs.Pair.leave.Goals as goal

pub returns : goal.returns
returns g c hub_log seat_log down =
    rw (← c.buffers.view_is, with_items_is c.buffers.inside.out c.leave.new.out (c.leave.auto.out ∙ c.deref_mut.ensures.len), ← c.deref_mut.ensures.value)
    (seat_does leave Leave _ _ _ of_leave refl leaves refl (c.leave.ensures seat_log down (fields_of c.args.self.now.account) c.buffers.inside.seat_frame.items))
