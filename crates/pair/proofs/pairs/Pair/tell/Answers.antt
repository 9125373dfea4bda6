use Rattle.std.proofs.Common.{refl, ◌∙◌}
use Rattle.std.proofs.lemmas.List.{with_items_is}
use Rattle.rules.specs.Calls.{tell}
use Rattle.rules.specs.Rounds.{Tell, tells}
use Rattle.pair.proofs.Sides.{hub_does, of_tell}
use Rattle.pair.proofs.pairs.Pair.tell.Goals as goal

pub returns : goal.returns
returns g c hub_log seat_log up =
    let m = c.args.message.now in
    rw (← c.buffers.view_is, with_items_is c.buffers.inside.out c.tell.new.out (c.tell.auto.out ∙ c.deref_mut.ensures.len), ← c.deref_mut.ensures.value)
    (hub_does (tell m) (Tell m) _ _ _ (of_tell m) refl (tells m) refl (c.tell.ensures hub_log up c.args.self.now.accounts.rows c.buffers.inside.hub_frame.items))
