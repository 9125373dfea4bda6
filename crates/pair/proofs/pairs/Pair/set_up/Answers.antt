use Rattle.std.proofs.Common.{ap, sym, ◌∙◌}
use Rattle.rules.specs.State.{Pair}
use Rattle.hub.specs.Ends.{unfinished}
use Rattle.pair.specs.Makings.{parts_of}
use Rattle.pair.proofs.Makings.{sets_up}
use Rattle.pair.proofs.pairs.Pair.set_up.Goals as goal

pub returns-in-Ok : goal.returns-in-Ok
returns-in-Ok g c up down =
    let lent = c.args.buffers.now in
    let log = g.G.Log.view c.start.new.log in
    let parts = parts_of (g.G.Log.view c.args.hub_log.now) (g.S.Log.view c.args.seat_log.now) up down c.args.accounts c.args.texts lent in
    let h = c.new-in-Ok.ensures log up down parts.rows lent.hub_frame lent.out in
    sets_up parts c.in-Ok.account _ _ _ _ (sym c.is_short.ensures ∙ c.if-is_short.false)
    (sym c.follows.ensures ∙ c.if-not-follows.false) c.new.ensures c.in-Ok.is
    (ap (λ (x : Pair). x.running) h ∙ ap unfinished c.start.ensures) (ap (λ (x : Pair). x.hub) h) (c.new-in-Ok-2.ensures lent.seat_frame)
