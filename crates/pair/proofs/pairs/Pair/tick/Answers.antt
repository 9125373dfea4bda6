use Rattle.std.proofs.Common.{ap, Err, ◌∙◌}
use Rattle.std.proofs.lemmas.Result.{err_from_is_err_and}
use Rattle.std.proofs.lemmas.List.{with_items_is}
use Rattle.hub.specs.Ends.{side_of}
use Rattle.seat.specs.Asks.{fields_of}
use Rattle.rules.specs.State.{Buffers}
use Rattle.pair.specs.Meanings.{pair_of}
use Rattle.pair.proofs.Both.{ticks_refused, ticks_both}
use Rattle.pair.proofs.pairs.Pair.tick.Goals as goal

pub returns-in_err-tick : goal.returns-in_err-tick
returns-in_err-tick g c hub_log seat_log up =
    let i = c.buffers.inside in
    let lent : Buffers = record { hub_frame = i.hub_frame.items; seat_frame = i.seat_frame.items; out = c.deref_mut.result.now } in
    let s = pair_of c.args.self.now hub_log seat_log up (g.D.Line.view c.args.down.now) lent in
    let u = side_of c.tick.new.self hub_log up (g.D.Line.view c.tick.new.down) c.tick.new.accounts.rows i.hub_frame.items c.tick.new.out in
    let r = err_from_is_err_and c.from_residual.result c.from_residual.ensures.1 in
    rw (← c.buffers.view_is, with_items_is c.buffers.inside.out c.tick.new.out (c.tick.auto.out ∙ c.deref_mut.ensures.len), ← c.deref_mut.ensures.value)
    (ticks_refused s u _ _ c.in_err-tick.field-0.0 c.in_err-tick.was (r.1 ∙ ap Err r.2) (c.tick.ensures hub_log up i.hub_frame.items))

pub returns : goal.returns
returns g c hub_log seat_log up =
    let i = c.buffers.inside in
    let p = c.args.self.now in
    let down = g.D.Line.view c.tick.new.down in
    let lent : Buffers = record { hub_frame = i.hub_frame.items; seat_frame = i.seat_frame.items; out = c.deref_mut.result.now } in
    let s = pair_of p hub_log seat_log up (g.D.Line.view c.args.down.now) lent in
    let u = side_of c.tick.new.self hub_log up down c.tick.new.accounts.rows i.hub_frame.items c.tick.new.out in
    rw (← c.buffers.view_is, with_items_is c.buffers.inside.out c.tick.new.out (c.tick.auto.out ∙ c.deref_mut.ensures.len), ← c.deref_mut.ensures.value)
    (ticks_both s _ u _ _ c.in_ok-tick.was (c.tick.ensures hub_log up i.hub_frame.items) (c.tick-2.ensures seat_log up down (fields_of p.account) i.seat_frame.items c.tick.new.out))
