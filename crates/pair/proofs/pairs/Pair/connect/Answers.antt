use Rattle.std.proofs.Common.{ap, Err, ◌∙◌}
use Rattle.std.proofs.lemmas.Result.{err_from_is_err_and}
use Rattle.std.proofs.lemmas.List.{with_items_is}
use Rattle.line.specs.Lines.{cleared}
use Rattle.hub.specs.Ends as Hub
use Rattle.seat.specs.Asks.{fields_of}
use Rattle.seat.specs.Ends.{side_of}
use Rattle.rules.specs.State.{Buffers}
use Rattle.pair.specs.Meanings.{pair_of}
use Rattle.pair.proofs.Both.{connects_refused, connects_granted}
use Rattle.pair.proofs.pairs.Pair.connect.Goals as goal

pub returns-in_err-ask : goal.returns-in_err-ask
returns-in_err-ask g c hub_log =
    let i = c.buffers.inside in
    let p = c.args.self.now in
    let log = g.S.Log.view c.args.seat_log.now in
    let down = g.D.Line.view c.args.down.now in
    let lent : Buffers = record { hub_frame = i.hub_frame.items; seat_frame = i.seat_frame.items; out = c.deref_mut.result.now } in
    let s = pair_of p hub_log log (g.U.Line.view c.args.up.now) down lent in
    let t = side_of c.ask.new.self log (g.U.Line.view c.ask.new.up) (cleared down) (fields_of p.account) i.seat_frame.items c.ask.new.out in
    let r = err_from_is_err_and c.from_residual.result c.from_residual.ensures.1 in
    rw (← c.buffers.view_is, with_items_is c.buffers.inside.out c.ask.new.out (c.ask.auto.out ∙ c.deref_mut.ensures.len), ← c.deref_mut.ensures.value)
    (connects_refused c.args.how s t _ _ c.in_err-ask.field-0.0 c.in_err-ask.was (r.1 ∙ ap Err r.2) (c.ask.ensures down i.seat_frame.items))

pub returns : goal.returns
returns g c hub_log =
    let i = c.buffers.inside in
    let p = c.args.self.now in
    let log = g.S.Log.view c.args.seat_log.now in
    let up = g.U.Line.view c.args.up.now in
    let down = g.D.Line.view c.args.down.now in
    let lent : Buffers = record { hub_frame = i.hub_frame.items; seat_frame = i.seat_frame.items; out = c.deref_mut.result.now } in
    let s = pair_of p hub_log log up down lent in
    let t = side_of c.ask.new.self log (g.U.Line.view c.ask.new.up) (cleared down) (fields_of p.account) i.seat_frame.items c.ask.new.out in
    let u = Hub.side_of c.await_login.new.self hub_log (cleared up) (g.D.Line.view c.await_login.new.down) c.await_login.new.accounts.rows i.hub_frame.items c.deref_mut.result.now in
    rw (← c.buffers.view_is, with_items_is c.buffers.inside.out c.ask.new.out (c.ask.auto.out ∙ c.deref_mut.ensures.len), ← c.deref_mut.ensures.value)
    (connects_granted c.args.how s t u _ _ c.in_ok-ask.was (c.ask.ensures down i.seat_frame.items) (c.await_login.ensures hub_log up i.hub_frame.items c.deref_mut.result.now))
