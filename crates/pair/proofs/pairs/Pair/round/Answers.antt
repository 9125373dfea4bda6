use Rattle.std.proofs.Common.{None, sym, ◌∙◌}
use Rattle.rules.specs.Rounds.{Round, short_buffer}
use Rattle.rules.proofs.Keeps.{buffers_last}
use Rattle.pair.proofs.Drains.{long, all_long, longer, round_goes}
use Rattle.pair.proofs.pairs.Pair.round.Goals as goal

pub returns-then-is_short : goal.returns-then-is_short
returns-then-is_short g c = (None, short_buffer Round (sym c.is_short.ensures ∙ c.if-is_short.true))

pub drain_hub-hub-requires : goal.drain_hub-hub-requires
drain_hub-hub-requires g c =
    let a = all_long c.args.buffers.now (sym c.is_short.ensures ∙ c.if-is_short.false) in
    record { frame = a.hub_frame; out = a.out }

pub drain_seat-seat-requires : goal.drain_seat-seat-requires
drain_seat-seat-requires g c =
    let a = all_long c.args.buffers.now (sym c.is_short.ensures ∙ c.if-is_short.false) in
    let heard = longer c.drain_hub-hub.ensures.lengths a in
    let sent = longer (buffers_last _ _ _ (c.hub_send.ensures (g.S.Log.view c.args.seat_log.now) (g.U.Line.view c.drain_hub-hub.new.up)).1) heard in
    record { frame = sent.seat_frame; out = sent.out }

pub returns : goal.returns
returns g c =
    let held = g.S.Log.view c.args.seat_log.now in
    let a = all_long c.args.buffers.now (sym c.is_short.ensures ∙ c.if-is_short.false) in
    let heard = longer c.drain_hub-hub.ensures.lengths a in
    let hub_sent = c.hub_send.ensures held (g.U.Line.view c.drain_hub-hub.new.up) in
    let sent = longer (buffers_last _ _ _ hub_sent.1) heard in
    let taken = longer c.drain_seat-seat.ensures.lengths sent in
    round_goes _ _ _ _ _ _ c.hub_send.result c.seat_send.result
    (sym c.is_short.ensures ∙ c.if-is_short.false)
    (c.drain_hub-hub.ensures.drained held)
    (long c.drain_hub-hub.new.buffers.out heard.out)
    hub_sent
    (c.drain_seat-seat.ensures.drained (g.G.Log.view c.args.hub_log.now))
    (long c.drain_seat-seat.new.buffers.out taken.out)
    (c.seat_send.ensures _ _)
