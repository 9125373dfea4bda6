use Rattle.std.proofs.Common.{sym, arith}
use Rattle.rules.specs.Rounds.{HubReceives}
use Rattle.rules.proofs.Keeps.{buffers_last}
use Rattle.rules.proofs.Total.{goes_on_by_taking}
use Rattle.pair.proofs.Drains.{ahead_none, ahead_more, ahead_ends, one_at_most, hub_received, no_shorter, as_long}
use Rattle.pair.proofs.pairs.Pair.drain_hub.Goals as goal

pub loop-fault-init : goal.loop-fault-init
loop-fault-init g c = record { count = omega arith; lengths = as_long _; ahead = λ seat_log. ahead_none HubReceives _ }

pub returns-in-Stop : goal.returns-in-Stop
returns-in-Stop g c =
    let log = g.G.Log.view c.args.hub_log.now in
    let long = c.loop-fault.invariant.lengths in
    record {
      lengths = no_shorter long (buffers_last _ _ _ (c.hub_receive.ensures log));
      drained = λ seat_log.
          ahead_ends HubReceives _ _ _ _ _ (c.loop-fault.invariant.ahead seat_log)
          (hub_received (c.hub_receive.ensures seat_log) (omega (arith, long.hub_frame)) (omega (arith, long.out))) (sym c.in-Stop.ensures);
    }

pub overflow_add-packets : goal.overflow_add-packets
overflow_add-packets g c =
    let long = c.loop-fault.invariant.lengths in
    let one = one_at_most c.hub_receive.result _ (sym c.in-Continue.ensures) in
    let fewer = goes_on_by_taking.hub _ _ _ (hub_received (c.hub_receive.ensures (g.G.Log.view c.args.hub_log.now)) (omega (arith, long.hub_frame)) (omega (arith, long.out))) (sym c.in-Continue.ensures) in
    omega arith

pub loop-fault-smaller : goal.loop-fault-smaller
loop-fault-smaller g c =
    let long = c.loop-fault.invariant.lengths in
    goes_on_by_taking.hub _ _ _ (hub_received (c.hub_receive.ensures (g.G.Log.view c.args.hub_log.now)) (omega (arith, long.hub_frame)) (omega (arith, long.out))) (sym c.in-Continue.ensures)

pub loop-fault-preserved : goal.loop-fault-preserved
loop-fault-preserved g c =
    let log = g.G.Log.view c.args.hub_log.now in
    let long = c.loop-fault.invariant.lengths in
    let fewer = goes_on_by_taking.hub _ _ _ (hub_received (c.hub_receive.ensures log) (omega (arith, long.hub_frame)) (omega (arith, long.out))) (sym c.in-Continue.ensures) in
    let one = one_at_most c.hub_receive.result _ (sym c.in-Continue.ensures) in
    record {
      count = omega arith;
      lengths = no_shorter long (buffers_last _ _ _ (c.hub_receive.ensures log));
      ahead = λ seat_log.
          ahead_more HubReceives _ _ _ _ _ (c.loop-fault.invariant.ahead seat_log)
          (hub_received (c.hub_receive.ensures seat_log) (omega (arith, long.hub_frame)) (omega (arith, long.out))) (sym c.in-Continue.ensures);
    }
