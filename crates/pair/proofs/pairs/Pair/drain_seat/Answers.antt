use Rattle.std.proofs.Common.{sym, arith}
use Rattle.rules.specs.Rounds.{SeatReceives}
use Rattle.rules.proofs.Keeps.{buffers_last}
use Rattle.rules.proofs.Total.{goes_on_by_taking}
use Rattle.pair.proofs.Drains.{ahead_none, ahead_more, ahead_ends, one_at_most, seat_received, no_shorter, as_long}
use Rattle.pair.proofs.pairs.Pair.drain_seat.Goals as goal

pub loop-fault-init : goal.loop-fault-init
loop-fault-init g c = record { count = omega arith; lengths = as_long _; ahead = λ hub_log. ahead_none SeatReceives _ }

pub returns-in-Stop : goal.returns-in-Stop
returns-in-Stop g c =
    let log = g.S.Log.view c.args.seat_log.now in
    let long = c.loop-fault.invariant.lengths in
    record {
      lengths = no_shorter long (buffers_last _ _ _ (c.seat_receive.ensures log));
      drained = λ hub_log.
          ahead_ends SeatReceives _ _ _ _ _ (c.loop-fault.invariant.ahead hub_log)
          (seat_received (c.seat_receive.ensures hub_log) (omega (arith, long.seat_frame)) (omega (arith, long.out))) (sym c.in-Stop.ensures);
    }

pub overflow_add-packets : goal.overflow_add-packets
overflow_add-packets g c =
    let long = c.loop-fault.invariant.lengths in
    let one = one_at_most c.seat_receive.result _ (sym c.in-Continue.ensures) in
    let fewer = goes_on_by_taking.seat _ _ _ (seat_received (c.seat_receive.ensures (g.S.Log.view c.args.seat_log.now)) (omega (arith, long.seat_frame)) (omega (arith, long.out))) (sym c.in-Continue.ensures) in
    omega arith

pub loop-fault-smaller : goal.loop-fault-smaller
loop-fault-smaller g c =
    let long = c.loop-fault.invariant.lengths in
    goes_on_by_taking.seat _ _ _ (seat_received (c.seat_receive.ensures (g.S.Log.view c.args.seat_log.now)) (omega (arith, long.seat_frame)) (omega (arith, long.out))) (sym c.in-Continue.ensures)

pub loop-fault-preserved : goal.loop-fault-preserved
loop-fault-preserved g c =
    let log = g.S.Log.view c.args.seat_log.now in
    let long = c.loop-fault.invariant.lengths in
    let fewer = goes_on_by_taking.seat _ _ _ (seat_received (c.seat_receive.ensures log) (omega (arith, long.seat_frame)) (omega (arith, long.out))) (sym c.in-Continue.ensures) in
    let one = one_at_most c.seat_receive.result _ (sym c.in-Continue.ensures) in
    record {
      count = omega arith;
      lengths = no_shorter long (buffers_last _ _ _ (c.seat_receive.ensures log));
      ahead = λ hub_log.
          ahead_more SeatReceives _ _ _ _ _ (c.loop-fault.invariant.ahead hub_log)
          (seat_received (c.seat_receive.ensures hub_log) (omega (arith, long.seat_frame)) (omega (arith, long.out))) (sym c.in-Continue.ensures);
    }
