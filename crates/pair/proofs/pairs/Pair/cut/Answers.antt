use Rattle.line.specs.Lines.{cleared}
use Rattle.hub.specs.Ends as Hub
use Rattle.seat.specs.Asks.{fields_of}
use Rattle.seat.specs.Ends as Seat
use Rattle.pair.specs.Meanings.{pair_of}
use Rattle.pair.proofs.Both.{cuts_both}
use Rattle.pair.proofs.pairs.Pair.cut.Goals as goal

pub returns : goal.returns
returns g c hub_log seat_log lent =
    let p = c.args.self.now in
    let up = g.U.Line.view c.args.up.now in
    let down = g.D.Line.view c.args.down.now in
    let u = Hub.side_of c.cut.new.self hub_log (cleared up) (cleared down) c.cut.new.accounts.rows lent.hub_frame lent.out in
    let t = Seat.side_of c.cut-2.new.self seat_log (cleared up) (cleared down) (fields_of p.account) lent.seat_frame lent.out in
    cuts_both (pair_of p hub_log seat_log up down lent) t u (g.U.Line.view c.clear.new.self) (g.D.Line.view c.clear-2.new.self) c.clear.ensures c.clear-2.ensures
    (c.cut.ensures hub_log up down lent.hub_frame lent.out) (c.cut-2.ensures seat_log up down (fields_of p.account) lent.seat_frame lent.out)
