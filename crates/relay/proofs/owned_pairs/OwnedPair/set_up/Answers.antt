use Rattle.std.proofs.Common.{◌≡◌, Err, sym, subst}
use Rattle.rules.specs.SetUp.{Parts, set_up}
use Rattle.relay.proofs.History.{set_up_of}
use Rattle.relay.proofs.owned_pairs.OwnedPair.set_up.Goals as goal

pub returns-in-Ok : goal.returns-in-Ok
returns-in-Ok g c =
    let i = c.parts.inside in
    let up = g.U.Line.view i.up in
    let down = g.D.Line.view i.down in
    let lent : Parts = record { hub_log = g.G.Log.view i.hub_log; seat_log = g.S.Log.view i.seat_log; up = up; down = down; rows = i.accounts.rows; user = c.deref.result.now; computer = c.deref-2.result.now; protocol = c.deref-3.result.now; buffers = i.buffers } in
    let same : lent ≡ c.args.parts = rw (c.deref.ensures.value, c.deref-2.ensures.value, c.deref-3.ensures.value) c.parts.view_is in
    set_up_of lent c.args.parts same (g.met.G.Log.sound i.hub_log) (g.met.S.Log.sound i.seat_log)
    (record { sound = g.met.U.Line.sound i.up; within = (g.met.U.Line.sound i.up).within })
    (record { sound = g.met.D.Line.sound i.down; within = (g.met.D.Line.sound i.down).within })
    (c.in-Ok.ensures up down)

pub returns-in-Err : goal.returns-in-Err
returns-in-Err g c =
    let i = c.parts.inside in
    let up = g.U.Line.view i.up in
    let down = g.D.Line.view i.down in
    let lent : Parts = record { hub_log = g.G.Log.view i.hub_log; seat_log = g.S.Log.view i.seat_log; up = up; down = down; rows = i.accounts.rows; user = c.deref.result.now; computer = c.deref-2.result.now; protocol = c.deref-3.result.now; buffers = i.buffers } in
    let same : lent ≡ c.args.parts = rw (c.deref.ensures.value, c.deref-2.ensures.value, c.deref-3.ensures.value) c.parts.view_is in
    let e = c.in-Err.ensures up down in
    (subst (λ x. set_up x ≡ Err c.in-Err.unmade.refusal) same (sym e.0), rw (e.1, e.2) c.parts.view_is)
