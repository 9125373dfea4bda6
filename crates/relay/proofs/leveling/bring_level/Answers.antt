use Rattle.std.proofs.Common.{◌∙◌, refl, sym}
use Rattle.rules.proofs.Keeps.{buffers_last}
use Rattle.pair.proofs.Drains.{still_long}
use Rattle.relay.proofs.Bringing.{connect_granted, levels}
use Rattle.relay.proofs.leveling.bring_level.Goals as goal

pub returns-then-is_short : goal.returns-then-is_short
returns-then-is_short g c = (refl, sym c.is_short.ensures ∙ c.if-is_short.true, refl)

pub returns-in_err-connect : goal.returns-in_err-connect
returns-in_err-connect g c =
    absurd (connect_granted c.args.way c.how.result _ _ _ c.how.ensures (sym c.is_short.ensures ∙ c.if-is_short.false) (c.in_err-connect.ensures (g.G.Log.view c.args.hub_log.now)))

pub go_rounds-requires : goal.go_rounds-requires
go_rounds-requires g c =
    still_long (buffers_last _ _ _ (c.connect.ensures (g.G.Log.view c.args.hub_log.now))) (sym c.is_short.ensures ∙ c.if-is_short.false)

pub returns : goal.returns
returns g c =
    let log = g.G.Log.view c.args.hub_log.now in
    let held = g.S.Log.view c.go_rounds.new.seat_log in
    let up = g.U.Line.view c.go_rounds.new.up in
    let down = g.D.Line.view c.go_rounds.new.down in
    let lent = c.go_rounds.new.buffers in (
      levels c.args.way c.how.result _ _ _ _ c.how.ensures (sym c.is_short.ensures ∙ c.if-is_short.false) (c.connect.ensures log) c.rounds-rounds.ensures c.go_rounds.ensures.rounds,
      rw (c.login_answer.ensures, c.seat_phase.ensures log held up down lent, c.status.ensures log held up down lent) refl,
    )
