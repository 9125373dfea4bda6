use Rattle.std.proofs.Common.{◌≡◌, ◌∙◌, true, false, sym, refl, ap, subst}
use Rattle.rules.specs.Rounds.{Round, lent_short}
use Rattle.rules.proofs.Keeps.{buffers_last}
use Rattle.promises.specs.Promises.{rounds_needed}
use Rattle.pair.proofs.Drains.{still_long}
use Rattle.relay.specs.Levels.{how_of, login_answer}
use Rattle.relay.specs.CallHistory.{CallHistory}
use Rattle.relay.proofs.Bringing.{levels_and_notes}
use Rattle.relay.proofs.relays.Relay.bring_level.Goals as goal

pub returns-then-is_short : goal.returns-then-is_short
returns-then-is_short g c = (refl, subst (λ x. lent_short Round x.pair ≡ true) c.self.view_is (sym c.is_short.ensures ∙ c.if-is_short.true), refl)

pub go_rounds-requires : goal.go_rounds-requires
go_rounds-requires g c =
    let long : lent_short Round c.args.self.now.pair ≡ false = subst (λ x. lent_short Round x.pair ≡ false) c.self.view_is (sym c.is_short.ensures ∙ c.if-is_short.false) in
    still_long (buffers_last _ _ _ c.perform.ensures.performs.step) long

pub returns : goal.returns
returns g c =
    let h = c.args.self.now in
    let long : lent_short Round h.pair ≡ false = subst (λ x. lent_short Round x.pair ≡ false) c.self.view_is (sym c.is_short.ensures ∙ c.if-is_short.false) in
    let as_many : c.rounds-rounds.result ≡ rounds_needed (how_of c.args.way) h.pair = subst (λ x. c.rounds-rounds.result ≡ rounds_needed (how_of c.args.way) x.pair) c.self.view_is c.rounds-rounds.ensures in
    let i = c.self-2.inside.owned in
    let log = g.G.Log.view i.hub_log in
    let held = g.S.Log.view i.seat_log in
    let up = g.U.Line.view i.up in
    let down = g.D.Line.view i.down in (
      levels_and_notes c.args.way c.how.result h c.perform.new.self c.go_rounds.new.self c.perform.result c.rounds-rounds.result c.promises.ensures.happened long c.how.ensures as_many c.perform.ensures c.go_rounds.ensures,
      rw (c.login_answer.ensures, c.seat_phase.ensures log held up down i.buffers, c.status.ensures log held up down i.buffers) (ap (λ (x : CallHistory). login_answer x.pair.seat) c.self-2.view_is),
    )
