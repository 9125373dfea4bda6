use Rattle.std.proofs.Common.{◌≡◌, true, false, length, Err, Result, refl, ap, ◌∙◌, arith, rules}
use Rattle.std.proofs.lemmas.Result.{err_from_is_err_and}
use Rattle.std.proofs.lemmas.Bool.{cond-true, le-ltb}
use Rattle.wire.specs.declared.refusals.Refusal.{Refusal}
use Rattle.wire.specs.Limits.{packet_limit}
use Rattle.packet.specs.Values.{encode, login_request}
use Rattle.line.specs.Lines.{LineView, cleared, fits}
use Rattle.account.specs.Logins.{spoken_version}
use Rattle.rules.specs.Rounds.{too_short}
use Rattle.framing.specs.Calling.{answered}
use Rattle.seat.specs.Ends.{side_of}
use Rattle.seat.specs.declared.seats.Seat.{Seat}
use Rattle.seat.proofs.Asks.{emptied, asks_refused, asks_granted, login_fits}
use Rattle.seat.proofs.seats.Seat.ask.Goals as goal

pub returns-in_err-may_connect : goal.returns-in_err-may_connect
returns-in_err-may_connect g c down frame =
    let log = g.G.Log.view c.args.log.now in
    let up = g.U.Line.view c.args.up.now in
    let account = c.args.account.now in
    let out = c.args.out.now in
    let s = side_of c.args.self.now log up (cleared down) account frame out in
    let e = c.in_err-may_connect.field-0.0 in
    let r = err_from_is_err_and c.from_residual.result c.from_residual.ensures.1 in
    let short : too_short out ≡ false = le-ltb (length out) packet_limit (omega arith) in
    ap (λ (x : Result (Unit {0}) Refusal). answered x s) (r.1 ∙ ap (λ (y : Refusal). Err y) r.2)
    ∙ asks_refused c.args.how s e short (c.may_connect.ensures s ∙ c.in_err-may_connect.was) refl

pub returns : goal.returns
returns g c down frame =
    let log = g.G.Log.view c.args.log.now in
    let a = c.args.account.now in
    let u : length a.user ≡ 5 = search rules in
    let d : length a.computer ≡ 8 = search rules in
    let p : length a.protocol ≡ 8 = search rules in
    let seat = c.args.self.now in
    let begun : Seat = record { state = c.asking.result; filled = 0; unsent = 0; silent = 0 } in
    let up = g.U.Line.view c.args.up.now in
    let cleaned = g.U.Line.view c.clear.new.self in
    let up' = g.U.Line.view c.write.new.up in
    let out = c.args.out.now in
    let v = login_request spoken_version a.user a.computer a.protocol c.asking.result.session c.asking.result.number in
    let short : too_short out ≡ false = le-ltb (length out) packet_limit (omega arith) in
    let f : fits cleaned (encode v) ≡ true =
    ap (λ (x : LineView). fits x (encode v)) c.clear.ensures ∙ login_fits a.user a.computer a.protocol c.asking.result.session c.asking.result.number up u d p (g.met.U.Line.sound c.args.up.now) in
    ap (λ (r : Result (Unit {0}) Refusal). answered r (side_of c.write.new.self log up' (cleared down) a frame c.write.new.out)) (c.write.ensures.answer ∙ cond-true _ _ _ f)
    ∙ asks_granted c.args.how seat begun c.write.new.self log up cleaned up' down a frame out c.write.new.out c.in_ok-may_connect.field-0
    short c.clear.ensures (c.may_connect.ensures (side_of seat log up (cleared down) a frame out) ∙ c.in_ok-may_connect.was)
    (c.asking.ensures (emptied (side_of seat log cleaned (cleared down) a frame out))) f (c.write.ensures.after log (cleared down) a frame)
