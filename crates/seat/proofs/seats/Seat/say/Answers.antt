use Rattle.std.proofs.Common.{◌≡◌, false, length, Ok, Result, sym, ap, ◌∙◌, arith}
use Rattle.std.proofs.lemmas.Bool.{cond-true, le-ltb}
use Rattle.wire.specs.declared.refusals.Refusal.{Refusal}
use Rattle.wire.specs.Limits.{packet_limit}
use Rattle.rules.specs.State.{Pair}
use Rattle.rules.specs.Rounds.{too_short}
use Rattle.framing.specs.Calling.{answered}
use Rattle.seat.specs.Ends.{side_of}
use Rattle.seat.proofs.Asks.{says_granted}
use Rattle.seat.proofs.seats.Seat.say.Goals as goal

pub returns-in-Live : goal.returns-in-Live
returns-in-Live g c log down account frame =
    let up = g.U.Line.view c.args.up.now in
    let out = c.args.out.now in
    let s = side_of c.args.self.now log up down account frame out in
    let t = side_of c.write.new.self log (g.U.Line.view c.write.new.up) down account frame c.write.new.out in
    let f = sym c.if-not-has_room.ensures in
    let short : too_short out ≡ false = le-ltb (length out) packet_limit (omega arith) in
    ap (λ (r : Result (Unit {0}) Refusal). answered r t) (c.write.ensures.answer ∙ cond-true _ _ _ f)
    ∙ ap (λ (x : Pair). answered (Ok tt) x) (c.write.ensures.after log down account frame ∙ cond-true _ _ _ f)
    ∙ says_granted c.args.message.now s (omega arith) short f c.in-Live.is
