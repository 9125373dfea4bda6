use Rattle.std.proofs.Common.{◌≡◌, true, false, [], length, Ok, sym, ap, ◌∙◌, arith}
use Rattle.std.proofs.lemmas.Bool.{le-ltb}
use Rattle.wire.specs.Limits.{packet_limit}
use Rattle.wire.specs.declared.logouts.LogoutReason.TheVariants as X
use Rattle.packet.specs.Values.{Value, encode, logout_request}
use Rattle.line.specs.Lines.{fits}
use Rattle.rules.specs.State.{Pair}
use Rattle.rules.specs.Rounds.{too_short}
use Rattle.framing.specs.Calling.{answered}
use Rattle.seat.specs.Ends.{side_of}
use Rattle.seat.proofs.Asks.{leaves_granted}
use Rattle.seat.proofs.seats.Seat.leave.Goals as goal

pub returns : goal.returns
returns g c log down account frame =
    let up = g.U.Line.view c.args.up.now in
    let out = c.args.out.now in
    let s = side_of c.args.self.now log up down account frame out in
    let short : too_short out ≡ false = le-ltb (length out) packet_limit (omega arith) in
    let f : fits up (encode (logout_request X.Done [])) ≡ true = ap (λ (v : Value). fits up (encode v)) (sym c.logout.ensures) ∙ sym c.if-not-has_room.ensures in
    ap (λ (x : Pair). answered (Ok tt) x) (c.part.ensures log down account frame)
    ∙ leaves_granted s short f (sym c.if-is_apart.ensures)
