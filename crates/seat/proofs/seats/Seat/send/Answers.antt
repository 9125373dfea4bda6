use Rattle.std.proofs.Common.{◌≡◌, false, length, Ok, Err, Result, sym, refl, ap, ◌∙◌, arith, Some, Option}
use Rattle.std.proofs.lemmas.Result.{err_from_is_err_and}
use Rattle.std.proofs.lemmas.Bool.{cond-true, cond-false, le-ltb}
use Rattle.wire.specs.declared.refusals.Refusal.{Refusal}
use Rattle.wire.specs.declared.refusals.Refusal.TheVariants.{LineFull}
use Rattle.wire.specs.declared.letters.Letter.{Letter}
use Rattle.wire.specs.Limits.{packet_limit}
use Rattle.packet.specs.Meanings.{value_of}
use Rattle.packet.specs.Values.{letter}
use Rattle.rules.specs.State.{Pair}
use Rattle.rules.specs.Rounds.{too_short}
use Rattle.framing.specs.Calling.{answered}
use Rattle.seat.specs.Ends.{side_of}
use Rattle.seat.specs.declared.state.SeatState.{SeatState}
use Rattle.framing.proofs.Posts.{roomy_granted, roomy_refused}
use Rattle.seat.proofs.Writes.{requested_in, sends_granted, sends_none, sends_refused}
use Rattle.seat.proofs.seats.Seat.send.Goals as goal

pub returns-in_default : goal.returns-in_default
returns-in_default g c down account frame =
    let log = g.G.Log.view c.args.log.now in
    let out = c.args.out.now in
    let s = side_of c.args.self.now log (g.U.Line.view c.args.up.now) down account frame out in
    let short : too_short out ≡ false = le-ltb (length out) packet_limit (omega arith) in
    sends_none c.args.self.now.state log s c.due.result c.in_default.not-Some short (sym c.is_apart.ensures ∙ c.if-is_apart.false) refl (c.due.ensures.due s refl)

pub returns-in_err-write : goal.returns-in_err-write
returns-in_err-write g c down account frame =
    let v = value_of c.in-Some.due.packet in
    let up = g.U.Line.view c.args.up.now in
    let out = c.args.out.now in
    let log = g.G.Log.view c.args.log.now in
    let s = side_of c.args.self.now log up down account frame out in
    let t = side_of c.write.new.self log (g.U.Line.view c.write.new.up) down account frame c.write.new.out in
    let short : too_short out ≡ false = le-ltb (length out) packet_limit (omega arith) in
    let q = roomy_refused v up c.in_err-write.field-0.0 (sym c.write.ensures.answer ∙ c.in_err-write.was) in
    let r = err_from_is_err_and c.from_residual.result c.from_residual.ensures.1 in
    ap (λ (a : Result (Option Letter) Refusal). answered a t) (r.1 ∙ ap (λ (y : Refusal). Err y) (r.2 ∙ q.1))
    ∙ ap (λ (x : Pair). answered {R = Option Letter} (Err LineFull) x) (c.write.ensures.after log down account frame ∙ cond-false _ _ _ q.0)
    ∙ sym (sends_refused s (requested_in c.in-Some.due.requested s) v short (sym c.is_apart.ensures ∙ c.if-is_apart.false) (c.in-Some.ensures.due s refl) q.0)

pub returns : goal.returns
returns g c down account frame =
    let v = value_of c.in-Some.due.packet in
    let requested = c.in-Some.due.requested in
    let up = g.U.Line.view c.args.up.now in
    let out = c.args.out.now in
    let log = g.G.Log.view c.args.log.now in
    let s = side_of c.args.self.now log up down account frame out in
    let t = side_of c.write.new.self log (g.U.Line.view c.write.new.up) down account frame c.write.new.out in
    let short : too_short out ≡ false = le-ltb (length out) packet_limit (omega arith) in
    let f = roomy_granted v up c.in_ok-write.field-0 (sym c.write.ensures.answer ∙ c.in_ok-write.was) in
    ap (λ (x : SeatState). answered {R = Option Letter} (Ok (Some c.letter.result)) (side_of (record { state = x; filled = c.write.new.self.filled; unsent = c.write.new.self.unsent; silent = c.write.new.self.silent }) log (g.U.Line.view c.write.new.up) down account frame c.write.new.out)) c.set_requested.ensures
    ∙ ap (λ (l : Letter). answered {R = Option Letter} (Ok (Some l)) (requested_in requested t)) c.letter.ensures
    ∙ ap (λ (x : Pair). answered {R = Option Letter} (Ok (Some (letter v))) (requested_in requested x)) (c.write.ensures.after log down account frame ∙ cond-true _ _ _ f)
    ∙ sym (sends_granted s (requested_in requested s) v short (sym c.is_apart.ensures ∙ c.if-is_apart.false) (c.in-Some.ensures.due s refl) f)
