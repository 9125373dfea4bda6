use Rattle.std.proofs.Common.{Ok, Err, Option, Result, sym, ap, ◌∙◌}
use Rattle.std.proofs.lemmas.Result.{err_from_is_err_and}
use Rattle.wire.specs.declared.faults.Fault.{Fault}
use Rattle.packet.specs.declared.packets.Packet.{Packet}
use Rattle.packet.specs.Decoding.{part, whole}
use Rattle.packet.specs.Meanings.{answer_of, value_of}
use Rattle.rules.specs.declared.answers.Received.{Received}
use Rattle.framing.proofs.Fills.{fewer_after}
use Rattle.seat.specs.Acts.{closing}
use Rattle.seat.specs.Ends.{side_of}
use Rattle.seat.proofs.Frames.{hears_judged, taken}
use Rattle.seat.proofs.seats.Seat.hear.Goals as goal

pub returns-in_err-judge-clause-outcome : goal.returns-in_err-judge-clause-outcome
returns-in_err-judge-clause-outcome g c up account out =
    let s = c.args.self.now in
    let v = g.D.Line.view c.args.down.now in
    let w = g.D.Line.view c.fill-count.new.line in
    let buf = c.args.frame.now in
    let buf' = c.fill-count.new.frame in
    let k = c.fill-count.result in
    let log = g.G.Log.view c.args.log.now in
    let fault = c.in_err-judge.field-0.0 in
    let r = err_from_is_err_and c.from_residual.result c.from_residual.ensures.1 in
    let j = sym (ap answer_of c.in_err-judge.was) ∙ c.judge.ensures in
    ap (λ (x : Result Received Fault). closing x (side_of (taken 0 s) log up w account buf' out)) (r.1 ∙ ap (λ (y : Fault). Err y) r.2)
    ∙ hears_judged s log up v w account buf buf' out k (Err fault) c.requires c.fill-count.ensures c.if-count-eq0.false j

pub returns-in-None-clause-outcome : goal.returns-in-None-clause-outcome
returns-in-None-clause-outcome g c up account out =
    let s = c.args.self.now in
    let v = g.D.Line.view c.args.down.now in
    let w = g.D.Line.view c.fill-count.new.line in
    let buf = c.args.frame.now in
    let buf' = c.fill-count.new.frame in
    let k = c.fill-count.result in
    let log = g.G.Log.view c.args.log.now in
    let j = sym (ap answer_of (c.in_ok-judge.was ∙ ap (λ (x : Option Packet). Ok x) c.in-None.is)) ∙ c.judge.ensures in
    hears_judged s log up v w account buf buf' out k (Ok part) c.requires c.fill-count.ensures c.if-count-eq0.false j

pub returns-in-Some-clause-outcome : goal.returns-in-Some-clause-outcome
returns-in-Some-clause-outcome g c up account out =
    let s = c.args.self.now in
    let v = g.D.Line.view c.args.down.now in
    let w = g.D.Line.view c.fill-count.new.line in
    let buf = c.args.frame.now in
    let buf' = c.fill-count.new.frame in
    let k = c.fill-count.result in
    let log = g.G.Log.view c.args.log.now in
    let packet = c.in-Some.packet in
    let j = sym (ap answer_of (c.in_ok-judge.was ∙ ap (λ (x : Option Packet). Ok x) c.in-Some.is)) ∙ c.judge.ensures in
    c.act.ensures (side_of (taken 0 s) log up w account buf' out)
    ∙ hears_judged s log up v w account buf buf' out k (Ok (whole (value_of packet))) c.requires c.fill-count.ensures c.if-count-eq0.false j

pub returns-in-Some-clause-fewer : goal.returns-in-Some-clause-fewer
returns-in-Some-clause-fewer g c =
    fewer_after c.act.result _ _ _ _ _ _ _ c.if-count-eq0.false c.fill-count.ensures
