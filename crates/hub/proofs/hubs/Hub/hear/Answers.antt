use Rattle.std.proofs.Common.{Ok, Err, Option, Result, sym, ap, ◌∙◌}
use Rattle.std.proofs.lemmas.Result.{err_from_is_err_and}
use Rattle.wire.specs.declared.faults.PacketFault.{PacketFault}
use Rattle.packet.specs.declared.packets.Packet.{Packet}
use Rattle.packet.specs.Decoding.{part, whole}
use Rattle.packet.specs.Meanings.{answer_of, value_of}
use Rattle.rules.specs.declared.answers.Received.{Received}
use Rattle.hub.specs.Acts.{closing}
use Rattle.hub.specs.Ends.{side_of}
use Rattle.hub.proofs.Frames.{hears_judged, taken}
use Rattle.hub.proofs.hubs.Hub.hear.Goals as goal

pub returns-in_err-judge-clause-outcome : goal.returns-in_err-judge-clause-outcome
returns-in_err-judge-clause-outcome g c down out =
    let s = c.args.self.now in
    let v = g.U.Line.view c.args.up.now in
    let w = g.U.Line.view c.fill-count.new.line in
    let buf = c.args.frame.now in
    let buf' = c.fill-count.new.frame in
    let k = c.fill-count.result in
    let log = g.G.Log.view c.args.log.now in
    let rows = c.args.accounts.now.rows in
    let fault = c.in_err-judge.field-0.0 in
    let r = err_from_is_err_and c.from_residual.result c.from_residual.ensures.1 in
    let j = sym (ap answer_of c.in_err-judge.was) ∙ c.judge.ensures in
    ap (λ (x : Result Received PacketFault). closing x (side_of (taken 0 s) log w down rows buf' out)) (r.1 ∙ ap (λ (y : PacketFault). Err y) r.2)
    ∙ hears_judged s log v w down rows buf buf' out k (Err fault) c.requires c.fill-count.ensures c.if-count-eq0.false j

pub returns-in-None-clause-outcome : goal.returns-in-None-clause-outcome
returns-in-None-clause-outcome g c down out =
    let s = c.args.self.now in
    let v = g.U.Line.view c.args.up.now in
    let w = g.U.Line.view c.fill-count.new.line in
    let buf = c.args.frame.now in
    let buf' = c.fill-count.new.frame in
    let k = c.fill-count.result in
    let log = g.G.Log.view c.args.log.now in
    let j = sym (ap answer_of (c.in_ok-judge.was ∙ ap (λ (x : Option Packet). Ok x) c.in-None.is)) ∙ c.judge.ensures in
    hears_judged s log v w down c.args.accounts.now.rows buf buf' out k (Ok part) c.requires c.fill-count.ensures c.if-count-eq0.false j

pub returns-in-Some-clause-outcome : goal.returns-in-Some-clause-outcome
returns-in-Some-clause-outcome g c down out =
    let s = c.args.self.now in
    let v = g.U.Line.view c.args.up.now in
    let w = g.U.Line.view c.fill-count.new.line in
    let buf = c.args.frame.now in
    let buf' = c.fill-count.new.frame in
    let k = c.fill-count.result in
    let log = g.G.Log.view c.args.log.now in
    let rows = c.args.accounts.now.rows in
    let packet = c.in-Some.packet in
    let j = sym (ap answer_of (c.in_ok-judge.was ∙ ap (λ (x : Option Packet). Ok x) c.in-Some.is)) ∙ c.judge.ensures in
    c.act.ensures (side_of (taken 0 s) log w down rows buf' out)
    ∙ hears_judged s log v w down rows buf buf' out k (Ok (whole (value_of packet))) c.requires c.fill-count.ensures c.if-count-eq0.false j
