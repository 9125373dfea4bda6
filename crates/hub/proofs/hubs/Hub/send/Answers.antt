use Rattle.std.proofs.Common.{List, Some, Err, Option, sym, ap, refl, ◌∙◌, arith}
use Rattle.std.proofs.lemmas.Result.{err_from_is_err_and}
use Rattle.account.specs.declared.rows.Row.{Row}
use Rattle.wire.specs.declared.letters.Letter.{Letter}
use Rattle.message_log.specs.Meaning.{nth}
use Rattle.packet.specs.Meanings.{value_of}
use Rattle.packet.specs.Values.{sequenced}
use Rattle.rules.specs.declared.phases.HubPhase.TheVariants.{Shut}
use Rattle.rules.specs.State.{Pair}
use Rattle.rules.specs.Changes.{grants, hub_leaves}
use Rattle.hub.specs.declared.state.HubState.{HubState}
use Rattle.hub.specs.State.{left_in}
use Rattle.hub.specs.Ends.{side_of}
use Rattle.hub.proofs.Writes.{sends_none, sends_refused, sends_written}
use Rattle.hub.proofs.hubs.Hub.send.Goals as goal

pub returns-in-Nothing : goal.returns-in-Nothing
returns-in-Nothing g c up frame =
    let rows = c.args.accounts.now.rows in
    let s = side_of c.args.self.now (g.G.Log.view c.args.log.now) up (g.D.Line.view c.args.down.now) rows frame c.args.out.now in
    sends_none s s s (omega arith) (sym c.is_shut.ensures ∙ c.if-is_shut.false) (c.in-Nothing.ensures.due rows s refl refl) refl

pub returns-in-Shut : goal.returns-in-Shut
returns-in-Shut g c up frame =
    let a = c.args.self.now in
    let rows = c.args.accounts.now.rows in
    let side : HubState → List Row → Pair = λ f rows.
    side_of (record { state = f; finished = a.finished; filled = a.filled; unsent = a.unsent; silent = a.silent; waited = a.waited }) (g.G.Log.view c.args.log.now) up (g.D.Line.view c.args.down.now) rows frame c.args.out.now in
    let s = side a.state rows in
    sends_none s _ (hub_leaves Shut s) (omega arith) (sym c.is_shut.ensures ∙ c.if-is_shut.false) (c.in-Shut.ensures.due rows s refl refl)
    (ap (λ (f : HubState). side f c.leave.new.accounts.rows) c.leave.ensures.after ∙ ap (side (left_in Shut)) c.leave.ensures.rows)

pub returns-in_err-write_message-in-Message : goal.returns-in_err-write_message-in-Message
returns-in_err-write_message-in-Message g c up frame =
    let log = g.G.Log.view c.args.log.now in
    let rows = c.args.accounts.now.rows in
    let s = side_of c.args.self.now log up (g.D.Line.view c.args.down.now) rows frame c.args.out.now in
    let n = c.in-Message.number in
    let r = err_from_is_err_and c.from_residual.result c.from_residual.ensures.1 in
    sends_refused s _ (sequenced n (nth log n)) c.in-Message.then _ c.from_residual.result (omega arith) (sym c.is_shut.ensures ∙ c.if-is_shut.false) (c.in-Message.ensures.due rows s refl refl)
    (sym c.write_message.ensures.answer ∙ c.in_err-write_message-in-Message.was) (r.1 ∙ ap Err r.2) (c.write_message.ensures.after up rows frame)

pub returns-in_ok-write_message-in-Message : goal.returns-in_ok-write_message-in-Message
returns-in_ok-write_message-in-Message g c up frame =
    let log = g.G.Log.view c.args.log.now in
    let rows = c.args.accounts.now.rows in
    let s = side_of c.args.self.now log up (g.D.Line.view c.args.down.now) rows frame c.args.out.now in
    let t = side_of c.write_message.new.self log up (g.D.Line.view c.write_message.new.down) rows frame c.write_message.new.out in
    let n = c.in-Message.number in
    sends_written s t _ (sequenced n (nth log n)) c.in-Message.then c.in_ok-write_message-in-Message.field-0 (omega arith) (sym c.is_shut.ensures ∙ c.if-is_shut.false) (c.in-Message.ensures.due rows s refl refl)
    (sym c.write_message.ensures.answer ∙ c.in_ok-write_message-in-Message.was) (c.write_message.ensures.after up rows frame) (c.enter.ensures log t)

pub returns-in_err-write-in-Packet : goal.returns-in_err-write-in-Packet
returns-in_err-write-in-Packet g c up frame =
    let log = g.G.Log.view c.args.log.now in
    let rows = c.args.accounts.now.rows in
    let s = side_of c.args.self.now log up (g.D.Line.view c.args.down.now) rows frame c.args.out.now in
    let r = err_from_is_err_and c.from_residual-in_err-write-in-Packet.result c.from_residual-in_err-write-in-Packet.ensures.1 in
    sends_refused s _ (value_of c.in-Packet.packet) c.in-Packet.then _ c.from_residual-in_err-write-in-Packet.result (omega arith) (sym c.is_shut.ensures ∙ c.if-is_shut.false) (c.in-Packet.ensures.due rows s refl refl)
    (sym c.write.ensures.answer ∙ c.in_err-write-in-Packet.was) (r.1 ∙ ap Err r.2) (c.write.ensures.after log up rows frame)

pub returns-in_ok-write-in-Packet : goal.returns-in_ok-write-in-Packet
returns-in_ok-write-in-Packet g c up frame =
    let log = g.G.Log.view c.args.log.now in
    let rows = c.args.accounts.now.rows in
    let w = c.write.new.self in
    let s = side_of c.args.self.now log up (g.D.Line.view c.args.down.now) rows frame c.args.out.now in
    let t = side_of w log up (g.D.Line.view c.write.new.down) rows frame c.write.new.out in
    let u = side_of (record { state = c.enter-in-Packet.new.self; finished = w.finished; filled = w.filled; unsent = w.unsent; silent = w.silent; waited = w.waited }) log up (g.D.Line.view c.write.new.down) c.enter-in-Packet.new.accounts.rows frame c.write.new.out in
    ap (λ (l : Letter). grants {R = Option Letter} (Some l) u) c.letter.ensures
    ∙ sends_written s t u (value_of c.in-Packet.packet) c.in-Packet.then c.in_ok-write-in-Packet.field-0 (omega arith) (sym c.is_shut.ensures ∙ c.if-is_shut.false) (c.in-Packet.ensures.due rows s refl refl)
    (sym c.write.ensures.answer ∙ c.in_ok-write-in-Packet.was) (c.write.ensures.after log up rows frame) (c.enter-in-Packet.ensures log t)
