use Rattle.std.proofs.Common.{subst}
use Rattle.relay.specs.Calls.{call_of}
use Rattle.relay.specs.OwnedPairs.{meaning_of}
use Rattle.relay.specs.CallHistory.{CallHistory, PerformsAndNotes}
use Rattle.relay.proofs.History.{happens_next, performs_and_notes}
use Rattle.relay.proofs.relays.Relay.perform.Goals as goal

pub invariant_of-self : goal.invariant_of-self
invariant_of-self g c =
    let i = c.self.inside in
    let h : CallHistory = record { first = meaning_of g.G.Log.view g.S.Log.view g.U.Line.view g.D.Line.view i.first.value; calls = i.made.list; pair = meaning_of g.G.Log.view g.S.Log.view g.U.Line.view g.D.Line.view i.owned } in
    happens_next h _ (call_of c.args.call) c.perform-answer.result c.and-self-inside.result.list c.self.invariant c.perform-answer.ensures c.and-self-inside.ensures

pub returns : goal.returns
returns g c =
    let i = c.self.inside in
    let h : CallHistory = record { first = meaning_of g.G.Log.view g.S.Log.view g.U.Line.view g.D.Line.view i.first.value; calls = i.made.list; pair = meaning_of g.G.Log.view g.S.Log.view g.U.Line.view g.D.Line.view i.owned } in
    let t = meaning_of g.G.Log.view g.S.Log.view g.U.Line.view g.D.Line.view c.perform-answer.new.self in
    subst (λ x. PerformsAndNotes x (call_of c.args.call) c.perform-answer.result (record { first = h.first; calls = c.and-self-inside.result.list; pair = t })) c.self.view_is
    (performs_and_notes h t (call_of c.args.call) c.perform-answer.result c.and-self-inside.result.list c.self.invariant c.perform-answer.ensures c.and-self-inside.ensures)
