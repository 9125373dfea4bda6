use Rattle.std.proofs.Common.{◌≡◌, cond, sym, ap, ◌∙◌}
use Rattle.pump.specs.declared.traces.Act.TheVariants as A
use Rattle.pump.proofs.Laws.{offered}
use Rattle.pump.proofs.traces.Trace.offer.Goals as goal
use Rattle.pump.proofs.traces.Trace.offer.Goals.{then-granted, else-granted}

pub returns : goal.returns
returns g c =
    let act : c.if-granted.act ≡ cond c.is_ok-granted.result A.Put A.Refused =
    elim c.if-granted.branch [
      | then-granted w ↦ w.act-is ∙ ap (λ b. cond b A.Put A.Refused) (sym w.if-granted.true)
      | else-granted w ↦ w.act-is ∙ ap (λ b. cond b A.Put A.Refused) (sym w.if-granted.false)
    ]
    in
    offered c.args.piece.now c.put.result c.is_ok-granted.result c.if-granted.act c.is_ok-granted.ensures.value act c.put.ensures c.in_ok-note.ensures
