-- Takes one after the other.
use Rattle.std.proofs.Common.{refl, ◌∙◌, subst}
use Rattle.line.specs.Lines.{LineView}
use Rattle.pump.specs.declared.pumpers.Pumper.{Pumper}
use Rattle.pump.specs.Pumping.{Step, pump, none, more}
use Rattle.pump.specs.Pumpers.{Drew, Drawn}

pub drawn_none : (v : LineView) (p : Pumper) → Drawn v p v p
drawn_none v p = record { steps = λ input fed. none; long = refl }

pub drawn_more : {v w x : LineView} {p q r : Pumper} → Drawn v p w q → Drew w q x r → Drawn v p x r
drawn_more {v} {w} {x} {p} {q} {r} a b =
    record {
      steps = λ input fed.
          more (a.steps input fed) (subst (λ n. Step input n (pump w fed q.trace) (pump x fed r.trace)) a.long (b.step input fed));
      long = b.long ∙ a.long;
    }
