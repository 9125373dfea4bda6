use Rattle.capture.specs.Explained.{Reached}
use Rattle.capture.proofs.explainers.explain.Given as goal

abbrev pub invariant-loop : goal.invariant-loop
invariant-loop g l = Reached l.explainer
