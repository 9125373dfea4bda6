use Rattle.capture.proofs.Turns.{reached_none, reached_end}
use Rattle.capture.proofs.explainers.explain.Goals as goal

pub loop-init : goal.loop-init
loop-init g c = reached_none _ c.new-explainer.ensures.fresh

pub returns-in-Some : goal.returns-in-Some
returns-in-Some g c = reached_end _ _ c.loop.invariant c.in_ok-ending.field-0 c.in-Some.ending c.in-Some.is c.in_ok-ending.ensures.turned
