use Rattle.pump.proofs.Draws.{drawn_none, drawn_more}
use Rattle.pump.proofs.pumpers.Pumper.drain.Goals as goal

pub loop-self-init : goal.loop-self-init
loop-self-init g c = drawn_none _ _

pub loop-self-preserved : goal.loop-self-preserved
loop-self-preserved g c = drawn_more c.loop-self.invariant c.in_ok-draw.ensures
