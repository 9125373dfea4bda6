use Rattle.std.proofs.Common.{None, add-one, arith}
use Rattle.rules.specs.declared.phases.How.TheVariants.{Join}
use Rattle.relay.specs.declared.commands.Call.TheVariants.{Connect}
use Rattle.relay.proofs.Filling.{filled_none, filled_next, filled_all}
use Rattle.relay.proofs.running.run.Goals as goal

pub loop-slot-init : goal.loop-slot-init
loop-slot-init g c = filled_none _ _

pub loop-slot-preserved : goal.loop-slot-preserved
loop-slot-preserved g c =
    rw add-one (filled_next (record { call = Connect Join; answer = None }) c.perform-answer.result c.loop-slot.invariant c.loop-slot-test.true c.perform-answer.ensures).filled

pub returns : goal.returns
returns g c = filled_all c.loop-slot.invariant (omega arith)
