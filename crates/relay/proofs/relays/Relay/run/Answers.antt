use Rattle.std.proofs.Common.{None, add-one, arith}
use Rattle.rules.specs.declared.phases.How.TheVariants.{Join}
use Rattle.relay.specs.declared.commands.Call.TheVariants.{Connect}
use Rattle.relay.proofs.Filling.{noted_none, noted_next, noted_all}
use Rattle.relay.proofs.relays.Relay.run.Goals as goal

pub loop-slot-init : goal.loop-slot-init
loop-slot-init g c = noted_none _ _

pub loop-slot-preserved : goal.loop-slot-preserved
loop-slot-preserved g c =
    rw add-one (noted_next (record { call = Connect Join; answer = None }) c.perform-answer.result c.loop-slot.invariant c.loop-slot-test.true c.perform-answer.ensures)

pub returns : goal.returns
returns g c = noted_all c.promises.ensures.happened c.loop-slot.invariant (omega arith)
