use Rattle.std.proofs.Common.{add-one}
use Rattle.rules.proofs.Keeps.{buffers_last}
use Rattle.pair.proofs.Drains.{still_long}
use Rattle.relay.proofs.Bringing.{noted_no_round, noted_round}
use Rattle.relay.proofs.relays.Relay.go_rounds.Goals as goal

pub loop-init : goal.loop-init
loop-init g c = record { long = c.requires; rounds = noted_no_round _ }

pub loop-preserved : goal.loop-preserved
loop-preserved g c = record {
  long = still_long (buffers_last _ _ _ c.perform.ensures.performs.step) c.loop.invariant.long;
  rounds = rw add-one (noted_round _ _ c.loop.invariant.long c.loop.invariant.rounds c.perform.ensures);
}
