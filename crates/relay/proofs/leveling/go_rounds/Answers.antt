use Rattle.std.proofs.Common.{add-one}
use Rattle.promises.specs.Runs.{no_round}
use Rattle.rules.proofs.Keeps.{buffers_last}
use Rattle.pair.proofs.Drains.{still_long}
use Rattle.relay.proofs.Bringing.{never_refused, rounds_next}
use Rattle.relay.proofs.leveling.go_rounds.Goals as goal

pub loop-init : goal.loop-init
loop-init g c = record { long = c.requires; rounds = no_round _ }

pub returns-in_err-round : goal.returns-in_err-round
returns-in_err-round g c = absurd (never_refused _ _ _ c.loop.invariant.long c.in_err-round.ensures)

pub loop-preserved : goal.loop-preserved
loop-preserved g c = record {
  long = still_long (buffers_last _ _ _ c.in_ok-round.ensures.1) c.loop.invariant.long;
  rounds = rw add-one (rounds_next c.loop.invariant.rounds c.in_ok-round.ensures);
}
