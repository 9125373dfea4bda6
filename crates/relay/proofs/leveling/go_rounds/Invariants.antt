use Rattle.std.proofs.Common.{◌≡◌, false}
use Rattle.rules.specs.Rounds.{Step}
use Rattle.promises.specs.Runs.{GrantedRounds}
use Rattle.pair.specs.Lent.{any_short}
use Rattle.pair.specs.Meanings.{pair_of}
use Rattle.relay.proofs.leveling.go_rounds.Given as goal

abbrev pub invariant-loop : goal.invariant-loop
invariant-loop g l = record {
  long : any_short l.buffers ≡ false;
  rounds : GrantedRounds Step l.counter
      (pair_of l.initial.pair (g.G.Log.view l.hub_log) (g.S.Log.view l.initial.seat_log) (g.U.Line.view l.initial.up) (g.D.Line.view l.initial.down) l.initial.buffers)
      (pair_of l.pair (g.G.Log.view l.hub_log) (g.S.Log.view l.seat_log) (g.U.Line.view l.up) (g.D.Line.view l.down) l.buffers);
}
