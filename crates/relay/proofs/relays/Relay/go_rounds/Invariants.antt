use Rattle.std.proofs.Common.{◌≡◌, false}
use Rattle.rules.specs.Rounds.{Round, lent_short}
use Rattle.relay.specs.CallHistory.{RoundsAndNotes}
use Rattle.relay.proofs.relays.Relay.go_rounds.Given as goal

abbrev pub invariant-loop : goal.invariant-loop
invariant-loop g l = record {
  long : lent_short Round l.self.pair ≡ false;
  rounds : RoundsAndNotes l.counter l.initial.self l.self;
}
