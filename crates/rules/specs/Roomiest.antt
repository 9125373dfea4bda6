-- One effect of each call, as a function: that in which every take leaves all the room of its line.
use Rattle.std.specs.Prelude.{ℕ, zero, suc, ◌+◌, cond, length, None, Ok, Option}
use Rattle.wire.specs.declared.faults.Fault.{Fault}
use Rattle.wire.specs.declared.refusals.Refusal.TheVariants.{WrongPhase}
use Rattle.rules.specs.declared.answers.Received.{Received}
use Rattle.rules.specs.declared.answers.Heard.{Heard}
use Rattle.rules.specs.State.{Pair, Outcome}
use Rattle.rules.specs.Changes.{refuses}
use Rattle.rules.specs.Frames.{lack, given, left}
use Rattle.rules.specs.Hub.{listens, hub_hears, hub_sends}
use Rattle.rules.specs.Seat.{is_apart, seat_hears, seat_sends}
use Rattle.rules.specs.Calls.{done, connect, cut, publish, finish, roll, tell, say, leave, tick}
use Rattle.rules.specs.declared.answers.Answer.TheVariants as Answer
use Rattle.rules.specs.Rounds.{Going, stop, continue, going, Call, Connect, Cut, Publish, Finish, Roll, Tell, Say, Leave, HubReceive, SeatReceive, HubSend, SeatSend, Tick, Round, lent_short, Effect, did, took, sent, posted, stopped}

abbrev pub hub_takes : Pair → Outcome Received
hub_takes s =
    cond (listens s.hub.phase)
    (hub_hears (given s.up (lack s.hub.frame)) (left s.up (lack s.hub.frame) s.up.full) s)
    (refuses WrongPhase s)

abbrev pub seat_takes : Pair → Outcome Received
seat_takes s =
    cond (is_apart s.seat.phase) (refuses WrongPhase s)
    (seat_hears (given s.down (lack s.seat.frame)) (left s.down (lack s.seat.frame) s.down.full) s)

-- what came of all the receives of an end
pub record Drain : Type 0 where
  pub packets : ℕ
  pub fault : Option Fault
  pub after : Pair

-- a receive ended them, or these came after it
abbrev pub onwards : Going → Pair → Drain → Drain
onwards (stop fault) t later = record { packets = 0; fault = fault; after = t }
onwards (continue k) t later = record later { packets = k + later.packets }

-- at most so many receives
abbrev pub drained : (Pair → Outcome Received) → ℕ → Pair → Drain
drained receive zero s = record { packets = 0; fault = None; after = s }
drained receive (suc n) s =
    onwards (going (receive s).answer) (receive s).after (drained receive n (receive s).after)

-- each takes a byte at least, so that one more than the bytes that wait is enough
abbrev pub hub_drained : Pair → Drain
hub_drained s = drained hub_takes (suc (length s.up.waiting)) s

abbrev pub seat_drained : Pair → Drain
seat_drained s = drained seat_takes (suc (length s.down.waiting)) s

abbrev pub seat_drained_after : Pair → Drain
seat_drained_after heard = seat_drained (hub_sends heard).after

abbrev pub heard_in : Drain → Heard
heard_in d = record { packets = d.packets; fault = d.fault }

abbrev pub round_went : Pair → Effect
round_went s =
    record {
      answer = Answer.Round (Ok (record {
        hub = heard_in (hub_drained s);
        seat = heard_in (seat_drained_after (hub_drained s).after);
      }));
      wrote = (hub_sends (hub_drained s).after).wrote;
      after = (seat_sends (seat_drained_after (hub_drained s).after).after).after;
    }

-- where no short buffer is lent
abbrev pub allowed : Call → Pair → Effect
allowed (Connect how) s = did (connect how s)
allowed Cut s = did (done (cut s))
allowed (Publish m) s = did (publish m s)
allowed Finish s = did (finish s)
allowed Roll s = did (roll s)
allowed (Tell m) s = did (tell m s)
allowed (Say m) s = did (say m s)
allowed Leave s = did (leave s)
allowed HubReceive s = took (hub_takes s)
allowed SeatReceive s = took (seat_takes s)
allowed HubSend s = sent (hub_sends s)
allowed SeatSend s = posted (seat_sends s)
allowed Tick s = did (done (tick s))
allowed Round s = round_went s

abbrev pub roomiest : Call → Pair → Effect
roomiest c s = cond (lent_short c s) (stopped c s) (allowed c s)
