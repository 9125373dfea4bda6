-- What a receive does to the hub's side of a pair.
use Rattle.std.specs.Prelude.{◌≡◌, ℕ, true, false, cond, Result}
use Rattle.wire.specs.declared.refusals.Refusal.{Refusal}
use Rattle.wire.specs.declared.refusals.Refusal.TheVariants.{ShortBuffer, WrongPhase}
use Rattle.rules.specs.declared.answers.Received.{Received}
use Rattle.rules.specs.State.{Pair, Outcome}
use Rattle.rules.specs.Changes.{refuses}
use Rattle.rules.specs.Frames.{lack, given, left, Free}
use Rattle.rules.specs.Rounds.{HubReceive, lent_short}
use Rattle.rules.specs.Hub.{listens, hub_hears}
use Rattle.framing.specs.Calling.{answered, Fewer}

-- the hub takes once, at most what its frame lacks, and the up line is left so much room
abbrev pub hears : Pair → ℕ → Outcome Received
hears s room = hub_hears (given s.up (lack s.hub.frame)) (left s.up (lack s.hub.frame) room) s

abbrev pub receives : Pair → ℕ → Outcome Received
receives s room =
    cond (lent_short HubReceive s) (refuses ShortBuffer s)
    (cond (listens s.hub.phase) (hears s room) (refuses WrongPhase s))

-- The answer and all of the side are the rule's, at the room that the up line then has: that room is free.
pub record Receives (s : Pair) (r : Result Received Refusal) (t : Pair) : Type 0 where
  pub outcome : answered r t ≡ receives s t.up.room
  pub free : lent_short HubReceive s ≡ false → listens s.hub.phase ≡ true →
      Free s.up (lack s.hub.frame) t.up.room
  pub fewer : Fewer r s.up t.up
