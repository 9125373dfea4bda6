-- Synchronization complete, as laws over runs: it goes out at most once a connection, and only after every message
-- that the hub then holds.
use Rattle.std.specs.Prelude.{◌≡◌, ℕ, ◌≤◌, Bool, true, false, List, [], ◌∷◌, Some, None, Option, Contains, count_by}
use Rattle.packet.specs.Values.{Value, synchronization_complete, sequenced}
use Rattle.message_log.specs.Meaning.{Meaning, count, nth}
use Rattle.rules.specs.declared.phases.HubPhase.{HubPhase}
use Rattle.rules.specs.declared.phases.HubPhase.TheVariants.{Serving}
use Rattle.rules.specs.declared.phases.How.{How}
use Rattle.rules.specs.declared.answers.Answer.{Answer}
use Rattle.rules.specs.State.{Pair}
use Rattle.rules.specs.Rounds.{Call, Connect, Effect}
use Rattle.promises.specs.Book.{is_granted}
use Rattle.promises.specs.Runs.{World, stepped}

-- whether a call begins a connection
abbrev pub begins_one : Call → Answer → Bool
begins_one (Connect how) answer = is_granted answer
begins_one call answer = false

-- what the hub wrote, the latest first
abbrev pub with_written : Option Value → List Value → List Value
with_written None vs = vs
with_written (Some v) vs = v ∷ vs

-- a run within one connection, and the packets that the hub's sends and the rounds wrote in it
pub data Connection (Rules : Pair → Call → Effect → Type 0) (start : World) : World → List Value → Type 0 where
  starts : Connection Rules start start []
  continues : {w : World} {vs : List Value} → Connection Rules start w vs →
      (call : Call) (d : Effect) → Rules w.pair call d → begins_one call d.answer ≡ false →
      Connection Rules start (stepped w call d) (with_written d.wrote vs)

abbrev pub is_complete : Value → Bool
is_complete synchronization_complete = true
is_complete v = false

-- At most once: no two of the packets of a connection are synchronization complete.
abbrev pub CompleteOnce : (Pair → Call → Effect → Type 0) → Type 0
CompleteOnce Rules = (v w : World) (vs : List Value) → Connection Rules v w vs → count_by is_complete vs ≤ 1

-- all messages of a log, from the number asked for on, are among the packets written
pub record SentAll (vs : List Value) (phase : HubPhase) (log : Meaning) : Type 0 where
  pub asked : ℕ
  pub next : ℕ
  pub serves : phase ≡ Serving asked next false
  pub all : (k : ℕ) → asked ≤ k → k ≤ count log → Contains vs (sequenced k (nth log k))

-- After every message: when it goes out, each message that the hub holds, from the number that the login asked for,
-- was written before in the same connection.
abbrev pub CompleteAfterAll : (Pair → Call → Effect → Type 0) → Type 0
CompleteAfterAll Rules =
    (v w : World) (vs : List Value) (how : How) (begun : Effect) (call : Call) (d : Effect) →
    Rules v.pair (Connect how) begun → is_granted begun.answer ≡ true →
    Connection Rules (stepped v (Connect how) begun) w vs →
    Rules w.pair call d → d.wrote ≡ Some synchronization_complete →
    SentAll vs d.after.hub.phase d.after.running.log
