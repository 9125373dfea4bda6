-- Synchronization complete, written too early.
--
-- A hub that answers a login with highest number 1 might write synchronization complete as soon as message 1 is
-- sent, although message 2 was published meanwhile and waits to be sent. The seat then reports itself in step
-- with one message, while two were published when the packet was written that told it so.
use Rattle.std.specs.Prelude.{◌≡◌, ℕ, ◌+◌, true, false, [], ◌∷◌, Some}
use Rattle.wire.specs.Limits.{packet_limit}
use Rattle.packet.specs.Values.{synchronization_complete}
use Rattle.message_log.specs.Calls.{has}
use Rattle.rules.specs.declared.phases.HubPhase.TheVariants.{Serving}
use Rattle.rules.specs.State.{Pair}
use Rattle.rules.specs.Changes.{hub_to}
use Rattle.rules.specs.Hub.{Sending, hub_posts}
use Rattle.rules.specs.Rounds.{Call, HubSend, Effect, sent, Step, lent_short}
use Rattle.promises.specs.Book.{Message}
use Rattle.promises.specs.Promises.{InStepIsTrue}
use Rattle.counterexamples.specs.Setting.{starting_with, fresh_buffers}

-- synchronization complete is written, and is owed no more
abbrev pub completes : ℕ → ℕ → Pair → Sending
completes asked next s = hub_posts (Some synchronization_complete) (hub_to (Serving asked next false) s) s

-- All that the rules allow. And besides, a hub that answers logins with this highest number may write
-- synchronization complete once it has sent that message, although it holds the next.
pub data EarlyRules (highest : ℕ) (s : Pair) : Call → Effect → Type 0 where
  as_ruled : (c : Call) (d : Effect) → Step s c d → EarlyRules highest s c d
  early : (asked : ℕ) → lent_short HubSend s ≡ false → s.hub.phase ≡ Serving asked (highest + 1) true →
      has s.running.log (highest + 1) ≡ true →
      EarlyRules highest s HubSend (sent (completes asked (highest + 1) s))

-- the message that the hub holds at the login, and the one that is published while it is sent
abbrev pub first : Message
first = 0x41 ∷ []

abbrev pub second : Message
second = 0x42 ∷ []

abbrev pub early_start : Pair
early_start = starting_with (first ∷ []) packet_limit fresh_buffers

abbrev pub EarlyCompleteLies : Type 0
EarlyCompleteLies = InStepIsTrue (EarlyRules 1) → ⊥
