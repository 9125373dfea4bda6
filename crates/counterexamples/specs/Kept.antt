-- Half a packet, kept across a connect.
--
-- A connection breaks when the seat has taken 10 of the 13 bytes of a login response. A relay that clears lines and
-- counts at the next connect, but not the frames, has the seat go on in the middle of that packet:
--
--     0B 00 52 20 01 54 00 00 00 00            taken before the break: accepted, session 1, the number's low bytes
--                                   0B 00 52   the first bytes of the next response end the old one
--     20 01 54 00 00 00 00 00 00 00 ..         its other bytes look like the head of a new packet
--
-- The status (a space) and the session read as the length number 0x0120, and the low byte of the highest number, 84,
-- as the letter of a test. That test swallows 288 bytes, as far as into the first message. What stands there is then
-- read as a packet, and a message that carries the bytes of one puts into the seat's log what was never published.
use Rattle.std.specs.Prelude.{◌≡◌, true, false, cond, List, [], ◌∷◌, ◌++◌, replicate, ◌==◌, ◌≢◌, nat_le}
use Rattle.wire.specs.declared.refusals.Refusal.TheVariants.{NoSession, NothingToFetch}
use Rattle.packet.specs.Values.{sequenced, encode}
use Rattle.line.specs.Lines.{cleared}
use Rattle.message_log.specs.Meaning.{count}
use Rattle.rules.specs.declared.phases.How.{How}
use Rattle.rules.specs.declared.phases.How.TheVariants.{Fetch}
use Rattle.rules.specs.declared.phases.HubPhase.TheVariants.{Waiting}
use Rattle.rules.specs.State.{Pair}
use Rattle.rules.specs.Changes.{hub_leaves, seat_writes, refuses}
use Rattle.rules.specs.Calls.{Done, done, asking, asked, login_of}
use Rattle.rules.specs.Rounds.{Call, Connect, Effect, did, stopped, Step, lent_short}
use Rattle.promises.specs.Book.{Message}
use Rattle.promises.specs.Promises.{NeverWrong}
use Rattle.counterexamples.specs.Setting.{starting_with, fresh_buffers}

-- lines and tick counts are cleared, and the frames stay
abbrev pub half_wiped : Pair → Pair
half_wiped s =
    record s {
      hub = record s.hub { unsent = 0; silent = 0; waited = 0 };
      seat = record s.seat { unsent = 0; silent = 0 };
      up = cleared s.up;
      down = cleared s.down;
    }

abbrev pub keeping_connected : How → Pair → Pair
keeping_connected how s = seat_writes (login_of (asked how s)) (asking how (hub_leaves Waiting (half_wiped s)))

abbrev pub keeping_connect : How → Pair → Done
keeping_connect (Fetch end) s =
    cond (s.held.session == 0) (refuses NoSession s)
    (cond (nat_le end (count s.held)) (refuses NothingToFetch s) (done (keeping_connected (Fetch end) s)))
keeping_connect how s = done (keeping_connected how s)

-- Every call does what the rules say, but for the connect.
pub data KeepingRules (s : Pair) : Call → Effect → Type 0 where
  as_ruled : (c : Call) (d : Effect) → ((how : How) → c ≢ Connect how) → Step s c d → KeepingRules s c d
  short_buffer : (how : How) → lent_short (Connect how) s ≡ true →
      KeepingRules s (Connect how) (stopped (Connect how) s)
  keeps : (how : How) → lent_short (Connect how) s ≡ false →
      KeepingRules s (Connect how) (did (keeping_connect how s))

-- the message that is never published, and the one that carries a packet with it behind what the test swallows
abbrev pub forged : Message
forged = 0x58 ∷ []

abbrev pub carrier : Message
carrier = replicate 269 0x2E ++ encode (sequenced 1 forged)

-- 84 messages, the others empty
abbrev pub kept_messages : List Message
kept_messages = carrier ∷ replicate 83 []

-- the down line hands out at most 8 bytes at once, so that a response can be torn behind 2 + 8 of them
abbrev pub kept_start : Pair
kept_start = starting_with kept_messages 8 fresh_buffers

abbrev pub KeptFrameMisleads : Type 0
KeptFrameMisleads = NeverWrong KeepingRules → ⊥
