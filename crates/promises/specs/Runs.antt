-- Runs: lists of calls, granted or refused, with the book and the note that go along with them. Between two calls the
-- lent buffers may change. Runs are stated for any rules, so that wrong ones can be tried too.
use Rattle.std.specs.Prelude.{◌≡◌, ℕ, suc, ◌+◌, ◌<◌, Bool, true, false, cond, ◌&&◌, ◌⊎◌, List, [], ◌++◌, length, Some, None, Ok, Option, ◌==◌}
use Rattle.wire.specs.declared.statuses.Status.{Status}
use Rattle.wire.specs.declared.statuses.Status.TheVariants.{Accepted}
use Rattle.packet.specs.Values.{Value, login_response, synchronization_complete}
use Rattle.rules.specs.State as Line
use Rattle.message_log.specs.Meaning as Log
use Rattle.message_log.specs.Meaning.{Meaning}
use Rattle.rules.specs.declared.phases.HubPhase.TheVariants.{Shut}
use Rattle.rules.specs.declared.phases.SeatPhase.TheVariants.{Apart}
use Rattle.rules.specs.declared.answers.Report.{Report}
use Rattle.rules.specs.State.{Buffers, Pair}
use Rattle.rules.specs.declared.answers.Answer.{Answer}
use Rattle.rules.specs.Rounds.{Call, Connect, HubSend, Round, Effect}
use Rattle.promises.specs.Book.{Message, Book, opened, is_granted, noted}

-- one list is a prefix of another
abbrev pub IsPrefix : List Message → List Message → Type 0
IsPrefix xs ys = (rest : List Message) × (ys ≡ xs ++ rest)

-- The note: what the book had, for the session that was running, when the hub send or the round began that wrote
-- the packet which tells the seat that it is in step.
pub record Note : Type 0 where
  pub session : ℕ
  pub messages : List Message

abbrev pub as_of : Book → Note
as_of b = record { session = b.running; messages = b.lists b.running }

abbrev pub accepts : Status → Bool
accepts Accepted = true
accepts status = false

-- that packet, for a seat which asked for number q: an accepted response whose highest + 1 is q, or a
-- synchronization complete
abbrev pub tells_all : ℕ → Value → Bool
tells_all q (login_response status session highest) = accepts status && highest + 1 == q
tells_all q synchronization_complete = true
tells_all q v = false

-- the first such packet of a connection counts
abbrev pub or_else : Option Note → Note → Option Note
or_else None note = Some note
or_else (Some first) note = Some first

abbrev pub written : ℕ → Book → Option Value → Option Note → Option Note
written q b None o = o
written q b (Some v) o = cond (tells_all q v) (or_else o (as_of b)) o

-- a granted connect begins a connection; what a hub send or a round wrote may set the note
abbrev pub renoted : Call → Answer → Option Value → ℕ → Book → Option Note → Option Note
renoted (Connect how) a w q b o = cond (is_granted a) None o
renoted HubSend a w q b o = written q b w o
renoted Round a w q b o = written q b w o
renoted call a w q b o = o

-- A pair with the book and the note that go along with it, and what a run of calls makes of them.
pub record World : Type 0 where
  pub pair : Pair
  pub book : Book
  pub note : Option Note

abbrev pub stepped : World → Call → Effect → World
stepped w call d =
    record {
      pair = d.after;
      book = noted call d.answer w.book;
      note = renoted call d.answer d.wrote w.pair.seat.number w.book w.note;
    }

-- the same with these buffers
abbrev pub lent : World → Buffers → World
lent w buffers = record w { pair = record w.pair { buffers = buffers } }

pub data Run (Rules : Pair → Call → Effect → Type 0) (start : World) : World → Type 0 where
  begins : Run Rules start start
  goes_on : {w : World} → Run Rules start w → (call : Call) (d : Effect) → Rules w.pair call d →
      Run Rules start (stepped w call d)
  -- between two calls the buffers may be put to any other use, or be others: the bytes of a packet that is not whole
  -- yet are those of the ends' frames
  lends_others : {w : World} → Run Rules start w → (buffers : Buffers) → Run Rules start (lent w buffers)

-- so many granted rounds, one after the other
pub data GrantedRounds (Rules : Pair → Call → Effect → Type 0) : ℕ → Pair → Pair → Type 0 where
  no_round : (s : Pair) → GrantedRounds Rules 0 s s
  round : (n : ℕ) (s t : Pair) (d : Effect) (report : Report) →
      Rules s Round d → d.answer ≡ Answer.Round (Ok report) → GrantedRounds Rules n d.after t →
      GrantedRounds Rules (suc n) s t

-- the seat's log has neither session nor message, or bears the hub's session and is a prefix of its log
abbrev pub Follows : Meaning → Meaning → Type 0
Follows seat hub =
    ((seat.session ≡ 0) × (seat.messages ≡ []))
    ⊎ ((seat.session ≡ hub.session) × IsPrefix seat.messages hub.messages)

-- A pair that was just set up.
pub record SetUp (s : Pair) : Type 0 where
  pub shut : s.hub.phase ≡ Shut
  pub apart : s.seat.phase ≡ Apart
  pub unreported : s.seat.in_step ≡ false
  pub hub_log_sound : Log.Sound s.running.log
  pub begun : 0 < s.running.log.session
  pub seat_log_sound : Log.Sound s.held
  pub follows : Follows s.held s.running.log
  pub up_line : Line.Steady s.up
  pub down_line : Line.Steady s.down
  pub user : length s.account.user ≡ 5
  pub computer : length s.account.computer ≡ 8
  pub protocol : length s.account.protocol ≡ 8

abbrev pub at_first : Pair → World
at_first s = record { pair = s; book = opened s.running.log; note = None }

-- what a run has made of a pair that was set up
abbrev pub History : (Pair → Call → Effect → Type 0) → Pair → World → Type 0
History Rules s w = SetUp s × Run Rules (at_first s) w
