-- Set-up: a pair is made of its parts, or refused.
use Rattle.std.specs.Prelude.{ℕ, Bool, true, false, cond, ◌&&◌, ◌||◌, List, [], ◌∷◌, length, Ok, Err, Result, ◌==◌}
use Rattle.std.specs.Str.{bytes_eq}
use Rattle.wire.specs.declared.refusals.Refusal.{Refusal}
use Rattle.wire.specs.declared.refusals.Refusal.TheVariants.{ShortBuffer, SizeOutOfRange}
use Rattle.line.specs.Lines.{LineView}
use Rattle.message_log.specs.Meaning.{Meaning, begun}
use Rattle.account.specs.declared.rows.Row.{Row}
use Rattle.account.specs.Fields.{account_of}
use Rattle.rules.specs.State.{Account, Buffers, Pair}
use Rattle.rules.specs.Rounds.{too_short}
use Rattle.rules.specs.Sides.{no_hub, no_seat}

pub record Parts : Type 0 where
  pub hub_log : Meaning
  pub seat_log : Meaning
  pub up : LineView
  pub down : LineView
  pub rows : List Row
  -- the seat's account fields, as they are given
  pub user : List ℕ
  pub computer : List ℕ
  pub protocol : List ℕ
  pub buffers : Buffers

abbrev pub first_session : ℕ
first_session = 1

-- a hub's log without a session begins the first
abbrev pub started : Meaning → Meaning
started log = cond (log.session == 0) (begun log first_session) log

-- whether messages are a prefix of a list
abbrev pub first_of : List (List ℕ) → List (List ℕ) → Bool
first_of [] ys = true
first_of (x ∷ xs) [] = false
first_of (x ∷ xs) (y ∷ ys) = bytes_eq x y && first_of xs ys

-- whether the seat's log has neither session nor message, or bears the hub's session and is a prefix of its log
abbrev pub follows : Meaning → Meaning → Bool
follows seat hub =
    cond (seat.session == 0)
    (length seat.messages == 0)
    (seat.session == hub.session && first_of seat.messages hub.messages)

-- the pair, once its account is good: both ends are without a connection
abbrev pub made : Parts → Result Account Refusal → Result Pair Refusal
made g (Ok account) =
    Ok (record {
      running = record { log = started g.hub_log; finished = false };
      hub = no_hub;
      seat = no_seat;
      held = g.seat_log;
      up = g.up;
      down = g.down;
      rows = g.rows;
      account = account;
      buffers = g.buffers;
    })
made g (Err refusal) = Err refusal

-- Short buffers are reported first, then a seat's log that does not follow the hub's, then account fields. A refused
-- set-up begins no session. The lines stay as they are: a connect clears them.
abbrev pub set_up : Parts → Result Pair Refusal
set_up g =
    cond (too_short g.buffers.hub_frame || (too_short g.buffers.seat_frame || too_short g.buffers.out))
    (Err ShortBuffer)
    (cond (follows g.seat_log (started g.hub_log))
    (made g (account_of g.user g.computer g.protocol))
    (Err SizeOutOfRange))
