-- The two sides of a pair. An end touches its own side alone, so code that is lent one side is held to the same rules,
-- with nothing on the other.
use Rattle.std.specs.Prelude.{ℕ, false, List, [], None}
use Rattle.line.specs.Lines.{LineView, fresh}
use Rattle.message_log.specs.Meaning.{Meaning}
use Rattle.account.specs.declared.rows.Row.{Row}
use Rattle.rules.specs.declared.phases.HubPhase.TheVariants.{Shut}
use Rattle.rules.specs.declared.phases.SeatPhase.TheVariants.{Apart}
use Rattle.rules.specs.State.{Running, HubEnd, SeatEnd, Account, Pair, Outcome}
use Rattle.rules.specs.Hub.{Sending}

-- what stands where nothing is lent
abbrev pub no_line : LineView
no_line = fresh 0 0

abbrev pub no_log : Meaning
no_log = record { session = 0; messages = []; size = 0; overhead = 0; places = 0 }

abbrev pub no_hub : HubEnd
no_hub = record { phase = Shut; row = None; frame = []; unsent = 0; silent = 0; waited = 0 }

abbrev pub no_seat : SeatEnd
no_seat =
    record {
      phase = Apart;
      session = 0;
      number = 0;
      fetch = None;
      requested = false;
      in_step = false;
      status = None;
      frame = [];
      unsent = 0;
      silent = 0;
    }

abbrev pub no_account : Account
no_account = record { user = []; computer = []; protocol = [] }

-- the hub's side: its session, its end of the connection, the lines, the rows, its frame's buffer and the outgoing one
abbrev pub hub_side : Running → HubEnd → LineView → LineView → List Row → List ℕ → List ℕ → Pair
hub_side running hub up down rows frame out =
    record {
      running = running;
      hub = hub;
      seat = no_seat;
      held = no_log;
      up = up;
      down = down;
      rows = rows;
      account = no_account;
      buffers = record { hub_frame = frame; seat_frame = []; out = out };
    }

-- the seat's side: its end of the connection, its log, the lines, its account, its frame's buffer and the outgoing one
abbrev pub seat_side : SeatEnd → Meaning → LineView → LineView → Account → List ℕ → List ℕ → Pair
seat_side seat held up down account frame out =
    record {
      running = record { log = no_log; finished = false };
      hub = no_hub;
      seat = seat;
      held = held;
      up = up;
      down = down;
      rows = [];
      account = account;
      buffers = record { hub_frame = []; seat_frame = frame; out = out };
    }

-- the hub's side of a pair, and a pair whose hub's side is that of another
abbrev pub hub_side_of : Pair → Pair
hub_side_of s = hub_side s.running s.hub s.up s.down s.rows s.buffers.hub_frame s.buffers.out

abbrev pub with_hub_side : Pair → Pair → Pair
with_hub_side s t =
    record s {
      running = t.running;
      hub = t.hub;
      up = t.up;
      down = t.down;
      rows = t.rows;
      buffers = record s.buffers { hub_frame = t.buffers.hub_frame; out = t.buffers.out };
    }

abbrev pub seat_side_of : Pair → Pair
seat_side_of s = seat_side s.seat s.held s.up s.down s.account s.buffers.seat_frame s.buffers.out

abbrev pub with_seat_side : Pair → Pair → Pair
with_seat_side s t =
    record s {
      seat = t.seat;
      held = t.held;
      up = t.up;
      down = t.down;
      account = t.account;
      buffers = record s.buffers { seat_frame = t.buffers.seat_frame; out = t.buffers.out };
    }

-- the same of what needs neither the up line nor the frame: they are as they were
abbrev pub with_hub_core : Pair → Pair → Pair
with_hub_core s t =
    record s {
      running = t.running;
      hub = record t.hub { frame = s.hub.frame };
      down = t.down;
      rows = t.rows;
      buffers = record s.buffers { out = t.buffers.out };
    }

abbrev pub with_seat_core : Pair → Pair → Pair
with_seat_core s t =
    record s {
      seat = record t.seat { frame = s.seat.frame };
      held = t.held;
      up = t.up;
      buffers = record s.buffers { out = t.buffers.out };
    }

-- an outcome on one side, as that of the pair
abbrev pub on_side : {R : Type 0} → (Pair → Pair) → Outcome R → Outcome R
on_side f o = record o { after = f o.after }

abbrev pub on_core : (Pair → Pair) → Sending → Sending
on_core f x = record x { after = f x.after }
