-- The calls that take nothing from a line and are no send. Whether a buffer is too short (14) is judged in
-- Rounds.antt, for all calls alike.
use Rattle.std.specs.Prelude.{ℕ, ◌+◌, min, Bool, true, false, cond, List, [], length, Some, None, Ok, Err, Option, Result, ◌==◌, nat_le, nat_lt}
use Rattle.wire.specs.declared.refusals.Refusal.{Refusal}
use Rattle.wire.specs.declared.refusals.Refusal.TheVariants.{MessageTooLong, LineFull, WrongPhase, SessionFinished, HubBusy, LastSession, NoSession, NothingToFetch}
use Rattle.wire.specs.Limits.{message_limit}
use Rattle.wire.specs.declared.goodbyes.GoodByeReason.TheVariants as G
use Rattle.wire.specs.declared.logouts.LogoutReason.TheVariants as X
use Rattle.packet.specs.Values.{Value, login_request, unsequenced, logout_request, encode}
use Rattle.line.specs.Lines.{fits}
use Rattle.message_log.specs.Meaning.{Meaning, count, begun, added}
use Rattle.message_log.specs.Calls.{takes}
use Rattle.account.specs.Logins.{Asked, spoken_version}
use Rattle.rules.specs.declared.phases.HubPhase.{HubPhase}
use Rattle.rules.specs.declared.phases.HubPhase.TheVariants.{Shut, Waiting, Answering, Serving, Filling}
use Rattle.rules.specs.declared.phases.SeatPhase.{SeatPhase}
use Rattle.rules.specs.declared.phases.SeatPhase.TheVariants.{Apart, Asking, Live}
use Rattle.rules.specs.declared.phases.How.{How}
use Rattle.rules.specs.declared.phases.How.TheVariants.{Join, Anew, Fetch}
use Rattle.rules.specs.State.{Pair, Outcome}
use Rattle.rules.specs.Changes.{with_log, grants, refuses, hub_leaves, hub_writes, seat_to, seat_writes, wiped}
use Rattle.rules.specs.Hub.{hub_gone}
use Rattle.rules.specs.Seat.{next_number, is_apart}

abbrev pub Done : Type 0
Done = Outcome (Unit {0})

abbrev pub done : Pair → Done
done s = grants tt s

-- what each way to connect asks for
abbrev pub asked_session : How → Meaning → ℕ
asked_session Join log = log.session
asked_session Anew log = 0
asked_session (Fetch end) log = log.session

abbrev pub asked_number : How → Meaning → ℕ
asked_number Join log = next_number log
asked_number Anew log = 1
asked_number (Fetch end) log = 0

abbrev pub fetch_end : How → Option ℕ
fetch_end (Fetch end) = Some end
fetch_end how = None

-- the seat has asked: in step and the kept status are those of a new connection
abbrev pub asking : How → Pair → Pair
asking how s =
    record s {
      seat = record s.seat {
        phase = Asking;
        session = asked_session how s.held;
        number = asked_number how s.held;
        fetch = fetch_end how;
        requested = false;
        in_step = false;
        status = None;
      };
    }

-- what the login of a pair asks
abbrev pub asked : How → Pair → Asked
asked how s =
    record {
      version = spoken_version;
      user = s.account.user;
      computer = s.account.computer;
      protocol = s.account.protocol;
      session = asked_session how s.held;
      number = asked_number how s.held;
    }

abbrev pub login_of : Asked → Value
login_of a = login_request a.version a.user a.computer a.protocol a.session a.number

-- lines, frames and counts are cleared, the hub waits for a login, and the seat has written it
abbrev pub connected : How → Pair → Pair
connected how s = seat_writes (login_of (asked how s)) (asking how (hub_leaves Waiting (wiped s)))

abbrev pub fetching : ℕ → Pair → Done
fetching end s =
    cond (s.held.session == 0) (refuses NoSession s)
    (cond (nat_le end (count s.held)) (refuses NothingToFetch s) (done (connected (Fetch end) s)))

abbrev pub connect : How → Pair → Done
connect (Fetch end) s = fetching end s
connect how s = done (connected how s)

abbrev pub cut : Pair → Pair
cut s = seat_to Apart (hub_leaves Shut (wiped s))

abbrev pub publishes : Result (Unit {0}) Refusal → List ℕ → Pair → Done
publishes (Ok x) m s =
    cond s.running.finished (refuses SessionFinished s) (done (with_log s (added s.running.log m) false))
publishes (Err refusal) m s = refuses refusal s

abbrev pub publish : List ℕ → Pair → Done
publish m s = publishes (takes s.running.log (length m)) m s

abbrev pub finish : Pair → Done
finish s = cond s.running.finished (refuses SessionFinished s) (done (with_log s s.running.log true))

-- the phases in which the hub is bound to the session of its login
abbrev pub busy : HubPhase → Bool
busy (Answering asked) = true
busy (Serving asked next owed) = true
busy (Filling next last) = true
busy phase = false

abbrev pub last_session : ℕ
last_session = 255

-- the next session begins, and is not finished
abbrev pub roll : Pair → Done
roll s =
    cond (busy s.hub.phase) (refuses HubBusy s)
    (cond (nat_le last_session s.running.log.session) (refuses LastSession s)
    (done (with_log s (begun s.running.log (s.running.log.session + 1)) false)))

abbrev pub is_serving : HubPhase → Bool
is_serving (Serving asked next owed) = true
is_serving phase = false

abbrev pub is_live : SeatPhase → Bool
is_live Live = true
is_live phase = false

-- an unsequenced message from the hub, and one from the seat
abbrev pub tell : List ℕ → Pair → Done
tell m s =
    cond (nat_lt message_limit (length m)) (refuses MessageTooLong s)
    (cond (fits s.down (encode (unsequenced m)))
    (cond (is_serving s.hub.phase) (done (hub_writes (unsequenced m) s)) (refuses WrongPhase s))
    (refuses LineFull s))

abbrev pub say : List ℕ → Pair → Done
say m s =
    cond (nat_lt message_limit (length m)) (refuses MessageTooLong s)
    (cond (fits s.up (encode (unsequenced m)))
    (cond (is_live s.seat.phase) (done (seat_writes (unsequenced m) s)) (refuses WrongPhase s))
    (refuses LineFull s))

abbrev pub leave : Pair → Done
leave s =
    cond (fits s.up (encode (logout_request X.Done [])))
    (cond (is_apart s.seat.phase)
    (refuses WrongPhase s)
    (done (seat_to Apart (seat_writes (logout_request X.Done []) s))))
    (refuses LineFull s)

-- Time. Counts stop here.
abbrev pub count_limit : ℕ
count_limit = 1000

abbrev pub one_more : ℕ → ℕ
one_more n = min count_limit (n + 1)

-- so many ticks with no byte heard are survived, and so many in which the hub waits for a login
abbrev pub silence_limit : ℕ
silence_limit = 30

abbrev pub waiting_limit : ℕ
waiting_limit = 300

abbrev pub counted : Pair → Pair
counted s =
    record s {
      hub = record s.hub {
        unsent = one_more s.hub.unsent;
        silent = one_more s.hub.silent;
        waited = one_more s.hub.waited;
      };
      seat = record s.seat { unsent = one_more s.seat.unsent; silent = one_more s.seat.silent };
    }

abbrev pub hub_timed : HubPhase → Pair → Pair
hub_timed Waiting s = cond (nat_lt waiting_limit s.hub.waited) (hub_gone G.LoginTimeout s) s
hub_timed (Serving asked next owed) s = cond (nat_lt silence_limit s.hub.silent) (hub_leaves Shut s) s
hub_timed phase s = s

abbrev pub seat_timed : Pair → Pair
seat_timed s = cond (is_apart s.seat.phase) s (cond (nat_lt silence_limit s.seat.silent) (seat_to Apart s) s)

-- the counts go up, then the hub is judged, then the seat
abbrev pub tick : Pair → Pair
tick s = seat_timed (hub_timed s.hub.phase (counted s))
