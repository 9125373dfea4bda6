-- Worked examples of the rules, on a small pair.
use Rattle.std.specs.Prelude.{◌≡◌, ℕ, zero, suc, ◌-◌, Bool, true, false, List, [], ◌∷◌, replicate, Some, None, Ok, Err, Option, Result}
use Rattle.std.specs.List.{AllByRecursion}
use Rattle.wire.specs.declared.faults.Field.TheVariants as Field
use Rattle.wire.specs.declared.faults.PacketFault.TheVariants.{LengthZero, OutOfPlace, WrongLength, WrongContent}
use Rattle.wire.specs.declared.refusals.Refusal.{Refusal}
use Rattle.wire.specs.declared.refusals.Refusal.TheVariants.{BadPacket}
use Rattle.wire.specs.Limits.{packet_limit}
use Rattle.wire.specs.declared.letters.Letter.TheVariants as L
use Rattle.wire.specs.declared.statuses.Status.{Status}
use Rattle.wire.specs.declared.statuses.Status.TheVariants.{Accepted, UnknownUser, InvalidNumber, AlreadyLoggedIn}
use Rattle.wire.specs.declared.goodbyes.GoodByeReason.TheVariants as G
use Rattle.packet.specs.Values.{Value, login_request, login_response, sequenced, unsequenced, retransmission_request, good_bye, seat_heartbeat, test, encode}
use Rattle.line.specs.Lines.{LineView, fresh}
use Rattle.message_log.specs.Meaning.{Meaning}
use Rattle.account.specs.declared.rows.Row.{Row}
use Rattle.account.specs.Logins.{spoken_version}
use Rattle.rules.specs.declared.phases.HubPhase.{HubPhase}
use Rattle.rules.specs.declared.phases.HubPhase.TheVariants.{Shut, Waiting, Answering, Serving, Filling}
use Rattle.rules.specs.declared.phases.SeatPhase.{SeatPhase}
use Rattle.rules.specs.declared.phases.SeatPhase.TheVariants.{Apart, Asking, Live}
use Rattle.rules.specs.declared.phases.How.TheVariants.{Join, Anew, Fetch}
use Rattle.rules.specs.declared.answers.Received.{Received}
use Rattle.rules.specs.declared.answers.Received.TheVariants.{Part, Acted, Message}
use Rattle.rules.specs.State.{HubEnd, SeatEnd, Pair}
use Rattle.rules.specs.Changes.{with_held, with_up, with_down, with_rows}
use Rattle.rules.specs.Hub.{Sending, hub_hears, hub_sends}
use Rattle.rules.specs.Seat.{seat_hears}
use Rattle.rules.specs.Calls.{connected, tick}
use Rattle.rules.specs.Rounds.{Call, Connect, Publish, Finish, Round}
use Rattle.rules.specs.Roomiest.{roomiest}
use Rattle.rules.specs.Sides.{no_hub, no_seat}

-- one account row, of user "nora", computer "desk" and protocol "FILLS"
abbrev pub user : List ℕ
user = 0x6E ∷ 0x6F ∷ 0x72 ∷ 0x61 ∷ 0x20 ∷ []

abbrev pub computer : List ℕ
computer = 0x64 ∷ 0x65 ∷ 0x73 ∷ 0x6B ∷ 0x20 ∷ 0x20 ∷ 0x20 ∷ 0x20 ∷ []

abbrev pub protocol : List ℕ
protocol = 0x46 ∷ 0x49 ∷ 0x4C ∷ 0x4C ∷ 0x53 ∷ 0x20 ∷ 0x20 ∷ 0x20 ∷ []

abbrev pub row : Bool → Row
row marked =
    record { account = record { user = user; computer = computer; protocol = protocol }; marked = marked }

-- two messages
abbrev pub first : List ℕ
first = 0x41 ∷ 0x42 ∷ []

abbrev pub second : List ℕ
second = 0x43 ∷ []

abbrev pub log : ℕ → List (List ℕ) → Meaning
log session messages = record { session = session; messages = messages; size = 100; overhead = 4; places = 10 }

abbrev pub line : LineView
line = fresh packet_limit packet_limit

-- one that hands out a byte at a time
abbrev pub slow : LineView
slow = fresh packet_limit 1

abbrev pub hub_in : HubPhase → HubEnd
hub_in phase = record no_hub { phase = phase }

abbrev pub seat_in : SeatPhase → SeatEnd
seat_in phase = record no_seat { phase = phase; session = 7; number = 1 }

abbrev pub buffer : List ℕ
buffer = replicate packet_limit 0

-- the hub is in session 7 with two messages; the seat holds these
abbrev pub pair : HubPhase → SeatPhase → Meaning → Pair
pair hub seat held =
    record {
      running = record { log = log 7 (first ∷ second ∷ []); finished = false };
      hub = hub_in hub;
      seat = seat_in seat;
      held = held;
      up = line;
      down = line;
      rows = row false ∷ [];
      account = record { user = user; computer = computer; protocol = protocol };
      buffers = record { hub_frame = buffer; seat_frame = buffer; out = buffer };
    }

-- Calls one after the other, every take leaving all the room, and what is then seen of the pair.
abbrev pub after : List Call → Pair → Pair
after [] s = s
after (c ∷ cs) s = after cs (roomiest c s).after

pub record Seen : Type 0 where
  pub hub : HubPhase
  pub seat : SeatPhase
  pub held : List (List ℕ)
  pub in_step : Bool
  pub status : Option Status

abbrev pub seen : Pair → Seen
seen s =
    record {
      hub = s.hub.phase;
      seat = s.seat.phase;
      held = s.held.messages;
      in_step = s.seat.in_step;
      status = s.seat.status;
    }

pub record Story : Type 0 where
  pub before : Pair
  pub calls : List Call
  pub sees : Seen

abbrev pub story : Pair → List Call → HubPhase → SeatPhase → List (List ℕ) → Bool → Option Status → Story
story before calls hub seat held in_step status =
    record {
      before = before;
      calls = calls;
      sees = record { hub = hub; seat = seat; held = held; in_step = in_step; status = status };
    }

-- a seat that holds nothing, one that holds message 1, and one that holds both
abbrev pub empty : Pair
empty = pair Shut Apart (log 0 [])

abbrev pub behind : Pair
behind = pair Shut Apart (log 7 (first ∷ []))

abbrev pub level : Pair
level = pair Shut Apart (log 7 (first ∷ second ∷ []))

abbrev pub stories : List Story
stories =
    -- a connect writes the login
    story empty (Connect Anew ∷ []) Waiting Asking [] false None
    -- one round answers it, one for each message, and one to say that all are sent
    ∷ story empty (Connect Anew ∷ Round ∷ []) (Serving 1 1 true) Live [] false None
    ∷ story empty (Connect Anew ∷ Round ∷ Round ∷ Round ∷ [])
    (Serving 1 3 true) Live (first ∷ second ∷ []) false None
    ∷ story empty (Connect Anew ∷ Round ∷ Round ∷ Round ∷ Round ∷ [])
    (Serving 1 3 false) Live (first ∷ second ∷ []) true None
    -- it is the same over lines that hand out a byte at a time
    ∷ story (with_down (with_up empty slow) slow) (Connect Anew ∷ Round ∷ Round ∷ Round ∷ Round ∷ [])
    (Serving 1 3 false) Live (first ∷ second ∷ []) true None
    -- a seat that lacks nothing is in step by the answer to its login
    ∷ story level (Connect Join ∷ Round ∷ []) (Serving 3 3 false) Live (first ∷ second ∷ []) true None
    -- one that lacks a message is not
    ∷ story behind (Connect Join ∷ Round ∷ []) (Serving 2 2 true) Live (first ∷ []) false None
    -- a message published since comes before all is said to be sent
    ∷ story behind (Connect Join ∷ Round ∷ Publish first ∷ Round ∷ Round ∷ Round ∷ [])
    (Serving 2 4 false) Live (first ∷ second ∷ first ∷ []) true None
    -- a finished session ends the connection
    ∷ story level (Connect Join ∷ Round ∷ Finish ∷ Round ∷ []) Shut Apart (first ∷ second ∷ []) true None
    -- a login that is rejected: nobody of that name, a log ahead of the hub's, a row that is marked
    ∷ story (with_rows empty []) (Connect Anew ∷ Round ∷ []) Shut Apart [] false (Some UnknownUser)
    ∷ story (with_held empty (log 7 (first ∷ second ∷ first ∷ []))) (Connect Join ∷ Round ∷ [])
    Shut Apart (first ∷ second ∷ first ∷ []) false (Some InvalidNumber)
    ∷ story (with_rows level (row true ∷ [])) (Connect Join ∷ Round ∷ [])
    Shut Apart (first ∷ second ∷ []) false (Some AlreadyLoggedIn)
    -- a fetch: the login, the request, the message, the end of the fill
    ∷ story behind (Connect (Fetch 2) ∷ Round ∷ []) (Serving 0 3 false) Live (first ∷ []) false None
    ∷ story behind (Connect (Fetch 2) ∷ Round ∷ Round ∷ []) (Filling 3 2) Live (first ∷ second ∷ []) false None
    ∷ story behind (Connect (Fetch 2) ∷ Round ∷ Round ∷ Round ∷ []) Shut Live (first ∷ second ∷ []) false None
    ∷ []

-- Ticks alone, and what is then seen.
abbrev pub ticked : ℕ → Pair → Pair
ticked zero s = s
ticked (suc n) s = ticked n (tick s)

pub record Wait : Type 0 where
  pub before : Pair
  pub ticks : ℕ
  pub hub : HubPhase
  pub seat : SeatPhase
  -- what waits for the seat
  pub down : List ℕ

abbrev pub wait : Pair → ℕ → HubPhase → SeatPhase → List ℕ → Wait
wait before ticks hub seat down =
    record { before = before; ticks = ticks; hub = hub; seat = seat; down = down }

abbrev pub full : LineView
full = record { waiting = 0x01 ∷ []; room = 0; full = packet_limit; limit = packet_limit }

abbrev pub waits : List Wait
waits =
    -- 30 ticks in which neither hears a byte are survived, and 31 are not
    wait (pair (Serving 1 3 false) Live (log 7 [])) 30 (Serving 1 3 false) Live []
    ∷ wait (pair (Serving 1 3 false) Live (log 7 [])) 31 Shut Apart []
    -- a fill has no limit, the seat has
    ∷ wait (pair (Filling 3 2) Live (log 7 [])) 31 (Filling 3 2) Apart []
    -- a login is awaited for 300 ticks; at the next the hub says why it goes, if the line has the room
    ∷ wait (pair Waiting Apart (log 7 [])) 300 Waiting Apart []
    ∷ wait (pair Waiting Apart (log 7 [])) 301 Shut Apart (encode (good_bye G.LoginTimeout []))
    ∷ wait (with_down (pair Waiting Apart (log 7 [])) full) 301 Shut Apart (0x01 ∷ [])
    ∷ []

-- Counts of a pair at rest after so many ticks.
pub record Count : Type 0 where
  pub ticks : ℕ
  pub count : ℕ

abbrev pub counts : List Count
counts =
    record { ticks = 0; count = 0 }
    ∷ record { ticks = 999; count = 999 }
    ∷ record { ticks = 1000; count = 1000 }
    ∷ record { ticks = 1001; count = 1000 }
    ∷ []

pub record Counted (x : Count) : Type 0 where
  pub unsent : (ticked x.ticks empty).hub.unsent ≡ x.count
  pub silent : (ticked x.ticks empty).hub.silent ≡ x.count
  pub waited : (ticked x.ticks empty).hub.waited ≡ x.count
  pub seat_unsent : (ticked x.ticks empty).seat.unsent ≡ x.count
  pub seat_silent : (ticked x.ticks empty).seat.silent ≡ x.count

-- The answer to an accepted login that asked for this number, where the highest is 2: the first number to send,
-- and whether synchronization complete is owed.
pub record Ask : Type 0 where
  pub number : ℕ
  pub next : ℕ
  pub owed : Bool

abbrev pub asks : List Ask
asks =
    record { number = 0; next = 3; owed = false }
    ∷ record { number = 1; next = 1; owed = true }
    ∷ record { number = 2; next = 2; owed = true }
    ∷ record { number = 3; next = 3; owed = false }
    ∷ []

abbrev pub answer_to : ℕ → Sending
answer_to number = hub_sends (pair (Answering number) Asking (log 7 []))

pub record Asked (x : Ask) : Type 0 where
  pub phase : (answer_to x.number).after.hub.phase ≡ Serving x.number x.next x.owed
  pub wrote : (answer_to x.number).wrote ≡ Some (login_response Accepted 7 2)

-- What the hub answers in a phase to bytes that come at once.
pub record HubHearing : Type 0 where
  pub phase : HubPhase
  pub bytes : List ℕ
  pub answer : Result Received Refusal

abbrev pub hub_hearing : HubPhase → List ℕ → Result Received Refusal → HubHearing
hub_hearing phase bytes answer = record { phase = phase; bytes = bytes; answer = answer }

abbrev pub hub_hearings : List HubHearing
hub_hearings =
    hub_hearing Waiting (encode (login_request spoken_version user computer protocol 7 1))
    (Ok (Acted L.LoginRequest))
    -- a letter out of place is reported before a wrong length or content
    ∷ hub_hearing Waiting (encode (test [])) (Err (BadPacket OutOfPlace))
    ∷ hub_hearing Waiting (0x02 ∷ 0x00 ∷ 0x31 ∷ 0x00 ∷ []) (Err (BadPacket OutOfPlace))
    ∷ hub_hearing (Serving 1 3 false) (0x02 ∷ 0x00 ∷ 0x31 ∷ 0x00 ∷ []) (Err (BadPacket WrongLength))
    ∷ hub_hearing (Serving 1 3 false) (encode (unsequenced first)) (Ok (Message 3 2))
    ∷ hub_hearing (Serving 1 3 false) (encode seat_heartbeat) (Ok (Acted L.SeatHeartbeat))
    ∷ hub_hearing (Serving 1 3 false) (0x01 ∷ 0x00 ∷ []) (Ok Part)
    ∷ hub_hearing (Serving 1 3 false) (0x00 ∷ 0x00 ∷ []) (Err (BadPacket LengthZero))
    -- a retransmission is for those who asked for 0, and its start before its end
    ∷ hub_hearing (Serving 1 3 false) (encode (retransmission_request 1 2)) (Err (BadPacket OutOfPlace))
    ∷ hub_hearing (Serving 0 3 false) (encode (retransmission_request 1 2))
    (Ok (Acted L.RetransmissionRequest))
    ∷ hub_hearing (Serving 0 3 false) (encode (retransmission_request 0 0))
    (Err (BadPacket (WrongContent Field.Start)))
    ∷ hub_hearing (Serving 0 3 false) (encode (retransmission_request 2 1))
    (Err (BadPacket (WrongContent Field.End)))
    ∷ []

-- What a seat that holds message 1 answers, its login being for session 7.
pub record SeatHearing : Type 0 where
  pub phase : SeatPhase
  pub bytes : List ℕ
  pub answer : Result Received Refusal

abbrev pub seat_hearing : SeatPhase → List ℕ → Result Received Refusal → SeatHearing
seat_hearing phase bytes answer = record { phase = phase; bytes = bytes; answer = answer }

abbrev pub seat_hearings : List SeatHearing
seat_hearings =
    seat_hearing Asking (encode (login_response Accepted 7 2)) (Ok (Acted L.LoginResponse))
    ∷ seat_hearing Asking (encode (login_response Accepted 6 2)) (Err (BadPacket (WrongContent Field.Session)))
    ∷ seat_hearing Asking (encode (sequenced 2 second)) (Err (BadPacket OutOfPlace))
    -- the next message, one that it holds, and one too far
    ∷ seat_hearing Live (encode (sequenced 2 second)) (Ok (Acted L.Sequenced))
    ∷ seat_hearing Live (encode (sequenced 1 first)) (Ok (Acted L.Sequenced))
    ∷ seat_hearing Live (encode (sequenced 3 first)) (Err (BadPacket (WrongContent Field.SequenceNumber)))
    ∷ seat_hearing Live (encode seat_heartbeat) (Err (BadPacket OutOfPlace))
    ∷ []

-- A pair in the midst of things, which a connect clears but for what is kept.
abbrev pub busy : Pair
busy =
    record {
      running = record { log = log 7 (first ∷ second ∷ []); finished = true };
      hub = record {
        phase = Serving 1 3 false;
        row = Some 0;
        frame = 0x09 ∷ [];
        unsent = 4;
        silent = 5;
        waited = 6;
      };
      seat = record (seat_in Live) {
        in_step = true;
        status = Some UnknownUser;
        frame = 0x08 ∷ [];
        unsent = 7;
        silent = 8;
      };
      held = log 7 (first ∷ []);
      up = full;
      down = full;
      rows = row true ∷ [];
      account = record { user = user; computer = computer; protocol = protocol };
      buffers = record { hub_frame = buffer; seat_frame = buffer; out = buffer };
    }

abbrev pub login : Value
login = login_request spoken_version user computer protocol 7 2

pub record Cleared : Type 0 where
  pub hub : (connected Join busy).hub ≡ hub_in Waiting
  pub seat : (connected Join busy).seat ≡ record (seat_in Asking) { number = 2 }
  pub up : (connected Join busy).up.waiting ≡ encode login
  pub room : (connected Join busy).up.room ≡ packet_limit - 38
  pub down : (connected Join busy).down ≡ line
  pub rows : (connected Join busy).rows ≡ row false ∷ []
  pub running : (connected Join busy).running ≡ busy.running
  pub held : (connected Join busy).held ≡ busy.held

abbrev pub IsSeen : Story → Type 0
IsSeen x = seen (after x.calls x.before) ≡ x.sees

abbrev pub Waited : Wait → Type 0
Waited x =
    ((ticked x.ticks x.before).hub.phase ≡ x.hub)
    × ((ticked x.ticks x.before).seat.phase ≡ x.seat)
    × ((ticked x.ticks x.before).down.waiting ≡ x.down)

abbrev pub HubHeard : HubHearing → Type 0
HubHeard x = (hub_hears x.bytes line (pair x.phase Apart (log 0 []))).answer ≡ x.answer

abbrev pub SeatHeard : SeatHearing → Type 0
SeatHeard x = (seat_hears x.bytes line (pair Shut x.phase (log 7 (first ∷ [])))).answer ≡ x.answer

pub record ExamplesHold : Type 0 where
  pub stories : AllByRecursion IsSeen stories
  pub waits : AllByRecursion Waited waits
  pub counts : AllByRecursion Counted counts
  pub asks : AllByRecursion Asked asks
  pub hub : AllByRecursion HubHeard hub_hearings
  pub seat : AllByRecursion SeatHeard seat_hearings
  pub connect : Cleared
