-- Laws of the rules as a whole: they are total, nothing but rooms is free in them, and no buffer gets shorter.
use Rattle.std.specs.Prelude.{◌≡◌, ℕ, ◌+◌, ◌<◌, ◌≤◌, false, List, [], ◌∷◌, ◌++◌, length, Ok, Option, ◌≢◌}
use Rattle.wire.specs.declared.faults.Fault.{Fault}
use Rattle.wire.specs.Limits.{packet_limit}
use Rattle.packet.specs.Decoding.{part, decode}
use Rattle.line.specs.Lines.{LineView}
use Rattle.rules.specs.declared.answers.Received.{Received}
use Rattle.rules.specs.declared.answers.Report.{Report}
use Rattle.rules.specs.State.{Steady, Buffers, Pair, Outcome}
use Rattle.rules.specs.Changes.{with_up, with_down}
use Rattle.rules.specs.Frames.{lack}
use Rattle.rules.specs.Roomiest.{roomiest}
use Rattle.rules.specs.declared.answers.Answer.TheVariants as Answer
use Rattle.rules.specs.Rounds.{HubReceives, hub_deaf, hub_hears_bytes, SeatReceives, seat_deaf, seat_hears_bytes, going, continue, Drains, ends, more, Call, Round, too_short, lent_short, Effect, Step, hub_receives, seat_receives, rounds}

-- Each kind of line is steady by its own laws, so the rules need an answer for such pairs alone.
pub record Lined (s : Pair) : Type 0 where
  pub up : Steady s.up
  pub down : Steady s.down

-- Every call leads somewhere, among others to where it leads if every take leaves all the room of its line.
abbrev pub Total : Type 0
Total = (s : Pair) (c : Call) → Lined s → Step s c (roomiest c s)

-- A round to which no short buffer is lent can be granted.
abbrev pub RoundsGranted : Type 0
RoundsGranted =
    (s : Pair) → Lined s → lent_short Round s ≡ false →
    (d : Effect) × Step s Round d × ((report : Report) × (d.answer ≡ Answer.Round (Ok report)))

-- A receive after which a round goes on takes a byte at least, whatever room it leaves: so the receives of a round end.
-- They would not if a round went on after *nothing*.
pub record GoesOnByTaking : Type 0 where
  pub hub : (s : Pair) (o : Outcome Received) (k : ℕ) → HubReceives s o → going o.answer ≡ continue k →
      length o.after.up.waiting < length s.up.waiting
  pub seat : (s : Pair) (o : Outcome Received) (k : ℕ) → SeatReceives s o → going o.answer ≡ continue k →
      length o.after.down.waiting < length s.down.waiting

-- A call leaves sound lines sound: a take that might leave more room than the line has would not.
abbrev pub LinesStaySound : Type 0
LinesStaySound = (s : Pair) (c : Call) (d : Effect) → Step s c d → Lined s → Lined d.after

-- a pair but for the rooms of its lines
abbrev pub unroomed : LineView → LineView
unroomed v = record v { room = 0 }

abbrev pub roomless : Pair → Pair
roomless s = with_down (with_up s (unroomed s.up)) (unroomed s.down)

-- the same answer, the same packet written, and the same pair but for the rooms of the lines
pub record Alike (d e : Effect) : Type 0 where
  pub answer : d.answer ≡ e.answer
  pub wrote : d.wrote ≡ e.wrote
  pub after : roomless d.after ≡ roomless e.after

-- A call that is no round has one outcome but for the rooms. This fails where an end looks at the room of the line
-- that it took from, and where a call that is refused for a short buffer can go on as well.
abbrev pub OneOutcome : Type 0
OneOutcome = (s : Pair) (c : Call) (d e : Effect) → (c ≢ Round) → Step s c d → Step s c e → Alike d e

-- A round may have several: an early take in it may leave much room or little, so that a later send or parting
-- packet fits or does not.
abbrev pub RoundsDiffer : Type 0
RoundsDiffer =
    (s : Pair) × Lined s × (d : Effect) × Step s Round d × (e : Effect) × Step s Round e × (Alike d e → ⊥)

-- the rooms that the takes of a call left, in order
abbrev pub hub_gave : (s : Pair) (o : Outcome Received) → HubReceives s o → List ℕ
hub_gave s _ (hub_deaf e) = []
hub_gave s _ (hub_hears_bytes room e free) = room ∷ []

abbrev pub seat_gave : (s : Pair) (o : Outcome Received) → SeatReceives s o → List ℕ
seat_gave s _ (seat_deaf e) = []
seat_gave s _ (seat_hears_bytes room e free) = room ∷ []

abbrev pub drains_gave : {R : Pair → Outcome Received → Type 0}
    {s : Pair} {n : ℕ} {fault : Option Fault} {t : Pair} →
    ((s : Pair) (o : Outcome Received) → R s o → List ℕ) → Drains R s n fault t → List ℕ
drains_gave f (ends s o fault r g) = f s o r
drains_gave f (more s o k n fault t r g rest) = f s o r ++ drains_gave f rest

abbrev pub gave : {s : Pair} {c : Call} {d : Effect} → Step s c d → List ℕ
gave (hub_receives o e r) = hub_gave _ o r
gave (seat_receives o e r) = seat_gave _ o r
gave (rounds report wrote t e r) = drains_gave hub_gave r.hub_drains ++ drains_gave seat_gave r.seat_drains
gave step = []

-- What a call answers, writes and leaves is a function of the pair and of these rooms.
abbrev pub OnlyRoomsFree : Type 0
OnlyRoomsFree =
    (s : Pair) (c : Call) (d e : Effect) (x : Step s c d) (y : Step s c e) → gave x ≡ gave y → d ≡ e

-- No buffer is shorter than it was: a packet that replaced the outgoing buffer, rather than stood at its front,
-- would make it so.
pub record NoShorter (b c : Buffers) : Type 0 where
  pub hub_frame : length b.hub_frame ≤ length c.hub_frame
  pub seat_frame : length b.seat_frame ≤ length c.seat_frame
  pub out : length b.out ≤ length c.out

abbrev pub BuffersLast : Type 0
BuffersLast = (s : Pair) (c : Call) (d : Effect) → Step s c d → NoShorter s.buffers d.after.buffers

-- A frame is a part of a packet: it holds no whole one, and shows no fault.
pub record Framed (s : Pair) : Type 0 where
  pub hub : decode s.hub.frame ≡ Ok part
  pub seat : decode s.seat.frame ≡ Ok part

abbrev pub FramesStayParts : Type 0
FramesStayParts = (s : Pair) (c : Call) (d : Effect) → Step s c d → Framed s → Framed d.after

-- What a part lacks is something, and fits behind it in a buffer of the longest packet.
abbrev pub PartsLack : Type 0
PartsLack =
    (frame : List ℕ) → decode frame ≡ Ok part → (0 < lack frame) × (length frame + lack frame ≤ packet_limit)

-- So nothing is laid past the end of a frame's buffer that is long enough.
pub record SameLength (b c : Buffers) : Type 0 where
  pub hub : too_short b.hub_frame ≡ false → length c.hub_frame ≡ length b.hub_frame
  pub seat : too_short b.seat_frame ≡ false → length c.seat_frame ≡ length b.seat_frame

abbrev pub FrameBuffersKeep : Type 0
FrameBuffersKeep =
    (s : Pair) (c : Call) (d : Effect) → Step s c d → Framed s → SameLength s.buffers d.after.buffers
