-- What a receive comes to by what is said of the frame.
use Rattle.std.proofs.Common.{◌≡◌, ℕ, ◌+◌, ◌-◌, ◌≤◌, List, [], ◌∷◌, ◌++◌, length, take, Ok, Err, Result, sym, refl, ap, ◌∙◌, arith}
use Rattle.wire.specs.declared.faults.PacketFault.{PacketFault}
use Rattle.wire.specs.Limits.{packet_limit}
use Rattle.packet.specs.Decoding.{Decoded, part, whole}
use Rattle.line.specs.Lines.{LineView}
use Rattle.wire.specs.Overlay.{laid}
use Rattle.message_log.specs.Meaning.{Meaning}
use Rattle.framing.specs.Filling.{Filled, wanted}
use Rattle.framing.proofs.Fills.{came, came_none}
use Rattle.rules.specs.declared.phases.SeatPhase.{SeatPhase}
use Rattle.rules.specs.declared.answers.Received.{Received}
use Rattle.rules.specs.declared.answers.Received.TheVariants.{Nothing, Part}
use Rattle.rules.specs.State.{Account, Pair, Outcome}
use Rattle.rules.specs.Changes.{grants, seat_took}
use Rattle.rules.specs.Frames.{lack, given, left, judged}
use Rattle.rules.specs.Seat.{seat_letters, seat_acts, seat_bad, seat_judges, seat_hears}
use Rattle.rules.specs.Sides.{seat_side}
use Rattle.seat.specs.declared.seats.Seat.{Seat}
use Rattle.seat.specs.Ends.{side_of}
use Rattle.seat.specs.Receives.{hears}

-- the seat once it took bytes: so many stand in its frame
abbrev pub taken : ℕ → Seat → Seat
taken m s = record s { filled = m; silent = 0 }

took : (seat : Seat) (log : Meaning) (up v w : LineView) (account : Account) (buf buf' out g frame : List ℕ) (m : ℕ) →
    buf' ≡ laid buf (length (take seat.filled buf)) g → take m buf' ≡ frame →
    side_of (taken m seat) log up w account buf' out ≡ seat_took g frame w (side_of seat log up v account buf out)
took seat log up v w account buf buf' out g frame m b f =
    let side : List ℕ → List ℕ → Pair = λ fr bf. seat_side (record { phase = seat.state.phase; session = seat.state.session; number = seat.state.number; fetch = seat.state.fetch; requested = seat.state.requested; in_step = seat.state.in_step; status = seat.state.status; frame = fr; unsent = seat.unsent; silent = 0 }) log up w account bf out in
    ap (λ (x : List ℕ). side x buf') f ∙ ap (λ (x : List ℕ). side frame x) b

-- what a receive comes to where this is said of the frame: the seat with its frame empty, and with it kept
abbrev pub comes_to : Result Decoded PacketFault → SeatPhase → Pair → Pair → Outcome Received
comes_to (Ok part) phase empty kept = grants Part kept
comes_to (Ok (whole v)) phase empty kept = seat_acts phase v empty
comes_to (Err fault) phase empty kept = seat_bad fault empty

comes_to_judges : (a : Result Decoded PacketFault) (g frame : List ℕ) (w : LineView) (s empty kept : Pair) → empty ≡ seat_took g [] w s → kept ≡ seat_took g frame w s →
    comes_to a s.seat.phase empty kept ≡ seat_judges a g frame w s
comes_to_judges (Ok part) g frame w s empty kept e k = ap (λ (x : Pair). grants {R = Received} Part x) k
comes_to_judges (Ok (whole v)) g frame w s empty kept e k = ap (seat_acts s.seat.phase v) e
comes_to_judges (Err fault) g frame w s empty kept e k = ap (seat_bad fault) e

hears_some : (g : List ℕ) (w : LineView) (s : Pair) → (length g ≡ 0 → ⊥) →
    seat_hears g w s ≡ seat_judges (judged (seat_letters s.seat.phase s.seat.fetch) (s.seat.frame ++ g)) g (s.seat.frame ++ g) w s
hears_some [] w s h = absurd (h refl)
hears_some (b ∷ bs) w s h = refl

-- nothing came
pub hears_none : (seat : Seat) (log : Meaning) (up v w : LineView) (account : Account) (buf buf' out : List ℕ) (k : ℕ) →
    packet_limit ≤ length buf → Filled v buf seat.filled (wanted seat.filled buf) k w buf' → k ≡ 0 →
    grants Nothing (side_of seat log up w account buf' out) ≡ hears (side_of seat log up v account buf out) w.room
hears_none seat log up v w account buf buf' out k h f z =
    let l : ℕ = lack (take seat.filled buf) in
    let q = came_none v w buf buf' seat.filled k h f z in
    ap (λ (x : List ℕ). grants Nothing (side_of seat log up w account x out)) q.buffer
    ∙ ap (λ (x : LineView). grants Nothing (side_of seat log up x account buf out)) q.line
    ∙ sym (ap (λ (x : List ℕ). seat_hears x (left v l w.room) (side_of seat log up v account buf out)) q.none)

-- bytes came, and this is said of the frame
pub hears_judged : (seat : Seat) (log : Meaning) (up v w : LineView) (account : Account) (buf buf' out : List ℕ) (k : ℕ) (a : Result Decoded PacketFault) →
    packet_limit ≤ length buf → Filled v buf seat.filled (wanted seat.filled buf) k w buf' → (k ≡ 0 → ⊥) →
    a ≡ judged (seat_letters seat.state.phase seat.state.fetch) (take (seat.filled + k - 0) buf') →
    comes_to a seat.state.phase (side_of (taken 0 seat) log up w account buf' out) (side_of (taken (seat.filled + k) seat) log up w account buf' out)
    ≡ hears (side_of seat log up v account buf out) w.room
hears_judged seat log up v w account buf buf' out k a h f z j =
    let n : ℕ = seat.filled in
    let fr : List ℕ = take n buf in
    let g : List ℕ = given v (lack fr) in
    let s : Pair = side_of seat log up v account buf out in
    let says : List ℕ → Result Decoded PacketFault = judged (seat_letters seat.state.phase seat.state.fetch) in
    let q = came v w buf buf' n k h f z in
    comes_to_judges a g (fr ++ g) w s _ _ (took seat log up v w account buf buf' out g [] 0 q.buffer refl) (took seat log up v w account buf buf' out g (fr ++ g) (n + k) q.buffer q.frame)
    ∙ ap (λ (x : Result Decoded PacketFault). seat_judges x g (fr ++ g) w s) (j ∙ ap (λ (i : ℕ). says (take i buf')) (omega arith) ∙ ap says q.frame)
    ∙ sym (hears_some g w s q.some)
    ∙ ap (λ (x : LineView). seat_hears g x s) q.line
