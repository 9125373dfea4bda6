-- What a receive comes to by what is said of the frame.
use Rattle.std.proofs.Common.{◌≡◌, ℕ, ◌+◌, ◌-◌, ◌≤◌, List, [], ◌∷◌, ◌++◌, length, take, Ok, Err, Result, sym, refl, ap, ◌∙◌, arith}
use Rattle.wire.specs.declared.faults.PacketFault.{PacketFault}
use Rattle.wire.specs.Limits.{packet_limit}
use Rattle.packet.specs.Decoding.{Decoded, part, whole}
use Rattle.line.specs.Lines.{LineView}
use Rattle.wire.specs.Overlay.{laid}
use Rattle.message_log.specs.Meaning.{Meaning}
use Rattle.account.specs.declared.rows.Row.{Row}
use Rattle.framing.specs.Filling.{Filled, wanted}
use Rattle.framing.proofs.Fills.{came, came_none}
use Rattle.rules.specs.declared.phases.HubPhase.{HubPhase}
use Rattle.rules.specs.declared.answers.Received.{Received}
use Rattle.rules.specs.declared.answers.Received.TheVariants.{Nothing, Part}
use Rattle.rules.specs.State.{Pair, Outcome}
use Rattle.rules.specs.Changes.{grants, hub_took}
use Rattle.rules.specs.Frames.{lack, given, left, judged}
use Rattle.rules.specs.Hub.{hub_letters, hub_acts, hub_bad, hub_judges, hub_hears}
use Rattle.rules.specs.Sides.{hub_side}
use Rattle.hub.specs.declared.hubs.Hub.{Hub}
use Rattle.hub.specs.Ends.{running_of, side_of}
use Rattle.hub.specs.Receives.{hears}

-- the hub once it took bytes: so many stand in its frame
abbrev pub taken : ℕ → Hub → Hub
taken m h = record h { filled = m; silent = 0 }

took : (hub : Hub) (log : Meaning) (v w down : LineView) (rows : List Row) (buf buf' out g frame : List ℕ) (m : ℕ) →
    buf' ≡ laid buf (length (take hub.filled buf)) g → take m buf' ≡ frame →
    side_of (taken m hub) log w down rows buf' out ≡ hub_took g frame w (side_of hub log v down rows buf out)
took hub log v w down rows buf buf' out g frame m b f =
    let side : List ℕ → List ℕ → Pair = λ fr bf. hub_side (running_of hub log) (record { phase = hub.state.phase; row = hub.state.row; frame = fr; unsent = hub.unsent; silent = 0; waited = hub.waited }) w down rows bf out in
    ap (λ (x : List ℕ). side x buf') f ∙ ap (λ (x : List ℕ). side frame x) b

-- what a receive comes to where this is said of the frame: the hub with its frame empty, and with it kept
abbrev pub comes_to : Result Decoded PacketFault → HubPhase → Pair → Pair → Outcome Received
comes_to (Ok part) phase empty kept = grants Part kept
comes_to (Ok (whole v)) phase empty kept = hub_acts phase v empty
comes_to (Err fault) phase empty kept = hub_bad fault empty

comes_to_judges : (a : Result Decoded PacketFault) (g frame : List ℕ) (w : LineView) (s empty kept : Pair) → empty ≡ hub_took g [] w s → kept ≡ hub_took g frame w s →
    comes_to a s.hub.phase empty kept ≡ hub_judges a g frame w s
comes_to_judges (Ok part) g frame w s empty kept e k = ap (λ (x : Pair). grants {R = Received} Part x) k
comes_to_judges (Ok (whole v)) g frame w s empty kept e k = ap (hub_acts s.hub.phase v) e
comes_to_judges (Err fault) g frame w s empty kept e k = ap (hub_bad fault) e

hears_some : (g : List ℕ) (w : LineView) (s : Pair) → (length g ≡ 0 → ⊥) →
    hub_hears g w s ≡ hub_judges (judged (hub_letters s.hub.phase) (s.hub.frame ++ g)) g (s.hub.frame ++ g) w s
hears_some [] w s h = absurd (h refl)
hears_some (b ∷ bs) w s h = refl

-- nothing came
pub hears_none : (hub : Hub) (log : Meaning) (v w down : LineView) (rows : List Row) (buf buf' out : List ℕ) (k : ℕ) →
    packet_limit ≤ length buf → Filled v buf hub.filled (wanted hub.filled buf) k w buf' → k ≡ 0 →
    grants Nothing (side_of hub log w down rows buf' out) ≡ hears (side_of hub log v down rows buf out) w.room
hears_none hub log v w down rows buf buf' out k h f z =
    let l : ℕ = lack (take hub.filled buf) in
    let q = came_none v w buf buf' hub.filled k h f z in
    ap (λ (x : List ℕ). grants Nothing (side_of hub log w down rows x out)) q.buffer
    ∙ ap (λ (x : LineView). grants Nothing (side_of hub log x down rows buf out)) q.line
    ∙ sym (ap (λ (x : List ℕ). hub_hears x (left v l w.room) (side_of hub log v down rows buf out)) q.none)

-- bytes came, and this is said of the frame
pub hears_judged : (hub : Hub) (log : Meaning) (v w down : LineView) (rows : List Row) (buf buf' out : List ℕ) (k : ℕ) (a : Result Decoded PacketFault) →
    packet_limit ≤ length buf → Filled v buf hub.filled (wanted hub.filled buf) k w buf' → (k ≡ 0 → ⊥) →
    a ≡ judged (hub_letters hub.state.phase) (take (hub.filled + k - 0) buf') →
    comes_to a hub.state.phase (side_of (taken 0 hub) log w down rows buf' out) (side_of (taken (hub.filled + k) hub) log w down rows buf' out)
    ≡ hears (side_of hub log v down rows buf out) w.room
hears_judged hub log v w down rows buf buf' out k a h f z j =
    let n : ℕ = hub.filled in
    let fr : List ℕ = take n buf in
    let g : List ℕ = given v (lack fr) in
    let s : Pair = side_of hub log v down rows buf out in
    let says : List ℕ → Result Decoded PacketFault = judged (hub_letters hub.state.phase) in
    let q = came v w buf buf' n k h f z in
    comes_to_judges a g (fr ++ g) w s _ _ (took hub log v w down rows buf buf' out g [] 0 q.buffer refl) (took hub log v w down rows buf buf' out g (fr ++ g) (n + k) q.buffer q.frame)
    ∙ ap (λ (x : Result Decoded PacketFault). hub_judges x g (fr ++ g) w s) (j ∙ ap (λ (i : ℕ). says (take i buf')) (omega arith) ∙ ap says q.frame)
    ∙ sym (hears_some g w s q.some)
    ∙ ap (λ (x : LineView). hub_hears g x s) q.line
