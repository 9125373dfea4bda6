-- What the calls that are neither a receive nor a send come to.
use Rattle.std.proofs.Common.{◌≡◌, ℕ, ◌≤◌, Bool, true, false, cond, ltb, List, [], length, Result, sym, refl, ap, ◌∙◌}
use Rattle.std.proofs.lemmas.Bool.{and_right, cond-true, cond-false, le-ltb}
use Rattle.wire.specs.declared.refusals.Refusal.{Refusal}
use Rattle.wire.specs.Limits.{message_limit, packet_limit}
use Rattle.wire.specs.declared.goodbyes.GoodByeReason.{GoodByeReason}
use Rattle.wire.specs.declared.goodbyes.GoodByeReason.TheVariants as G
use Rattle.packet.specs.Values.{encode, good_bye, unsequenced}
use Rattle.line.specs.Lines.{fits}
use Rattle.rules.specs.declared.phases.HubPhase.{HubPhase}
use Rattle.rules.specs.declared.phases.HubPhase.TheVariants.{Shut, Waiting, Serving}
use Rattle.rules.specs.State.{Pair}
use Rattle.rules.specs.Changes.{hub_leaves, hub_writes, hub_tells}
use Rattle.rules.specs.Calls.{done, is_serving, waiting_limit, silence_limit, one_more, counted, hub_timed}
use Rattle.rules.specs.Hub.{hub_gone}
use Rattle.rules.specs.Sides.{hub_side_of}
use Rattle.framing.specs.Posting.{roomy}
use Rattle.framing.specs.Calling.{answered, unless_short}
use Rattle.hub.specs.Asks.{tells, times}

-- nothing refuses a message but the room
pub tells_granted : (m : List ℕ) (s t : Pair) (r : Result (Unit {0}) Refusal) → length m ≤ message_limit → packet_limit ≤ length s.buffers.out → fits s.down (encode (unsequenced m)) ≡ true → is_serving s.hub.phase ≡ true →
    r ≡ roomy (unsequenced m) s.down → t ≡ hub_tells (unsequenced m) s → answered r t ≡ tells m s
tells_granted m s t r h a f p e w =
    ap (λ (x : Result (Unit {0}) Refusal). answered x t) (e ∙ cond-true _ _ _ f)
    ∙ ap (λ (x : Pair). done x) (w ∙ cond-true _ _ _ f)
    ∙ sym (cond-false _ _ _ (and_right _ _ (le-ltb (length s.buffers.out) packet_limit a))
    ∙ cond-false _ _ _ (le-ltb message_limit (length m) h)
    ∙ cond-true _ _ _ f
    ∙ cond-true _ _ _ p)

-- the hub's side after a tick is that of a tick on the side
gone_side : (r : GoodByeReason) (s : Pair) → hub_side_of (hub_gone r s) ≡ hub_gone r (hub_side_of s)
gone_side r s = go (fits s.down (encode (good_bye r [])))
  where
    go : (b : Bool) → hub_side_of (hub_leaves Shut (cond b (hub_writes (good_bye r []) s) s)) ≡ hub_leaves Shut (cond b (hub_writes (good_bye r []) (hub_side_of s)) (hub_side_of s))
    go true = refl
    go false = refl

side_cond : (b : Bool) (x y u v : Pair) → hub_side_of x ≡ u → hub_side_of y ≡ v → hub_side_of (cond b x y) ≡ cond b u v
side_cond true x y u v e f = e
side_cond false x y u v e f = f

timed_side : (h : HubPhase) (s : Pair) → hub_side_of (hub_timed h s) ≡ hub_timed h (hub_side_of s)
timed_side Waiting s = side_cond (ltb waiting_limit s.hub.waited) _ _ _ _ (gone_side G.LoginTimeout s) refl
timed_side (Serving asked next owed) s = side_cond (ltb silence_limit s.hub.silent) _ _ _ _ refl refl
timed_side phase s = refl

-- the hub with these counts
abbrev pub counting : ℕ → ℕ → ℕ → Pair → Pair
counting unsent silent waited s =
    record s { hub = record s.hub { unsent = unsent; silent = silent; waited = waited } }

pub times_granted : (s t : Pair) (unsent silent waited : ℕ) → packet_limit ≤ length s.buffers.out → unsent ≡ one_more s.hub.unsent → silent ≡ one_more s.hub.silent → waited ≡ one_more s.hub.waited →
    t ≡ hub_timed s.hub.phase (hub_side_of (counting unsent silent waited s)) → done t ≡ unless_short times s
times_granted s t unsent silent waited a u i w e =
    let timed : ℕ → ℕ → ℕ → Pair = λ x y z. hub_timed s.hub.phase (hub_side_of (counting x y z s)) in
    let n : ℕ = one_more s.hub.unsent in
    ap (λ (x : Pair). done x)
    (e ∙ ap (λ (x : ℕ). timed x silent waited) u ∙ ap (λ (x : ℕ). timed n x waited) i ∙ ap (timed n (one_more s.hub.silent)) w ∙ sym (timed_side s.hub.phase (counted s)))
    ∙ sym (cond-false _ _ _ (le-ltb (length s.buffers.out) packet_limit a))
