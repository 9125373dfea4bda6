-- What a send comes to where this is due.
use Rattle.std.proofs.Common.{◌≡◌, ◌≤◌, false, true, length, Some, None, Ok, Err, Option, Result, sym, refl, ap, ◌∙◌}
use Rattle.std.proofs.lemmas.Bool.{cond-true, cond-false, le-ltb}
use Rattle.wire.specs.declared.refusals.Refusal.{Refusal}
use Rattle.wire.specs.declared.refusals.Refusal.TheVariants.{LineFull}
use Rattle.wire.specs.Limits.{packet_limit}
use Rattle.wire.specs.declared.letters.Letter.{Letter}
use Rattle.packet.specs.Values.{Value, encode, letter}
use Rattle.line.specs.Lines.{fits}
use Rattle.rules.specs.declared.phases.HubPhase.{HubPhase}
use Rattle.rules.specs.declared.phases.HubPhase.TheVariants.{Shut, Waiting}
use Rattle.rules.specs.State.{Pair}
use Rattle.rules.specs.Changes.{grants, refuses, hub_writes, hub_tells}
use Rattle.rules.specs.Hub as Hub
use Rattle.rules.specs.Hub.{hub_due, hub_posts, is_shut}
use Rattle.framing.specs.Posting.{roomy}
use Rattle.framing.specs.Calling.{answered, unless_short}
use Rattle.framing.proofs.Posts.{roomy_granted, roomy_refused}
use Rattle.hub.specs.State.{enters}
use Rattle.hub.specs.Sends.{told, sends}

-- a phase is entered before a packet is written, or after
pub enters_writes : (phase : HubPhase) (v : Value) (s : Pair) → enters phase (hub_writes v s) ≡ hub_writes v (enters phase s)
enters_writes Shut v s = refl
enters_writes Waiting v s = refl
enters_writes phase v s = refl

sends_due : (s : Pair) (d : Hub.Due) → packet_limit ≤ length s.buffers.out → is_shut s.hub.phase ≡ false → d ≡ hub_due s.hub.phase s →
    told (hub_posts d.packet d.then s) ≡ unless_short sends s
sends_due s d a b e =
    sym (cond-false _ _ _ (le-ltb (length s.buffers.out) packet_limit a) ∙ ap told (cond-false _ _ _ b ∙ ap (λ (x : Hub.Due). hub_posts x.packet x.then s) (sym e)))

-- nothing is written
pub sends_none : (s t then : Pair) → packet_limit ≤ length s.buffers.out → is_shut s.hub.phase ≡ false → Hub.none_due then ≡ hub_due s.hub.phase s →
    t ≡ then → grants None t ≡ unless_short sends s
sends_none s t then a b e q = ap (λ (x : Pair). grants None x) q ∙ sends_due s (Hub.none_due then) a b e

-- a packet was due, and was written: then the phase was entered that follows
pub sends_written : (s t u : Pair) (v : Value) (then : HubPhase) (x : Unit {0}) → packet_limit ≤ length s.buffers.out → is_shut s.hub.phase ≡ false → Hub.due v (enters then s) ≡ hub_due s.hub.phase s →
    roomy v s.down ≡ Ok x → t ≡ hub_tells v s → u ≡ enters then t → grants (Some (letter v)) u ≡ unless_short sends s
sends_written s t u v then x a b e r w q =
    let f : fits s.down (encode v) ≡ true = roomy_granted v s.down x r in
    ap (λ (p : Pair). grants (Some (letter v)) p) (q ∙ ap (enters then) (w ∙ cond-true _ _ _ f) ∙ enters_writes then v s)
    ∙ ap told (sym (cond-true _ _ _ f))
    ∙ sends_due s (Hub.due v (enters then s)) a b e

-- a packet was due that the line has no room for
pub sends_refused : (s t : Pair) (v : Value) (then : HubPhase) (x : Refusal) (r : Result (Option Letter) Refusal) → packet_limit ≤ length s.buffers.out → is_shut s.hub.phase ≡ false → Hub.due v (enters then s) ≡ hub_due s.hub.phase s →
    roomy v s.down ≡ Err x → r ≡ Err x → t ≡ hub_tells v s → answered r t ≡ unless_short sends s
sends_refused s t v then x r a b e o k w =
    let f = roomy_refused v s.down x o in
    ap (λ (y : Result (Option Letter) Refusal). answered y t) (k ∙ ap Err f.1)
    ∙ ap (λ (p : Pair). refuses LineFull p) (w ∙ cond-false _ _ _ f.0)
    ∙ ap told (sym (cond-false _ _ _ f.0))
    ∙ sends_due s (Hub.due v (enters then s)) a b e
