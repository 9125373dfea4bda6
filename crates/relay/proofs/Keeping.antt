-- Steps of the rules keep the promises.
use Rattle.std.proofs.Common.{◌≡◌, List, [], ◌∷◌, ◌++◌, Option, refl, sym, ap, ◌∙◌, subst, append_assoc, append-nil}
use Rattle.packet.specs.Values.{Value}
use Rattle.rules.specs.State.{Pair}
use Rattle.rules.specs.declared.answers.Answer.{Answer}
use Rattle.rules.specs.Rounds.{Call, Effect, Step}
use Rattle.promises.specs.Runs.{World, lent, stepped, goes_on, lends_others, History}
use Rattle.promises.proofs.Keeps.{never_wrong, never_shorter}
use Rattle.promises.proofs.Tells.{in_step_is_true}
use Rattle.relay.specs.Histories.{Leads, none, one_more, LeadsOn, no_call, then, Promised, Followed, Keeps, Performs}

-- the promises at a point of a run
pub promised : (o : Pair) (w : World) → History Step o w → Promised o w
promised o w h = record { history = h; never_wrong = never_wrong o w h; never_shorter = λ v k r e. never_shorter o v w k r e; in_step_is_true = in_step_is_true o w h }

-- a history goes on through calls that were made
pub led_on : {o : Pair} {v w : World} {made : List (Call × Answer)} → History Step o v → LeadsOn v made w → History Step o w
led_on h no_call = h
led_on h (then p call d s) = let k = led_on h p in (k.0, goes_on k.1 call d s)

-- calls and calls behind them
pub led_together : {v w x : World} {made more : List (Call × Answer)} → LeadsOn v made w → LeadsOn w more x → LeadsOn v (made ++ more) x
led_together {v} {w} {made = made} l no_call = subst (λ m. LeadsOn v m w) (sym (append-nil made)) l
led_together {v} {made = made} l (then {made = more} {w = w} r call d s) =
    subst (λ m. LeadsOn v m (stepped w call d)) (append_assoc made more ((call, d.answer) ∷ [])) (then (led_together l r) call d s)

-- a history with the buffers that it led to
same_buffers : (w : World) {s : Pair} → w.pair ≡ s → lent w s.buffers ≡ w
same_buffers w e = subst (λ x. lent w x.buffers ≡ w) e refl

pub same_pair : (w : World) {s : Pair} → w.pair ≡ s → (lent w s.buffers).pair ≡ s
same_pair w e = ap (λ (x : World). x.pair) (same_buffers w e) ∙ e

pub keeps_on : {s t : Pair} {made : List (Call × Answer)} {o : Pair} {v : World} → Keeps s made t → History Step o v → v.pair ≡ s → Followed o v made t
keeps_on {s} {t} {made} {o} {v} k h e =
    subst (λ x. Followed o x made t) (same_buffers v e) (k o v h (same_pair v e))

pub keeps_together : {s t u : Pair} {made more : List (Call × Answer)} → Keeps s made t → Keeps t more u → Keeps s (made ++ more) u
keeps_together k l o v h e =
    let f = k o v h e in
    let m = keeps_on l f.promised.history f.stands in
    record { now = m.now; stands = m.stands; led = led_together f.led m.led; promised = m.promised }

-- no call, and one call more
pub keeps_none : (s : Pair) → Keeps s [] s
keeps_none s o v h e =
    let w = lent v s.buffers in
    record { now = w; stands = e; led = no_call; promised = promised o w (h.0, lends_others h.1 s.buffers) }

pub keeps_one : {s t u : Pair} {made : List (Call × Answer)} {call : Call} {answer : Answer} (wrote : Option Value) →
    Keeps s made t → Step t call (record { answer = answer; wrote = wrote; after = u }) → Keeps s (made ++ (call, answer) ∷ []) u
keeps_one {s} {t} {u} {made} {call} {answer} wrote k step o v h e =
    let f = k o v h e in
    let d : Effect = record { answer = answer; wrote = wrote; after = u } in
    let p : LeadsOn (lent v s.buffers) (made ++ (call, answer) ∷ []) (stepped f.now call d) = then f.led call d (subst (λ x. Step x call d) (sym f.stands) step) in
    record { now = stepped f.now call d; stands = refl; led = p; promised = promised o (stepped f.now call d) (led_on (h.0, lends_others h.1 s.buffers) p) }

-- whatever calls were made, the promises are kept
pub leads_keep : {s t : Pair} {made : List (Call × Answer)} → Leads s made t → Keeps s made t
leads_keep {s} none = keeps_none s
leads_keep (one_more l call d x) = keeps_one d.wrote (leads_keep l) x

pub performed : {s t : Pair} {given call : Call} {answer : Answer} → given ≡ call → (wrote : Option Value) → Step s call (record { answer = answer; wrote = wrote; after = t }) → Performs s given answer t
performed {s} {t} {given} {call} {answer} i wrote rule =
    let step : Step s given (record { answer = answer; wrote = wrote; after = t }) = subst (λ x. Step s x (record { answer = answer; wrote = wrote; after = t })) (sym i) rule in
    record { wrote = wrote; step = step; keeps = keeps_one wrote (keeps_none s) step }
