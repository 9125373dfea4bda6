-- The rounds of a catch-up can be made, and lead to the hub's log.
use Rattle.std.proofs.Common.{◌≡◌, ℕ, zero, suc, ◌≤◌, false, ◌||◌, None, arith}
use Rattle.std.proofs.lemmas.Bool.{or_parts, or_from, le-ltb, ltb-false}
use Rattle.wire.specs.Limits.{packet_limit}
use Rattle.rules.specs.declared.phases.How.{How}
use Rattle.rules.specs.declared.phases.How.TheVariants.{Join, Anew, Fetch}
use Rattle.rules.specs.State.{Pair}
use Rattle.rules.specs.Calls.{done, connected, fetch_end}
use Rattle.rules.specs.Rounds.{Connect, Round, too_short, lent_short, did, Step, connects}
use Rattle.rules.specs.Laws.{Lined, NoShorter}
use Rattle.rules.proofs.Keeps.{lines_stay_sound, buffers_last}
use Rattle.rules.proofs.Total.{rounds_granted}
use Rattle.promises.specs.Runs.{World, Run, begins, goes_on, lends_others, GrantedRounds, no_round, round, History}
use Rattle.promises.specs.Promises.{CatchesUp, CanCatchUp}
use Rattle.promises.proofs.Keeps.{history_sound}
use Rattle.promises.proofs.Tells.{history_tru}
use Rattle.promises.proofs.Catch as catch

-- the lines are sound along a run
run_lined : {v w : World} → Run Step v w → Lined v.pair → Lined w.pair
run_lined begins i = i
run_lined (goes_on {w = m} r c d h) i = lines_stay_sound m.pair c d h (run_lined r i)
run_lined (lends_others r buffers) i = record { up = (run_lined r i).up; down = (run_lined r i).down }

history_lined : (o : Pair) (w : World) → History Step o w → Lined w.pair
history_lined o w (u, r) = run_lined r (record { up = u.up_line; down = u.down_line })

pub catches_up : CatchesUp Step
catches_up o t w how h able rs =
    let l = history_lined o w h in
    catch.catches_up w.book w.note w.pair t how (history_sound o w h) (history_tru o w h) l.up l.down able rs

-- buffers that hold the longest packet go on to hold it
long_on : (xs ys : ℕ) → xs ≤ ys → packet_limit ≤ xs → packet_limit ≤ ys
long_on xs ys l p = omega arith

still_long : (s t : Pair) → NoShorter s.buffers t.buffers → lent_short Round s ≡ false → lent_short Round t ≡ false
still_long s t n e =
    let a = or_parts (too_short s.buffers.hub_frame) (too_short s.buffers.seat_frame || too_short s.buffers.out) e in
    let b = or_parts (too_short s.buffers.seat_frame) (too_short s.buffers.out) a.1 in
    or_from _ _ (le-ltb _ packet_limit (long_on _ _ n.hub_frame (ltb-false _ packet_limit a.0)))
    (or_from _ _ (le-ltb _ packet_limit (long_on _ _ n.seat_frame (ltb-false _ packet_limit b.0))) (le-ltb _ packet_limit (long_on _ _ n.out (ltb-false _ packet_limit b.1))))

some_rounds : (n : ℕ) (s : Pair) → Lined s → lent_short Round s ≡ false → (t : Pair) × GrantedRounds Step n s t
some_rounds zero s l e = (s, no_round s)
some_rounds (suc n) s l e =
    let r = rounds_granted s l e in
    let d = r.0 in
    let m = some_rounds n d.after (lines_stay_sound s Round d r.1 l) (still_long s d.after (buffers_last s Round d r.1) e) in
    (m.0, round n s m.0 d r.2.0 r.1 r.2.1 m.1)

connect_long : (s : Pair) → lent_short Round s ≡ false → too_short s.buffers.out ≡ false
connect_long s e = (or_parts (too_short s.buffers.seat_frame) (too_short s.buffers.out) (or_parts (too_short s.buffers.hub_frame) (too_short s.buffers.seat_frame || too_short s.buffers.out) e).1).1

connect_step : (s : Pair) (how : How) → fetch_end how ≡ None → too_short s.buffers.out ≡ false → Step s (Connect how) (did (done (connected how s)))
connect_step s Join f e = connects Join e
connect_step s Anew f e = connects Anew e
connect_step s (Fetch end) f e = (cc)

pub can_catch_up : CanCatchUp Step
can_catch_up o w how h f e =
    let s : Pair = w.pair in
    let c = connect_step s how f (connect_long s e) in
    let l = lines_stay_sound s (Connect how) (did (done (connected how s))) c (history_lined o w h) in
    let b = still_long s (connected how s) (buffers_last s (Connect how) (did (done (connected how s))) c) e in
    (c, λ n. some_rounds n (connected how s) l b)
