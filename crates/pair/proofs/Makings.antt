-- What a set-up that is not refused makes.
use Rattle.std.proofs.Common.{◌≡◌, true, false, Ok, Result, sym, ap, ◌∙◌}
use Rattle.std.proofs.lemmas.Bool.{cond-true, cond-false}
use Rattle.wire.specs.declared.refusals.Refusal.{Refusal}
use Rattle.account.specs.Fields.{account_of}
use Rattle.rules.specs.State.{Running, HubEnd, SeatEnd, Account, Pair}
use Rattle.pair.specs.Lent.{any_short}
use Rattle.rules.specs.Sides.{no_hub, no_seat}
use Rattle.rules.specs.SetUp.{Parts, started, follows, made, set_up}
use Rattle.hub.specs.Ends.{unfinished}

pub sets_up : (g : Parts) (a : Account) (running : Running) (hub : HubEnd) (seat : SeatEnd) (r : Result Account Refusal) →
    any_short g.buffers ≡ false → follows g.seat_log (started g.hub_log) ≡ true → r ≡ account_of g.user g.computer g.protocol → r ≡ Ok a →
    running ≡ unfinished (started g.hub_log) → hub ≡ no_hub → seat ≡ no_seat →
    Ok (record { running = running; hub = hub; seat = seat; held = g.seat_log; up = g.up; down = g.down; rows = g.rows; account = a; buffers = g.buffers }) ≡ set_up g
sets_up g a running hub seat r h f e d w p q =
    let pair : Running → HubEnd → SeatEnd → Pair = λ x y z. record { running = x; hub = y; seat = z; held = g.seat_log; up = g.up; down = g.down; rows = g.rows; account = a; buffers = g.buffers } in
    ap (λ (x : Running). Ok (pair x hub seat)) w ∙ ap (λ (y : HubEnd). Ok (pair (unfinished (started g.hub_log)) y seat)) p ∙ ap (λ (z : SeatEnd). Ok (pair (unfinished (started g.hub_log)) no_hub z)) q
    ∙ sym (cond-false _ _ _ h
    ∙ cond-true _ _ _ f ∙ ap (made g) (sym e ∙ d))
