-- What holds of whole runs.
use Rattle.std.specs.Prelude.{◌≡◌, ℕ, List, [], ◌∷◌, Some, ◌≢◌}
use Rattle.wire.specs.declared.statuses.Status.TheVariants.{Accepted}
use Rattle.account.specs.Rows.{found}
use Rattle.account.specs.Logins.{Asked}
use Rattle.logins.specs.declared.login_states.Reply.TheVariants.{Decided}
use Rattle.logins.specs.Instructions.{Order, login, logout}
use Rattle.logins.specs.LoginStates.{LoginView, replied, done}

-- the state after a list of orders
abbrev pub after : LoginView → List Order → LoginView
after state [] = state
after state (order ∷ orders) = after (done state order) orders

-- an order that does not log row i out
abbrev pub Spares : ℕ → LoginView → Order → Type 0
Spares i state (logout u c) = found state.rows u c ≡ Some i → ⊥
Spares i state other = Unit {0}

abbrev pub Spared : ℕ → LoginView → List Order → Type 0
Spared i state [] = Unit {0}
Spared i state (order ∷ orders) = Spares i state order × Spared i (done state order) orders

-- once a login by a row is accepted, no other is accepted by it, whatever comes between, unless it is a
-- logout of that row
abbrev pub OneAtATime : Type 0
OneAtATime = (state : LoginView) (first again : Asked) (orders : List Order) (i : ℕ) →
    replied state (login first) ≡ Decided Accepted →
    found state.rows first.user first.computer ≡ Some i →
    Spared i (done state (login first)) orders →
    found (after state (login first ∷ orders)).rows again.user again.computer ≡ Some i →
    replied (after state (login first ∷ orders)) (login again) ≢ Decided Accepted
