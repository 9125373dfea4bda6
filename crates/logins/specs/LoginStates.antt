-- What the instructions do, and what they are answered.
use Rattle.std.specs.Prelude.{◌≡◌, ℕ, Bool, true, false, cond, List, [], Some, None, Option}
use Rattle.wire.specs.declared.statuses.Status.{Status}
use Rattle.wire.specs.declared.statuses.Status.TheVariants as S
use Rattle.account.specs.declared.rows.Row.{Row}
use Rattle.account.specs.Rows.{found, marking}
use Rattle.account.specs.Logins.{Asked, status_for}
use Rattle.account.specs.Table.{joining, index_of, joined}
use Rattle.logins.specs.declared.login_states.Reply.{Reply}
use Rattle.logins.specs.declared.login_states.LoginState.{LoginState}
use Rattle.logins.specs.declared.login_states.Reply.TheVariants.{Added, Noted, Decided, LoggedOut}
use Rattle.logins.specs.Instructions.{Order, account, hub, login, logout}

-- the rows in use, and the session and highest number of the hub's log
pub record LoginView : Type 0 where
  pub rows : List Row
  pub session : ℕ
  pub highest : ℕ

abbrev pub view_of : LoginState → LoginView
view_of state =
    record { rows = state.accounts.rows; session = state.session; highest = state.highest }

abbrev pub initial : LoginView
initial = record { rows = []; session = 1; highest = 0 }

-- the status of a login
abbrev pub decided : LoginView → Asked → Status
decided state asked = status_for state.rows state.session state.highest asked

abbrev pub replied : LoginView → Order → Reply
replied state (account u c p) = Added (index_of state.rows (joining state.rows u c p))
replied state (hub s h) = Noted
replied state (login asked) = Decided (decided state asked)
replied state (logout u c) = LoggedOut (found state.rows u c)

-- the rows with the mark of the one that was found, if one was
abbrev pub mark_found : List Row → Option ℕ → Bool → List Row
mark_found rows None mark = rows
mark_found rows (Some i) mark = marking rows i mark

abbrev pub is_accepted : Status → Bool
is_accepted S.Accepted = true
is_accepted other = false

-- a login that is accepted marks the row that was found
abbrev pub entered : LoginView → Asked → List Row
entered state asked =
    cond (is_accepted (decided state asked))
    (mark_found state.rows (found state.rows asked.user asked.computer) true)
    state.rows

abbrev pub done : LoginView → Order → LoginView
done state (account u c p) = record state { rows = joined state.rows (joining state.rows u c p) }
done state (hub s h) = record state { session = s; highest = h }
done state (login asked) = record state { rows = entered state asked }
done state (logout u c) = record state { rows = mark_found state.rows (found state.rows u c) false }

pub record Performs (before : LoginView) (order : Order) (reply : Reply) (after : LoginView) :
    Type 0 where
  pub answer : reply ≡ replied before order
  pub state : after ≡ done before order
