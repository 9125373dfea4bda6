use Rattle.std.proofs.Common.{ℕ, Err, Result, sym, ap, ◌∙◌, subst}
use Rattle.std.proofs.lemmas.Result.{err_from_is_err_and}
use Rattle.wire.specs.declared.statuses.Status.{Status}
use Rattle.account.specs.Laws.{Admits}
use Rattle.account.specs.Requests.{asked}
use Rattle.account.proofs.Deciding.{right, turned_away}
use Rattle.account.proofs.table.Accounts.admit.Goals as goal

pub returns-in_err-row-clause-admits : goal.returns-in_err-row-clause-admits
returns-in_err-row-clause-admits c =
    let rows = c.args.self.now.rows in
    let login = asked c.args.login in
    let status = c.in_err-row.field-0.0 in
    let said = err_from_is_err_and c.from_residual.result c.from_residual.ensures.1 in
    let away = turned_away rows c.args.session c.args.highest login status c.in_err-row.ensures.status c.in_err-row.ensures.refused in
    subst (λ (x : Result ℕ Status). Admits rows rows c.args.session c.args.highest login x) (sym (said.1 ∙ ap (λ (x : Status). Err x) said.2)) away

pub returns-clause-admits : goal.returns-clause-admits
returns-clause-admits c =
    let accepted = sym c.in_ok-row.ensures.status in
    let row = c.in_ok-row.ensures.row in
    record {
      accepted = accepted;
      row = row;
      right = right c.args.self.now.rows c.args.session c.args.highest (asked c.args.login) accepted c.in_ok-row.row row;
      marks = c.mark.ensures.after;
    }
