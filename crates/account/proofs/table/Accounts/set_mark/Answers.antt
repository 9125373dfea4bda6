use Rattle.std.proofs.Common.{ap, ◌∙◌, rules}
use Rattle.std.proofs.lemmas.List.{length-set}
use Rattle.account.specs.Rows.{row_at, with_mark, marking}
use Rattle.account.specs.Table.{Table, Single}
use Rattle.account.proofs.Marking.{mark_in_use, drop_of_set, whole_in_use}
use Rattle.account.proofs.table.Accounts.set_mark.Goals as goal

pub returns-then-row-self-clause-after : goal.returns-then-row-self-clause-after
returns-then-row-self-clause-after c =
    mark_in_use c.self.inside.rows c.self.inside.count c.args.row c.args.mark c.if-row-self.true
    ∙ ap (λ (t : Table). marking t.rows c.args.row c.args.mark) c.self.view_is

pub returns-then-row-self-clause-whole : goal.returns-then-row-self-clause-whole
returns-then-row-self-clause-whole c =
    let rows = c.self.inside.rows in
    let count = c.self.inside.count in
    let after = marking rows c.args.row c.args.mark in
    let single : Single after count = search rules in
    whole_in_use after count (simp length-set c.self.invariant.0) c.self.invariant.1 single
    (drop_of_set count rows c.args.row (with_mark (row_at rows c.args.row) c.args.mark) c.if-row-self.true ∙ c.self.invariant.3)
