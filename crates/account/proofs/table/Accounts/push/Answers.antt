use Rattle.std.proofs.Common.{◌+◌, ◌<◌, length, set, ap, ◌∙◌, arith}
use Rattle.std.proofs.lemmas.List.{length-take-le, length-set}
use Rattle.account.specs.Rows.{found}
use Rattle.account.specs.Table.{Table}
use Rattle.account.proofs.Marking.{joins_blank, joins_single, whole_in_use}
use Rattle.account.proofs.table.Accounts.push.Goals as goal

pub invariant_of-self : goal.invariant_of-self
invariant_of-self c =
    let rows = c.self.inside.rows in
    let count = c.self.inside.count in
    let row = c.args.row in
    let in_use = ap (λ (t : Table). length t.rows) c.self.view_is in
    let room : count < 8 = omega (arith, length-take-le count rows (omega arith), in_use, c.requires.room) in
    let absent = ap (λ (t : Table). found t.rows row.account.user row.account.computer) c.self.view_is ∙ c.requires.absent in (
      simp length-set c.self.invariant.0,
      omega arith,
      joins_single rows count row (omega arith) c.self.invariant.2 absent,
      joins_blank rows count row room c.self.invariant.3,
    )

pub returns-clause-whole : goal.returns-clause-whole
returns-clause-whole c =
    let rows = c.self.inside.rows in
    let count = c.self.inside.count in
    let row = c.args.row in
    let in_use = ap (λ (t : Table). length t.rows) c.self.view_is in
    let room : count < 8 = omega (arith, length-take-le count rows (omega arith), in_use, c.requires.room) in
    let absent = ap (λ (t : Table). found t.rows row.account.user row.account.computer) c.self.view_is ∙ c.requires.absent in
    whole_in_use (set rows count row) (count + 1) (simp length-set c.self.invariant.0) (omega arith) (joins_single rows count row (omega arith) c.self.invariant.2 absent)
    (joins_blank rows count row room c.self.invariant.3)
