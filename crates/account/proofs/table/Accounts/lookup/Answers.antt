use Rattle.std.proofs.Common.{◌≡◌, length, ◌∙◌, rules}
use Rattle.account.specs.Rows.{found}
use Rattle.account.specs.Table.{Single}
use Rattle.account.proofs.Only.{finds, finds_the_same}
use Rattle.account.proofs.table.Accounts.lookup.Goals as goal

pub returns-clause-finds : goal.returns-clause-finds
returns-clause-finds c =
    let rows = c.args.self.now.rows in
    let answer : c.find.result ≡ found rows c.args.user.now c.args.computer.now = search rules in
    finds rows c.args.user.now c.args.computer.now c.find.result answer

pub returns-clause-only : goal.returns-clause-only
returns-clause-only c =
    let rows = c.args.self.now.rows in
    let answer : c.find.result ≡ found rows c.args.user.now c.args.computer.now = search rules in
    let single : Single rows (length rows) = search rules in
    λ o h. answer ∙ finds_the_same rows c.args.user.now c.args.computer.now o single h
