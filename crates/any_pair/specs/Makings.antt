-- The parts of a pair as they are made, one by one, and all of them together.
use Rattle.std.specs.Prelude.{◌≡◌, Bool, true, false, ◌&&◌, List, [], replicate, is_some, is_ok, IsSomeAnd, Err}
use Rattle.account.specs.Table.{joining, joined, index_of}
use Rattle.lines.specs.declared.any.AnyLine.{AnyLine}
use Rattle.logs.specs.Kinds.{inside}
use Rattle.line.specs.Lines.{LineView}
use Rattle.rules.specs.SetUp as Given
use Rattle.any_pair.specs.Made.{LogMade, LineMade, LogDenied, LineDenied}
use Rattle.wire.specs.declared.refusals.Refusal.{Refusal}
use Rattle.wire.specs.declared.refusals.Refusal.TheVariants.{OutOfMemory}
use Rattle.pair.specs.declared.setting.AccountTexts.{AccountTexts}
use Rattle.any_pair.specs.declared.forms.Part.{Part}
use Rattle.any_pair.specs.declared.forms.Part.TheVariants as P
use Rattle.any_pair.specs.declared.forms.End.TheVariants.{Hub}
use Rattle.any_pair.specs.declared.forms.End.TheVariants as E
use Rattle.any_pair.specs.declared.forms.Side.TheVariants.{Up, Down}
use Rattle.pair.specs.Lent.{blank}
use Rattle.relay.specs.Copies.{Copies}
use Rattle.any_pair.specs.declared.builders.Builder.{Builder}
use Rattle.account.specs.declared.rows.Row.{Row}

-- the account joins the rows, and is not refused
abbrev pub Joins : AccountTexts → List Row → List Row → Type 0
Joins texts rows after =
    let row = joining rows texts.user.now texts.computer.now texts.protocol.now in
    (is_ok row ≡ true) × (after ≡ joined rows row)

-- The parts p with one of those of q, which is as it was asked for. What a line means is given.
abbrev pub Makes : (AnyLine → LineView) → Part → Builder → Builder → Type 0
Makes means (P.Log E.Hub form) p q = (q ≡ record p { hub_log = q.hub_log }) × IsSomeAnd q.hub_log (λ l. LogMade form (inside l))
Makes means (P.Log E.Seat form) p q = (q ≡ record p { seat_log = q.seat_log }) × IsSomeAnd q.seat_log (λ l. LogMade form (inside l))
Makes means (P.Line Up form) p q = (q ≡ record p { up = q.up }) × IsSomeAnd q.up (λ t. LineMade form (means t.line) × (t.tally.counts ≡ replicate 12 0))
Makes means (P.Line Down form) p q = (q ≡ record p { down = q.down }) × IsSomeAnd q.down (λ t. LineMade form (means t.line) × (t.tally.counts ≡ replicate 12 0))
Makes means (P.Account texts) p q = (q ≡ record p { accounts = q.accounts }) × Joins texts p.accounts.rows q.accounts.rows
Makes means (P.Seat texts) p q = (q ≡ record p { seat = q.seat }) × IsSomeAnd q.seat (λ c. Copies texts c)
Makes means (P.Buffers hub seat out) p q = (q ≡ record p { buffers = q.buffers }) × (q.buffers ≡ blank hub seat out)

-- why a part is not made
abbrev pub PartDenied : Part → Builder → Refusal → Type 0
PartDenied (P.Log end form) p e = LogDenied form e
PartDenied (P.Line side form) p e = LineDenied form e
PartDenied (P.Account texts) p e = index_of p.accounts.rows (joining p.accounts.rows texts.user.now texts.computer.now texts.protocol.now) ≡ Err e
PartDenied (P.Seat texts) p e = e ≡ OutOfMemory
PartDenied (P.Buffers hub seat out) p e = e ≡ OutOfMemory

-- nothing was made: the same parts, with the same rows in the table
abbrev pub Left : Builder → Builder → Type 0
Left p q = (q.accounts.rows ≡ p.accounts.rows) × (q ≡ record p { accounts = q.accounts })

-- no part is made but the table, which has no row
abbrev pub Bare : Builder → Type 0
Bare p =
    (is_some p.hub_log ≡ false)
    × ((is_some p.seat_log ≡ false)
    × ((is_some p.up ≡ false)
    × ((is_some p.down ≡ false)
    × ((is_some p.seat ≡ false) × (p.accounts.rows ≡ [])))))

-- all parts are made, and mean this
abbrev pub Joined : (AnyLine → LineView) → Builder → Given.Parts → Type 0
Joined means p g =
    IsSomeAnd p.hub_log (λ l. g.hub_log ≡ inside l)
    × (IsSomeAnd p.seat_log (λ l. g.seat_log ≡ inside l)
    × (IsSomeAnd p.up (λ t. g.up ≡ means t.line)
    × (IsSomeAnd p.down (λ t. g.down ≡ means t.line)
    × (IsSomeAnd p.seat (λ c. (g.user ≡ c.user.items) × ((g.computer ≡ c.computer.items) × (g.protocol ≡ c.protocol.items)))
    × ((g.rows ≡ p.accounts.rows) × (g.buffers ≡ p.buffers))))))

-- whether all parts are made
abbrev pub is_complete : Builder → Bool
is_complete p = is_some p.hub_log && (is_some p.seat_log && (is_some p.up && (is_some p.down && is_some p.seat)))
