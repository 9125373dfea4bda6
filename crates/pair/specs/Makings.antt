-- What a set-up makes.
use Rattle.std.specs.Prelude.{◌≡◌, Ok, Err, Result}
use Rattle.wire.specs.declared.making.Unmade.{Unmade}
use Rattle.line.specs.Lines.{LineView}
use Rattle.message_log.specs.Meaning.{Meaning}
use Rattle.account.specs.Table.{Table}
use Rattle.rules.specs.State.{Buffers}
use Rattle.rules.specs.SetUp.{Parts, set_up}
use Rattle.pair.specs.declared.pairs.Pair.{Pair}
use Rattle.pair.specs.declared.setting.AccountTexts.{AccountTexts}
use Rattle.pair.specs.Meanings.{pair_of}

-- the parts of a set-up: the two logs, the hub's first; the up and the down line; and the rest
abbrev pub parts_of : Meaning → Meaning → LineView → LineView → Table → AccountTexts → Buffers → Parts
parts_of hub_log seat_log up down accounts texts buffers =
    record {
      hub_log = hub_log;
      seat_log = seat_log;
      up = up;
      down = down;
      rows = accounts.rows;
      user = texts.user.now;
      computer = texts.computer.now;
      protocol = texts.protocol.now;
      buffers = buffers;
    }

-- A set-up of these parts, with this table, after which this is the hub's log. A refused one hands the table back, and
-- leaves the log.
abbrev pub SetsUp : Parts → Table → Result Pair (Unmade Table) → Meaning → Type 0
SetsUp g accounts (Ok p) log = Ok (pair_of p log g.seat_log g.up g.down g.buffers) ≡ set_up g
SetsUp g accounts (Err u) log = (Err u.refusal ≡ set_up g) × (u.given ≡ accounts) × (log ≡ g.hub_log)
