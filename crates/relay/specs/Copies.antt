-- The texts by which a seat logs in, owned.
use Rattle.std.specs.Prelude.{◌≡◌}
use Rattle.pair.specs.declared.setting.AccountTexts.{AccountTexts}
use Rattle.relay.specs.declared.parts.Credentials.{Credentials}

-- the texts as they were given
abbrev pub Copies : AccountTexts → Credentials → Type 0
Copies texts c = (c.user.items ≡ texts.user.now) × ((c.computer.items ≡ texts.computer.now) × (c.protocol.items ≡ texts.protocol.now))
