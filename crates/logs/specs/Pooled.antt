-- A log over a pool of bytes and a table of ends: message k ends where entry k of the table says, and begins where
-- the one before it ends.
use Rattle.std.specs.Prelude.{ℕ, Bool, ◌&&◌, List, nat_le}
use Rattle.message_log.specs.Meaning.{Meaning, size_limit}

-- the longest table
abbrev pub slots_limit : ℕ
slots_limit = 1048576

-- whether a log can be made of a pool of p bytes and a table of t entries
abbrev pub makes : ℕ → ℕ → Bool
makes p t = nat_le p size_limit && nat_le t slots_limit

-- the size is the pool, a message takes nothing beside its bytes, and a slot is an entry
abbrev pub pooled : ℕ → ℕ → ℕ → List (List ℕ) → Meaning
pooled p t s ms = record { session = s; messages = ms; size = p; overhead = 0; places = t }
