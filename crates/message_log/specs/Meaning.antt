-- What a log means: a session, a list of messages, and three numbers that stay as they were when it was made.
use Rattle.std.specs.Prelude.{◌≡◌, ℕ, ◌+◌, ◌-◌, ◌<◌, ◌≤◌, List, [], ◌∷◌, ◌++◌, length, sum_by, slice_index, slice_index_or}
use Rattle.wire.specs.Limits.{message_limit}

-- the session is 0 for none; the overhead is what each message takes beside its own bytes; a slot is needed for each message
pub record Meaning : Type 0 where
  pub session : ℕ
  pub messages : List (List ℕ)
  pub size : ℕ
  pub overhead : ℕ
  pub places : ℕ

-- the largest size, overhead and number of slots
abbrev pub size_limit : ℕ
size_limit = 16777216

abbrev pub count : Meaning → ℕ
count l = length l.messages

-- message n, from 1
abbrev pub nth : Meaning → ℕ → List ℕ
nth l n = slice_index_or l.messages (n - 1) []

-- the bytes that messages take, each with the overhead
abbrev pub taken : ℕ → List (List ℕ) → ℕ
taken over ms = sum_by (λ m. length m + over) ms

abbrev pub room : Meaning → ℕ
room l = l.size - taken l.overhead l.messages

-- a session is begun: the list is empty, and the three numbers stay
abbrev pub begun : Meaning → ℕ → Meaning
begun l s = record l { session = s; messages = [] }

-- one message more, at the end
abbrev pub added : Meaning → List ℕ → Meaning
added l m = record l { messages = l.messages ++ m ∷ [] }

-- what holds of every log
pub record Sound (l : Meaning) : Type 0 where
  pub fits : taken l.overhead l.messages ≤ l.size
  pub placed : count l ≤ l.places
  pub short : (k : ℕ) → length (slice_index_or l.messages k []) ≤ message_limit
  pub bytes : (k i : ℕ) → slice_index (slice_index_or l.messages k []) i < 256
  pub byte : l.session ≤ 255
  pub silent : l.session ≡ 0 → l.messages ≡ []
  pub size_within : l.size ≤ size_limit
  pub overhead_limit : l.overhead ≤ size_limit
  pub places_within : l.places ≤ size_limit
