-- The book: what was published, by session. It begins with the log of a hub that was just set up. After that it hears
-- of each call no more than its message and its answer.
use Rattle.std.specs.Prelude.{ℕ, ◌+◌, Bool, cond, List, [], ◌∷◌, ◌++◌, is_ok, ◌==◌}
use Rattle.message_log.specs.Meaning.{Meaning}
use Rattle.rules.specs.declared.answers.Answer.{Answer}
use Rattle.rules.specs.Rounds.{Call, Publish, Roll}

abbrev pub Message : Type 0
Message = List ℕ

pub record Book : Type 0 where
  -- the session that is running
  pub running : ℕ
  -- the messages published in each session
  pub lists : ℕ → List Message

-- the book that the hub's log begins
abbrev pub opened : Meaning → Book
opened log = record { running = log.session; lists = λ x. cond (x == log.session) log.messages [] }

-- one message more in the running session
abbrev pub added : Book → Message → Book
added b m = record b { lists = λ x. cond (x == b.running) (b.lists x ++ (m ∷ [])) (b.lists x) }

-- the next session
abbrev pub turned : Book → Book
turned b = record b { running = b.running + 1 }

abbrev pub is_granted : Answer → Bool
is_granted (Answer.Done r) = is_ok r
is_granted (Answer.Received r) = is_ok r
is_granted (Answer.Sent r) = is_ok r
is_granted (Answer.Round r) = is_ok r

-- a publish adds its message, and a roll begins the next session, where they are granted; no other call changes the book
abbrev pub noted : Call → Answer → Book → Book
noted (Publish m) a b = cond (is_granted a) (added b m) b
noted Roll a b = cond (is_granted a) (turned b) b
noted call a b = b
