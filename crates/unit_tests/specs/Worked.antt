-- The worked examples of every layer in one list.
use Rattle.std.specs.Prelude.{◌≡◌, List, ◌++◌, map}
use Rattle.std.specs.List.{AllByRecursion}
use Rattle.packet.specs.Decoding.{decode}
use Rattle.packet.specs.Examples as packets
use Rattle.logs.specs.JournalExamples as journals
use Rattle.account.specs.Examples as accounts

pub data Worked : Type 0 where
  -- bytes, and what a reader says of them
  packet : packets.PacketExample → Worked
  -- a saved log, or what a journal answers
  journal : journals.JournalExample → Worked
  -- what a lookup finds, or how a login is decided
  account : accounts.AccountExample → Worked

abbrev pub Holds : Worked → Type 0
Holds (packet x) = decode x.bytes ≡ x.says
Holds (journal x) = journals.Holds x
Holds (account x) = accounts.Holds x

abbrev pub worked : List Worked
worked = map packet packets.examples ++ (map journal journals.examples ++ map account accounts.examples)

abbrev pub WorkedExamplesHold : Type 0
WorkedExamplesHold = AllByRecursion Holds worked
