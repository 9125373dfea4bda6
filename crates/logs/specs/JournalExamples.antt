-- Worked examples of a journal.
use Rattle.std.specs.Prelude.{◌≡◌, ℕ, List, [], ◌∷◌, Ok, Err, Result}
use Rattle.wire.specs.declared.refusals.Refusal.{Refusal}
use Rattle.wire.specs.declared.refusals.Refusal.TheVariants.{LogFull}
use Rattle.message_log.specs.Calls.{takes}
use Rattle.logs.specs.Format.{saved}
use Rattle.logs.specs.Layout.{journal}
use Rattle.logs.specs.Opening.{Savable, Broken}

pub data JournalExample : Type 0 where
  -- the bytes open as a log of the session given, with these messages
  opens_as : List ℕ → ℕ → List (List ℕ) → JournalExample
  -- the bytes are broken at this place
  broken_at : List ℕ → ℕ → JournalExample
  -- an empty journal of so many bytes answers so to a message of so many
  answers : ℕ → ℕ → Result (Unit {0}) Refusal → JournalExample

abbrev pub Holds : JournalExample → Type 0
Holds (opens_as bytes s ms) = (bytes ≡ saved s ms) × Savable s ms
Holds (broken_at bytes place) = Broken bytes place
Holds (answers n m r) = takes (journal n 1 []) m ≡ r

abbrev pub Hold : List JournalExample → Type 0
Hold [] = Unit {0}
Hold (e ∷ es) = Holds e × Hold es

abbrev pub examples : List JournalExample
examples =
    opens_as
    (0x42 ∷ 0x53 ∷ 0x01 ∷ 0x00 ∷ 0x07 ∷ 0x4D ∷ 0x47 ∷ 0x02 ∷ 0x00 ∷ 0x41 ∷ 0x42 ∷ [])
    7
    ((0x41 ∷ 0x42 ∷ []) ∷ [])
    ∷ broken_at (0x42 ∷ 0x53 ∷ 0x01 ∷ 0x00 ∷ 0x07 ∷ 0x4D ∷ 0x47 ∷ 0x02 ∷ 0x00 ∷ 0x41 ∷ []) 5
    ∷ answers 13 4 (Ok tt)
    ∷ answers 13 5 (Err LogFull)
    ∷ []
