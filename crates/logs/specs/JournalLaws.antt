-- The saved form determines everything: no two logs have the same form, no saved log is broken, and broken bytes are
-- broken at one place.
use Rattle.std.specs.Prelude.{◌≡◌, ℕ, true, List, is_some}
use Rattle.logs.specs.Format.{saved}
use Rattle.logs.specs.Reading.{fault_at}
use Rattle.logs.specs.Opening.{Savable, Broken}

abbrev pub SavedOnce : Type 0
SavedOnce =
    (s s' : ℕ) (ms ms' : List (List ℕ)) → Savable s ms → Savable s' ms' →
    saved s ms ≡ saved s' ms' → (s ≡ s') × (ms ≡ ms')

abbrev pub SavedIsSound : Type 0
SavedIsSound =
    (s : ℕ) (ms : List (List ℕ)) (place : ℕ) → Savable s ms → Broken (saved s ms) place → ⊥

abbrev pub BrokenOnce : Type 0
BrokenOnce = (bytes : List ℕ) (p q : ℕ) → Broken bytes p → Broken bytes q → p ≡ q

-- what is wrong there can be said
abbrev pub BrokenHasAFault : Type 0
BrokenHasAFault =
    (bytes : List ℕ) (place : ℕ) → Broken bytes place → is_some (fault_at bytes place) ≡ true
