-- One-byte codes: a list of the cases, and the byte of each.
use Rattle.std.specs.Prelude.{ℕ, cond, List, [], ◌∷◌, Ok, Err, Result, ◌==◌}
use Rattle.wire.specs.declared.faults.PacketFault.{PacketFault}

-- the case that a byte writes; a byte that writes none of them is a fault
abbrev pub coded : {X : Type 0} → (X → ℕ) → PacketFault → List X → ℕ → Result X PacketFault
coded byte_of fault [] b = Err fault
coded byte_of fault (x ∷ xs) b = cond (b == byte_of x) (Ok x) (coded byte_of fault xs b)
