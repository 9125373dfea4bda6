-- A capture that is explained: its packets, their counts, and how it ended.
use Rattle.std.specs.Prelude.{◌≡◌, ℕ, ◌+◌, ◌-◌, ◌^◌, ◌<◌, min, List, [], ◌∷◌, ◌++◌, length, replicate, Some, None, Ok, Err, Option, Result}
use Rattle.std.specs.List.{flat_map}
use Rattle.std.specs.declared.io.Error.{Error}
use Rattle.wire.specs.declared.faults.Fault.TheVariants as F
use Rattle.packet.specs.Values.{Value, encode, letter}
use Rattle.packet.specs.Decoding.{part, decode}
use Rattle.capture.specs.Runs.{Run}
use Rattle.packet.specs.LetterCounts.{raised}
use Rattle.capture.specs.Windows.{Grown}
use Rattle.capture.specs.declared.endings.Ending.{Ending}
use Rattle.capture.specs.declared.endings.Ending.TheVariants as E
use Rattle.capture.specs.declared.endings.Summary.{Summary}
use Rattle.capture.specs.declared.explainers.Explainer.{Explainer}

-- the counts of the packets shown, one after the other
abbrev pub tallied : List ℕ → List Value → List ℕ
tallied counts [] = counts
tallied counts (v ∷ vs) = tallied (raised counts (letter v)) vs

-- what an explainer knows after a run: each packet shown is counted, and the offset is where they end
pub record Knows (vs : List Value) (counts : List ℕ) (offset : ℕ) : Type 0 where
  pub counted : counts ≡ tallied (replicate 12 0) vs
  pub reached : offset ≡ min (length (flat_map encode vs)) (2 ^ 64 - 1)

-- nothing more can be shown of what is held
abbrev pub Ends : List ℕ → Ending → Type 0
Ends held E.Clean = held ≡ []
Ends held (E.Part n) = (0 < n) × (length held ≡ n) × (decode held ≡ Ok part)
Ends held (E.Fault (F.Packet fault)) = decode held ≡ Err fault
Ends held (E.Fault (F.Log fault)) = ⊥

-- before the first byte
abbrev pub Fresh : Explainer → Type 0
Fresh e = (e.frame ≡ []) × (e.tally.counts ≡ replicate 12 0) × (e.offset ≡ 0)

-- a run has gone on to here: more bytes came, or a packet was shown, or both are as they were
pub record Went (bs : List ℕ) (vs : List Value) (e : Explainer) : Type 0 where
  pub more : List ℕ
  pub packets : List Value
  pub run : Run (bs ++ more) packets e.frame
  pub knows : Knows packets e.tally.counts e.offset

-- how far a run has come
abbrev pub progress : List ℕ → List Value → ℕ
progress bs vs = length bs + length vs

-- no ending yet: something was read or shown; else an ending that fits what is held
abbrev pub Answers : (bs : List ℕ) (vs : List Value) (e : Explainer) →
    Result (Option Ending) Error → Went bs vs e → Type 0
Answers bs vs e (Ok None) w = progress bs vs < progress (bs ++ w.more) w.packets
Answers bs vs e (Ok (Some ending)) w = Ends e.frame ending
Answers bs vs e (Err fault) w = Unit {0}

-- a read: bytes came behind those held, or none came, and the ending fits a held part
abbrev pub More : List ℕ → List ℕ → Result (Option Ending) Error → Type 0
More old new (Ok None) = (count : ℕ) × Grown old new count × (0 < count)
More old new (Ok (Some E.Clean)) = (new ≡ old) × (new ≡ [])
More old new (Ok (Some (E.Part n))) = (new ≡ old) × (length new ≡ n) × (0 < n)
More old new (Ok (Some (E.Fault fault))) = ⊥
More old new (Err fault) = new ≡ old

-- one step of an explainer takes any run that led to it further
abbrev pub Turned : Explainer → Explainer → Result (Option Ending) Error → Type 0
Turned old new r =
    (bs : List ℕ) (vs : List Value) → Run bs vs old.frame → Knows vs old.tally.counts old.offset →
    (w : Went bs vs new) × Answers bs vs new r w

-- a run from the first byte has led here; which bytes came is the input's affair
pub record Reached (e : Explainer) : Type 0 where
  pub bytes : List ℕ
  pub packets : List Value
  pub run : Run bytes packets e.frame
  pub knows : Knows packets e.tally.counts e.offset

-- a whole capture: what was reached, and an ending that fits what is left
pub record Explained (s : Summary) : Type 0 where
  pub held : List ℕ
  pub reached : Reached (record { frame = held; tally = s.tally; offset = s.offset })
  pub ends : Ends held s.ending
