-- What holds of reading and writing together, in words that do not follow the steps of either.
use Rattle.std.specs.Prelude.{◌≡◌, ℕ, ◌<◌, ◌≤◌, List, ◌++◌, length, take, drop, Ok, Err, Result, ◌≢◌}
use Rattle.std.specs.List.{AllByRecursion}
use Rattle.wire.specs.declared.faults.Field.TheVariants as Field
use Rattle.wire.specs.declared.faults.PacketFault.{PacketFault}
use Rattle.wire.specs.declared.faults.PacketFault.TheVariants.{LengthZero, LengthOverLimit, OutOfPlace, WrongContent}
use Rattle.wire.specs.Limits.{length_limit}
use Rattle.packet.specs.Values.{Value, Valid, encode}
use Rattle.packet.specs.Decoding.{Decoded, part, whole, head_number, decode}

abbrev pub Bytes : List ℕ → Type 0
Bytes bs = AllByRecursion (λ b. b < 256) bs

-- a written packet reads back as itself, whatever comes after it
abbrev pub ReadsBack : Type 0
ReadsBack = (v : Value) (rest : List ℕ) → Valid v → decode (encode v ++ rest) ≡ Ok (whole v)

-- what stands at the front of bytes that are read as a packet: that packet as it is written
pub record Front (v : Value) (bs : List ℕ) : Type 0 where
  pub valid : Valid v
  pub written : bs ≡ encode v ++ drop (length (encode v)) bs

-- an accepted packet, written again, gives the same bytes
abbrev pub WritesBack : Type 0
WritesBack = (bs : List ℕ) (v : Value) → Bytes bs → decode bs ≡ Ok (whole v) → Front v bs

-- what is said of a packet does not depend on the bytes after it: only a part can become something else
abbrev pub IgnoresRest : Type 0
IgnoresRest = (bs rest : List ℕ) → (decode bs ≢ Ok part) → decode (bs ++ rest) ≡ decode bs

-- a proper beginning of a good packet is a part: no packet, and no fault
abbrev pub BeginningsAreParts : Type 0
BeginningsAreParts =
    (v : Value) (k : ℕ) → Valid v → k < length (encode v) → decode (take k (encode v)) ≡ Ok part

-- a length number that is 0 or over the limit is reported as soon as its two bytes are in
pub record ReportedEarly (bs : List ℕ) : Type 0 where
  pub zero : head_number bs ≡ 0 → decode bs ≡ Err LengthZero
  pub over : length_limit < head_number bs → decode bs ≡ Err LengthOverLimit

abbrev pub ReportsEarly : Type 0
ReportsEarly = (bs : List ℕ) → 2 ≤ length bs → ReportedEarly bs

-- the faults that a reader can report which knows of no phase: no letter is out of place, and a content is
-- wrong only in a status or a reason
abbrev pub Phaseless : PacketFault → Type 0
Phaseless OutOfPlace = ⊥
Phaseless (WrongContent Field.Status) = Unit {0}
Phaseless (WrongContent Field.Reason) = Unit {0}
Phaseless (WrongContent other) = ⊥
Phaseless other = Unit {0}

abbrev pub KnowsNoPhase : Type 0
KnowsNoPhase = (bs : List ℕ) (fault : PacketFault) → decode bs ≡ Err fault → Phaseless fault

-- all of it, of one reading
pub record Reads (bs : List ℕ) (r : Result Decoded PacketFault) : Type 0 where
  -- the answer is what the bytes mean
  pub answer : r ≡ decode bs
  -- a packet that is accepted stands at the front as it is written
  pub front : (v : Value) → r ≡ Ok (whole v) → Front v bs
  -- and any proper beginning of it is a part
  pub beginnings : (v : Value) (k : ℕ) → r ≡ Ok (whole v) → k < length (encode v) →
      decode (take k bs) ≡ Ok part
  -- bytes after the packet change nothing
  pub rest : (more : List ℕ) → (r ≢ Ok part) → decode (bs ++ more) ≡ r
  -- a bad length number is reported by its two bytes
  pub early : 2 ≤ length bs → ReportedEarly bs
  -- no fault is reported that only an end in a phase can report
  pub phaseless : (fault : PacketFault) → r ≡ Err fault → Phaseless fault
