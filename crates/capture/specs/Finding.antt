-- What is found at the front of a capture's bytes.
use Rattle.std.specs.Prelude.{◌≡◌, ℕ, ◌<◌, List, ◌++◌, length, drop, Some, None, Ok, Err, Option, Result}
use Rattle.wire.specs.declared.faults.Fault.{Fault}
use Rattle.wire.specs.declared.faults.Fault.TheVariants as F
use Rattle.wire.specs.Limits.{packet_limit}
use Rattle.packet.specs.Values.{Value, encode}
use Rattle.packet.specs.Decoding.{part, whole, decode}
use Rattle.packet.specs.Meanings.{value_of}
use Rattle.capture.specs.declared.finding.Found.{Found}

-- a part: a frame for the longest packet has room for more
pub record Part (bs : List ℕ) : Type 0 where
  pub is : decode bs ≡ Ok part
  pub short : length bs < packet_limit

-- a packet: it stands at the front as it is written, and takes as many bytes
pub record PacketAt (bs : List ℕ) (v : Value) (size : ℕ) : Type 0 where
  pub is : decode bs ≡ Ok (whole v)
  pub takes : size ≡ length (encode v)
  pub front : bs ≡ encode v ++ drop size bs

abbrev pub FindsFirst : List ℕ → Result (Option Found) Fault → Type 0
FindsFirst bs (Ok None) = Part bs
FindsFirst bs (Ok (Some found)) = PacketAt bs (value_of found.packet) found.size
FindsFirst bs (Err (F.Packet fault)) = decode bs ≡ Err fault
FindsFirst bs (Err (F.Log fault)) = ⊥
