-- Worked examples: bytes, and what a reader says of them.
use Rattle.std.specs.Prelude.{◌≡◌, ℕ, List, [], ◌∷◌, Ok, Err, Result}
use Rattle.std.specs.List.{AllByRecursion}
use Rattle.wire.specs.declared.faults.PacketFault.{PacketFault}
use Rattle.wire.specs.declared.faults.PacketFault.TheVariants.{LengthZero, LengthOverLimit, WrongLength}
use Rattle.wire.specs.declared.statuses.Status.TheVariants.{Accepted}
use Rattle.packet.specs.Values.{login_response, sequenced}
use Rattle.packet.specs.Decoding.{Decoded, part, whole, decode}

pub record PacketExample : Type 0 where
  pub bytes : List ℕ
  pub says : Result Decoded PacketFault

abbrev pub examples : List PacketExample
examples =
    -- a login is accepted: session 7, highest number 1
    record {
      bytes =
          0x0B ∷ 0x00 ∷ 0x52 ∷ 0x20 ∷ 0x07
          ∷ 0x01 ∷ 0x00 ∷ 0x00 ∷ 0x00 ∷ 0x00 ∷ 0x00 ∷ 0x00 ∷ 0x00 ∷ [];
      says = Ok (whole (login_response Accepted 7 1));
    }
    -- sequenced message 1
    ∷ record {
      bytes =
          0x0B ∷ 0x00 ∷ 0x53
          ∷ 0x01 ∷ 0x00 ∷ 0x00 ∷ 0x00 ∷ 0x00 ∷ 0x00 ∷ 0x00 ∷ 0x00 ∷ 0x41 ∷ 0x42 ∷ [];
      says = Ok (whole (sequenced 1 (0x41 ∷ 0x42 ∷ [])));
    }
    -- synchronization complete has no body
    ∷ record { bytes = 0x02 ∷ 0x00 ∷ 0x43 ∷ 0x00 ∷ []; says = Err WrongLength }
    -- length numbers: none, one over the largest, the largest
    ∷ record { bytes = 0x00 ∷ 0x00 ∷ []; says = Err LengthZero }
    ∷ record { bytes = 0x0A ∷ 0x10 ∷ []; says = Err LengthOverLimit }
    ∷ record { bytes = 0x09 ∷ 0x10 ∷ []; says = Ok part }
    ∷ []

abbrev pub ExamplesHold : Type 0
ExamplesHold = AllByRecursion (λ (x : PacketExample). decode x.bytes ≡ x.says) examples
