-- What a writer answers, and what the buffer holds then.
use Rattle.std.specs.Prelude.{◌≡◌, ℕ, ◌+◌, ◌<◌, Bool, true, cond, ◌&&◌, List, ◌++◌, length, take, drop, IfOk, Ok, Err, Result, ◌==◌, ◌≢◌, nat_lt}
use Rattle.wire.specs.declared.faults.PacketFault.{PacketFault}
use Rattle.wire.specs.declared.faults.PacketFault.TheVariants.{LengthOverLimit, WrongLength}
use Rattle.wire.specs.declared.refusals.Refusal.{Refusal}
use Rattle.wire.specs.declared.refusals.Refusal.TheVariants.{ShortBuffer, BadPacket}
use Rattle.wire.specs.Limits.{length_limit}
use Rattle.wire.specs.Letters.{allowed}
use Rattle.packet.specs.Values.{Value, login_request, letter, length_number, encode}
use Rattle.packet.specs.Decoding.{part, whole, decode}
use Rattle.packet.specs.Laws.{Bytes}

-- whether the texts of a login request have their widths; no other packet has a text of a fixed width
abbrev pub widths : Value → Bool
widths (login_request v u c p s n) =
    length v == 5 && (length u == 5 && (length c == 8 && length p == 8))
widths other = true

-- the length number of a packet that can be read back; else its fault
abbrev pub writable : Value → Result ℕ PacketFault
writable v =
    cond (nat_lt length_limit (length_number v)) (Err LengthOverLimit)
    (cond (allowed (letter v) (length_number v))
    (cond (widths v) (Ok (length_number v)) (Err WrongLength))
    (Err WrongLength))

abbrev pub granting : Result ℕ PacketFault → Result ℕ Refusal
granting (Ok n) = Ok (n + 2)
granting (Err fault) = Err (BadPacket fault)

-- a short buffer is reported first, then a packet that could not be read back; else the packet's length
abbrev pub writing : Value → ℕ → Result ℕ Refusal
writing v room = cond (nat_lt room (length_number v + 2)) (Err ShortBuffer) (granting (writable v))

-- granted, the packet stands at the front, and the rest is untouched; refused, all of it is
abbrev pub overwritten : Value → List ℕ → Result ℕ Refusal → List ℕ
overwritten v old (Ok n) = encode v ++ drop n old
overwritten v old (Err refusal) = old

-- all that holds of one writing
pub record Written (v : Value) (old new : List ℕ) (r : Result ℕ Refusal) : Type 0 where
  pub answer : r ≡ writing v (length old)
  pub buffer : new ≡ overwritten v old r
  -- what was written reads back as itself, whatever the rest of the buffer holds
  pub back : IfOk r (λ n. decode new ≡ Ok (whole v))
  -- and any proper beginning of it is a part
  pub beginnings : IfOk r (λ n. (k : ℕ) → k < n → decode (take k new) ≡ Ok part)
  -- a packet that is refused for a fault would not have been read back as itself
  pub unreadable : (fault : PacketFault) → r ≡ Err (BadPacket fault) → (rest : List ℕ) →
      Bytes (encode v ++ rest) → decode (encode v ++ rest) ≢ Ok (whole v)
