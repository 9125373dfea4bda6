-- Frames: how many bytes one lacks, what a take hands over, and how a frame is judged.
use Rattle.std.specs.Prelude.{◌≡◌, ℕ, ◌+◌, ◌-◌, ◌≤◌, min, Bool, false, cond, List, [], length, take, drop, Ok, Err, Result, ◌==◌, nat_lt, slice_index}
use Rattle.std.specs.List.{list_any}
use Rattle.wire.specs.declared.faults.PacketFault.{PacketFault}
use Rattle.wire.specs.declared.faults.PacketFault.TheVariants.{OutOfPlace, WrongLength, WrongContent}
use Rattle.wire.specs.Limits.{packet_limit}
use Rattle.wire.specs.declared.letters.Letter.{Letter}
use Rattle.wire.specs.Letters.{letter_byte}
use Rattle.packet.specs.Decoding.{Decoded, whole, head_number, decode}
use Rattle.line.specs.Lines.{LineView, handed}

-- what a frame still lacks: first the two bytes of the length number, then the rest that they count. No frame is
-- filled beyond the longest packet, whatever its length number says.
abbrev pub lack : List ℕ → ℕ
lack frame =
    cond (nat_lt (length frame) 2)
    (2 - length frame)
    (min (head_number frame + 2) packet_limit - length frame)

-- the bytes that a take of at most n hands over
abbrev pub given : LineView → ℕ → List ℕ
given v n = take (handed v n) v.waiting

-- the line after it, if the take leaves so much room
abbrev pub left : LineView → ℕ → ℕ → LineView
left v n room = record v { waiting = drop (handed v n) v.waiting; room = room }

-- The room after a take is the line's own choice, within these limits; nothing else in these rules is free.
pub record Free (v : LineView) (n room : ℕ) : Type 0 where
  pub grows : v.room ≤ room
  pub within : room ≤ v.full
  pub empty : drop (handed v n) v.waiting ≡ [] → room ≡ v.full

-- whether the byte is that of one of the letters
abbrev pub among : List Letter → ℕ → Bool
among letters b = list_any (λ l. b == letter_byte l) letters

-- An end that knows its phase reports a letter that is out of place before a wrong length or a wrong content.
abbrev pub placed : Bool → Result Decoded PacketFault → Result Decoded PacketFault
placed false (Ok (whole v)) = Err OutOfPlace
placed false (Err WrongLength) = Err OutOfPlace
placed false (Err (WrongContent field)) = Err OutOfPlace
placed here said = said

-- what an end that takes these letters says of its frame
abbrev pub judged : List Letter → List ℕ → Result Decoded PacketFault
judged letters frame = placed (among letters (slice_index frame 2)) (decode frame)
