-- Packets counted as they are put on a line.
use Rattle.std.specs.Prelude.{ℕ, cond, List, length, slice_index, nat_le, Option, Some, None}
use Rattle.std.specs.Result.{result_ok}
use Rattle.wire.specs.declared.letters.Letter.{Letter}
use Rattle.wire.specs.Letters.{letter_of}
use Rattle.line.specs.Lines.{LineView, fits}
use Rattle.packet.specs.LetterCounts.{raised}

-- the letter of a packet: its third byte, behind the length
abbrev pub letter_in : List ℕ → Option Letter
letter_in packet =
    cond (nat_le 3 (length packet)) (result_ok (letter_of (slice_index packet 2))) None

-- one packet more, if it has a letter
abbrev pub noted : Option Letter → List ℕ → List ℕ
noted (Some letter) tally = raised tally letter
noted None tally = tally

-- the counts after a put: a packet is counted if it fitted the line
abbrev pub counted : LineView → List ℕ → List ℕ → List ℕ
counted line piece tally = cond (fits line piece) (noted (letter_in piece) tally) tally
