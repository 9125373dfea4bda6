-- What it answers to put a packet on a line, and what the line and the outgoing buffer hold then.
use Rattle.std.specs.Prelude.{◌≡◌, ℕ, cond, List, Ok, Err, Result, nat_lt}
use Rattle.wire.specs.declared.refusals.Refusal.{Refusal}
use Rattle.wire.specs.declared.refusals.Refusal.TheVariants.{NoSuchMessage, ShortBuffer, LineFull}
use Rattle.wire.specs.Limits.{packet_limit}
use Rattle.packet.specs.Values.{Value, sequenced, encode}
use Rattle.packet.specs.Writing.{writing}
use Rattle.line.specs.Lines.{LineView, joined, fits}
use Rattle.message_log.specs.Meaning.{Meaning, nth}
use Rattle.message_log.specs.Calls.{settled, has, fronted}

-- a writing that was granted counts the bytes; a posting only says that they went
abbrev pub went : Result ℕ Refusal → Result (Unit {0}) Refusal
went (Ok n) = Ok tt
went (Err refusal) = Err refusal

-- a packet is to go by a buffer of so many bytes
abbrev pub posting : Value → LineView → ℕ → Result (Unit {0}) Refusal
posting v line out = cond (fits line (encode v)) (went (writing v out)) (Err LineFull)

-- where nothing but the room can refuse it
abbrev pub roomy : Value → LineView → Result (Unit {0}) Refusal
roomy v line = cond (fits line (encode v)) (Ok tt) (Err LineFull)

-- message n of a log is to go
abbrev pub posting_message : Meaning → ℕ → LineView → ℕ → Result (Unit {0}) Refusal
posting_message log n line out =
    cond (has log n)
    (cond (nat_lt out packet_limit) (Err ShortBuffer) (roomy (sequenced n (nth log n)) line))
    (Err NoSuchMessage)

-- granted, the packet stands behind what waits and at the front of the buffer; refused, nothing changes
pub record Posted (v : Value) (says : Result (Unit {0}) Refusal) (before : LineView) (out : List ℕ)
    (r : Result (Unit {0}) Refusal) (after : LineView) (filled : List ℕ) : Type 0 where
  pub answer : r ≡ says
  pub line : after ≡ settled r (joined before (encode v)) before
  pub buffer : filled ≡ settled r (fronted (encode v) out) out
