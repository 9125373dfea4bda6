-- The lines that ask for commands: which words each command is written in.
use Rattle.std.specs.Prelude.{◌≡◌, ◌<◌, ◌≤◌, ◌^◌, ◌⊎◌, ℕ, List, [], codes, length, drop, slice_index_or, Some, Option, Ok}
use Rattle.std.specs.Borrow.{Bor}
use Rattle.hex.specs.Hex.{decode_of}
use Rattle.std.specs.Str.Parse.{IsNumeral, digits_value, without_leading_plus}
use Rattle.rules.specs.declared.phases.How.TheVariants as H
use Rattle.relay.specs.declared.commands.Call.{Call}
use Rattle.relay.specs.declared.commands.Call.TheVariants as C
use Rattle.relay.specs.declared.leveling.Way.TheVariants as W
use Rattle.any_pair.specs.declared.forms.End.{End}
use Rattle.any_pair.specs.declared.forms.End.TheVariants.{Hub, Seat}
use Rattle.any_pair.specs.declared.forms.Side.TheVariants.{Up, Down}
use Rattle.any_pair.specs.declared.forms.LogForm.{LogForm}
use Rattle.any_pair.specs.declared.forms.LogForm.TheVariants as G
use Rattle.any_pair.specs.declared.forms.LineForm.{LineForm}
use Rattle.any_pair.specs.declared.forms.LineForm.TheVariants as L
use Rattle.pair.specs.declared.setting.AccountTexts.{AccountTexts}
use Rattle.any_pair.specs.declared.forms.Part.{Part}
use Rattle.any_pair.specs.declared.forms.Part.TheVariants as P
use Rattle.rehearsal.specs.declared.commands.Action.{Action}
use Rattle.rehearsal.specs.declared.commands.Action.TheVariants as D
use Rattle.rehearsal.specs.declared.commands.Question.{Question}
use Rattle.rehearsal.specs.declared.commands.Question.TheVariants as Q
use Rattle.rehearsal.specs.declared.commands.Command.{Command}
use Rattle.rehearsal.specs.declared.commands.Command.TheVariants as M

-- the words of a line
abbrev pub Words : Type 0
Words = List (Bor (List ℕ))

-- the word at a place
abbrev pub word : Words → ℕ → List ℕ
word words k = (slice_index_or words k (record { ref_ptr = (0, 0); now = [] })).now

-- decimal digits of this number, after a plus or none; numbers are below the machine's limit
abbrev pub Numeral : List ℕ → ℕ → Type 0
Numeral text n = IsNumeral 10 (without_leading_plus text) × (n ≡ digits_value 10 (without_leading_plus text)) × (n < 2 ^ 64)

-- such a number that is not above another
abbrev pub NumeralUpTo : ℕ → List ℕ → ℕ → Type 0
NumeralUpTo most text n = Numeral text n × (n ≤ most)

-- how long a buffer of a rehearsal can be, and how many ticks one line can ask for
abbrev pub longest_buffer : ℕ
longest_buffer = 16777216

abbrev pub most_ticks : ℕ
most_ticks = 1000000

-- pairs of hexadecimal digits that write these bytes, or a dash for none
abbrev pub Hexadecimal : List ℕ → List ℕ → Type 0
Hexadecimal text bytes = ((text ≡ codes "-") × (bytes ≡ [])) ⊎ (decode_of text ≡ Ok bytes)

-- the words behind the name of a log or a line
abbrev pub LogWords : Words → LogForm → Type 0
LogWords words (G.Journal bytes) = (length words ≡ 2) × (word words 0 ≡ codes "journal") × Numeral (word words 1) bytes
LogWords words (G.Indexed pool table) = (length words ≡ 3) × (word words 0 ≡ codes "indexed") × Numeral (word words 1) pool × Numeral (word words 2) table
LogWords words (G.Saved bytes saved) = ⊥

abbrev pub LineWords : Words → LineForm → Type 0
LineWords words (L.Ring size) = (length words ≡ 2) × (word words 0 ≡ codes "ring") × Numeral (word words 1) size
LineWords words (L.Straight size) = (length words ≡ 2) × (word words 0 ≡ codes "straight") × Numeral (word words 1) size
LineWords words (L.PacedRing pace size) = (length words ≡ 4) × (word words 0 ≡ codes "paced") × Numeral (word words 1) pace × (word words 2 ≡ codes "ring") × Numeral (word words 3) size
LineWords words (L.PacedStraight pace size) = (length words ≡ 4) × (word words 0 ≡ codes "paced") × Numeral (word words 1) pace × (word words 2 ≡ codes "straight") × Numeral (word words 3) size

abbrev pub TextWords : Words → AccountTexts → Type 0
TextWords words texts = (length words ≡ 3) × (texts.user.now ≡ word words 0) × (texts.computer.now ≡ word words 1) × (texts.protocol.now ≡ word words 2)

-- the line of a part
abbrev pub PartLine : Words → Part → Type 0
PartLine words (P.Log Hub form) = (word words 0 ≡ codes "hub-log") × LogWords (drop 1 words) form
PartLine words (P.Log Seat form) = (word words 0 ≡ codes "seat-log") × LogWords (drop 1 words) form
PartLine words (P.Line Up form) = (word words 0 ≡ codes "up") × LineWords (drop 1 words) form
PartLine words (P.Line Down form) = (word words 0 ≡ codes "down") × LineWords (drop 1 words) form
PartLine words (P.Account texts) = (word words 0 ≡ codes "account") × TextWords (drop 1 words) texts
PartLine words (P.Seat texts) = (word words 0 ≡ codes "seat") × TextWords (drop 1 words) texts
PartLine words (P.Buffers hub seat out) = (length words ≡ 4) × (word words 0 ≡ codes "buffers") × NumeralUpTo longest_buffer (word words 1) hub × NumeralUpTo longest_buffer (word words 2) seat × NumeralUpTo longest_buffer (word words 3) out

abbrev pub EndWord : List ℕ → End → Type 0
EndWord text Hub = text ≡ codes "hub"
EndWord text Seat = text ≡ codes "seat"

-- the line of a question
abbrev pub QuestionLine : Words → Question → Type 0
QuestionLine words Q.Pair = (length words ≡ 1) × (word words 0 ≡ codes "show")
QuestionLine words Q.Wire = (length words ≡ 1) × (word words 0 ≡ codes "wire")
QuestionLine words (Q.Log end) = (length words ≡ 2) × (word words 0 ≡ codes "log") × EndWord (word words 1) end
QuestionLine words (Q.Out count) = (length words ≡ 2) × (word words 0 ≡ codes "out") × Numeral (word words 1) count
QuestionLine words (Q.Save end file) = (length words ≡ 3) × (word words 0 ≡ codes "save") × EndWord (word words 1) end × (file.now ≡ word words 2)

-- the line of a call without a message
abbrev pub CallLine : Words → Call → Type 0
CallLine words (C.Connect H.Join) = (length words ≡ 2) × (word words 0 ≡ codes "connect") × (word words 1 ≡ codes "join")
CallLine words (C.Connect H.Anew) = (length words ≡ 2) × (word words 0 ≡ codes "connect") × (word words 1 ≡ codes "anew")
CallLine words (C.Connect (H.Fetch end)) = (length words ≡ 3) × (word words 0 ≡ codes "connect") × (word words 1 ≡ codes "fetch") × Numeral (word words 2) end
CallLine words C.Cut = (length words ≡ 1) × (word words 0 ≡ codes "cut")
CallLine words (C.Publish message) = ⊥
CallLine words C.Finish = (length words ≡ 1) × (word words 0 ≡ codes "finish")
CallLine words C.Roll = (length words ≡ 1) × (word words 0 ≡ codes "roll")
CallLine words (C.Tell message) = ⊥
CallLine words (C.Say message) = ⊥
CallLine words C.Leave = (length words ≡ 1) × (word words 0 ≡ codes "leave")
CallLine words C.HubReceive = (length words ≡ 1) × (word words 0 ≡ codes "hub-receive")
CallLine words C.SeatReceive = (length words ≡ 1) × (word words 0 ≡ codes "seat-receive")
CallLine words C.HubSend = (length words ≡ 1) × (word words 0 ≡ codes "hub-send")
CallLine words C.SeatSend = (length words ≡ 1) × (word words 0 ≡ codes "seat-send")
CallLine words C.Tick = (length words ≡ 1) × (word words 0 ≡ codes "tick")
CallLine words C.Round = (length words ≡ 1) × (word words 0 ≡ codes "round")

-- a verb and bytes in the word behind it
abbrev pub ByteLine : Words → Option (Bor (List ℕ)) → List ℕ → Bor (List ℕ) → Type 0
ByteLine words bytes verb message = (length words ≡ 2) × (word words 0 ≡ verb) × (bytes ≡ Some message)

-- The line of something that is done to a pair. The bytes are those that its second word writes.
abbrev pub ActionLine : Words → Option (Bor (List ℕ)) → Action → Type 0
ActionLine words bytes (D.Call (C.Publish message)) = ByteLine words bytes (codes "publish") message
ActionLine words bytes (D.Call (C.Tell message)) = ByteLine words bytes (codes "tell") message
ActionLine words bytes (D.Call (C.Say message)) = ByteLine words bytes (codes "say") message
ActionLine words bytes (D.Call call) = CallLine words call
ActionLine words bytes (D.Ticks count) = (length words ≡ 2) × (word words 0 ≡ codes "tick") × NumeralUpTo most_ticks (word words 1) count
ActionLine words bytes (D.Level W.Join) = (length words ≡ 2) × (word words 0 ≡ codes "level") × (word words 1 ≡ codes "join")
ActionLine words bytes (D.Level W.Anew) = (length words ≡ 2) × (word words 0 ≡ codes "level") × (word words 1 ≡ codes "anew")
ActionLine words bytes (D.Stranger Up piece) = ByteLine words bytes (codes "put-up") piece
ActionLine words bytes (D.Stranger Down piece) = ByteLine words bytes (codes "put-down") piece

-- the line of a command
abbrev pub CommandLine : Words → Option (Bor (List ℕ)) → Command → Type 0
CommandLine words bytes (M.Part part) = PartLine words part
CommandLine words bytes (M.Open Hub size file) = (length words ≡ 4) × (word words 0 ≡ codes "hub-log") × (word words 1 ≡ codes "open") × Numeral (word words 2) size × (file.now ≡ word words 3)
CommandLine words bytes (M.Open Seat size file) = (length words ≡ 4) × (word words 0 ≡ codes "seat-log") × (word words 1 ≡ codes "open") × Numeral (word words 2) size × (file.now ≡ word words 3)
CommandLine words bytes M.SetUp = (length words ≡ 1) × (word words 0 ≡ codes "setup")
CommandLine words bytes (M.Action action) = ActionLine words bytes action
CommandLine words bytes (M.Question question) = QuestionLine words question
