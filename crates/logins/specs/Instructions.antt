-- The instructions of the line language, and how words write them.
use Rattle.std.specs.Prelude.{ℕ, Bool, true, false, cond, ◌&&◌, List, [], length, drop, Some, None, Ok, Err, Option, Result, ◌==◌, nat_lt, slice_index, slice_index_or}
use Rattle.account.specs.declared.fields.Account.{Account}
use Rattle.account.specs.Logins.{Asked}
use Rattle.account.specs.Fields.{good, padded, good_fields, padded_fields}
use Rattle.logins.specs.declared.tokens.Token.{Token}
use Rattle.logins.specs.declared.tokens.Verb.{Verb}
use Rattle.logins.specs.declared.tokens.Verb.TheVariants as V
use Rattle.logins.specs.declared.instructions.Instruction.{Instruction}
use Rattle.logins.specs.declared.instructions.Instruction.TheVariants as C
use Rattle.logins.specs.declared.instructions.BadLine.{BadLine}
use Rattle.logins.specs.declared.instructions.BadLine.TheVariants.{NoVerb, WordCount, NoNumber, BadField}

-- what an instruction says, apart from where its texts lie
pub data Order : Type 0 where
  -- user, computer ID, protocol
  account : List ℕ → List ℕ → List ℕ → Order
  -- session, highest number
  hub : ℕ → ℕ → Order
  login : Asked → Order
  -- user, computer ID
  logout : List ℕ → List ℕ → Order

abbrev pub asking : List ℕ → Account → ℕ → ℕ → Order
asking v a s n =
    login
    (record {
      version = v;
      user = a.user;
      computer = a.computer;
      protocol = a.protocol;
      session = s;
      number = n;
    })

abbrev pub order_of : Instruction → Order
order_of (C.Account u c p) = account u.now c.now p.now
order_of (C.Hub s h) = hub s h
order_of (C.Login v a s n) = asking v a s n
order_of (C.Logout u c) = logout u c

abbrev pub said : Result Instruction BadLine → Result Order BadLine
said (Ok instruction) = Ok (order_of instruction)
said (Err why) = Err why

abbrev pub no_token : Token
no_token = record { text = record { ref_ptr = (0, 0); now = [] }; verb = None; number = None }

abbrev pub text_at : List Token → ℕ → List ℕ
text_at words k = (slice_index_or words k no_token).text.now

abbrev pub number_at : List Token → ℕ → Option ℕ
number_at words k = (slice_index_or words k no_token).number

-- a blank line and a remark are passed over
abbrev pub remark : List ℕ → Bool
remark text = cond (length text == 0) false (slice_index text 0 == 0x23)

abbrev pub passed_over : List Token → Bool
passed_over words = cond (length words == 0) true (remark (text_at words 0))

abbrev pub byte_of : Option ℕ → Option ℕ
byte_of None = None
byte_of (Some n) = cond (nat_lt n 256) (Some n) None

-- account USER COMPUTER PROTOCOL
abbrev pub account_line : List Token → Result Order BadLine
account_line words =
    cond (length words == 3)
    (Ok (account (text_at words 0) (text_at words 1) (text_at words 2)))
    (Err WordCount)

-- hub SESSION HIGHEST
abbrev pub hub_of : Option ℕ → Option ℕ → Result Order BadLine
hub_of None h = Err NoNumber
hub_of (Some s) None = Err NoNumber
hub_of (Some s) (Some h) = Ok (hub s h)

abbrev pub hub_line : List Token → Result Order BadLine
hub_line words =
    cond (length words == 2)
    (hub_of (byte_of (number_at words 0)) (number_at words 1))
    (Err WordCount)

-- login VERSION USER COMPUTER PROTOCOL SESSION NUMBER
abbrev pub login_of : List ℕ → Account → Option ℕ → Option ℕ → Result Order BadLine
login_of version fields None number = Err NoNumber
login_of version fields (Some s) None = Err NoNumber
login_of version fields (Some s) (Some n) = Ok (asking (padded 5 version) fields s n)

abbrev pub login_line : List Token → Result Order BadLine
login_line words =
    cond (length words == 6)
    (cond
    (good 5 (text_at words 0)
    && good_fields (text_at words 1) (text_at words 2) (text_at words 3))
    (login_of (text_at words 0)
    (padded_fields (text_at words 1) (text_at words 2) (text_at words 3))
    (byte_of (number_at words 4)) (number_at words 5))
    (Err BadField))
    (Err WordCount)

-- logout USER COMPUTER
abbrev pub logout_line : List Token → Result Order BadLine
logout_line words =
    cond (length words == 2)
    (cond (good 5 (text_at words 0) && good 8 (text_at words 1))
    (Ok (logout (padded 5 (text_at words 0)) (padded 8 (text_at words 1))))
    (Err BadField))
    (Err WordCount)

-- the first word says which of the four it is
abbrev pub verb_line : Option Verb → List Token → Result Order BadLine
verb_line (Some V.Account) words = account_line words
verb_line (Some V.Hub) words = hub_line words
verb_line (Some V.Login) words = login_line words
verb_line (Some V.Logout) words = logout_line words
verb_line None words = Err NoVerb

abbrev pub read_of : List Token → Result Order BadLine
read_of words =
    cond (length words == 0) (Err NoVerb)
    (verb_line (slice_index_or words 0 no_token).verb (drop 1 words))
