-- The fields of an account: which are allowed, and how they are padded.
use Rattle.std.specs.Prelude.{ℕ, ◌-◌, Bool, cond, ◌&&◌, List, ◌++◌, length, replicate, Ok, Err, Result, nat_le}
use Rattle.std.specs.List.{list_all}
use Rattle.wire.specs.declared.refusals.Refusal.{Refusal}
use Rattle.wire.specs.declared.refusals.Refusal.TheVariants.{BadAccountField}
use Rattle.wire.specs.Overlay as Memory
use Rattle.account.specs.declared.fields.Account.{Account}

-- a byte that is written as a mark on paper: from ! to ~
abbrev pub visible : ℕ → Bool
visible b = nat_le 0x21 b && nat_le b 0x7E

abbrev pub all_visible : List ℕ → Bool
all_visible bs = list_all visible bs

-- a field is not empty, not wider than its width, and visible
abbrev pub good : ℕ → List ℕ → Bool
good width text = nat_le 1 (length text) && (nat_le (length text) width && all_visible text)

-- spaces on the right, up to the width
abbrev pub padded : ℕ → List ℕ → List ℕ
padded width text = text ++ replicate (width - length text) 0x20

-- a field that a text is laid into: whether it may stand there, and what the field then holds
abbrev pub judged : ℕ → List ℕ → Result Unit Refusal
judged width text = cond (good width text) (Ok tt) (Err BadAccountField)

abbrev pub laid : List ℕ → List ℕ → List ℕ
laid field text = cond (good (length field) text) (Memory.laid field 0 text) field

-- a text that is padded to a width, or the refusal
abbrev pub field_of : ℕ → List ℕ → Result (List ℕ) Refusal
field_of width text = cond (good width text) (Ok (padded width text)) (Err BadAccountField)

-- the three fields of an account
abbrev pub good_fields : List ℕ → List ℕ → List ℕ → Bool
good_fields user computer protocol = good 5 user && (good 8 computer && good 8 protocol)

abbrev pub padded_fields : List ℕ → List ℕ → List ℕ → Account
padded_fields user computer protocol =
    record { user = padded 5 user; computer = padded 8 computer; protocol = padded 8 protocol }

abbrev pub account_of : List ℕ → List ℕ → List ℕ → Result Account Refusal
account_of user computer protocol =
    cond (good_fields user computer protocol)
    (Ok (padded_fields user computer protocol))
    (Err BadAccountField)
