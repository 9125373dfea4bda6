-- How verbs and numbers are written.
use Rattle.std.specs.Prelude.{◌≡◌, ℕ, ◌^◌, ◌<◌, List, Some, None, codes, Option, ◌≢◌}
use Rattle.std.specs.Str.Parse.{IsNumeral, digits_value, without_leading_plus}
use Rattle.logins.specs.declared.tokens.Verb.{Verb}
use Rattle.logins.specs.declared.tokens.Verb.TheVariants.{Account, Hub, Login, Logout}

abbrev pub Names : List ℕ → Option Verb → Type 0
Names text (Some Account) = text ≡ codes "account"
Names text (Some Hub) = text ≡ codes "hub"
Names text (Some Login) = text ≡ codes "login"
Names text (Some Logout) = text ≡ codes "logout"
Names text None =
    (text ≢ codes "account") × (text ≢ codes "hub")
    × (text ≢ codes "login") × (text ≢ codes "logout")

-- decimal digits, after a plus or none, of a number below the machine's limit
abbrev pub Numeric : List ℕ → Type 0
Numeric text =
    let digits = without_leading_plus text in
    IsNumeral 10 digits × (digits_value 10 digits < 2 ^ 64)

abbrev pub Writes : List ℕ → Option ℕ → Type 0
Writes text (Some n) = Numeric text × (n ≡ digits_value 10 (without_leading_plus text))
Writes text None = Numeric text → ⊥
