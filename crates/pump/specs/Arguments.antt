-- How the arguments of the command line are spelled.
use Rattle.std.specs.Prelude.{◌≡◌, ℕ, ◌^◌, ◌<◌, List, codes, ◌≢◌}
use Rattle.std.specs.Str.Parse.{IsNumeral, digits_value, without_leading_plus}
use Rattle.pump.specs.declared.arguments.Kind.TheVariants as K
use Rattle.pump.specs.declared.arguments.Argument.{Argument}
use Rattle.pump.specs.declared.arguments.Argument.TheVariants as A

-- no text with a name of its own
abbrev pub Nameless : List ℕ → Type 0
Nameless text = (text ≢ codes "paced") × (text ≢ codes "ring") × (text ≢ codes "straight")

-- decimal digits, after a plus or none, of a number below the machine's limit
abbrev pub Numeric : List ℕ → Type 0
Numeric text =
    let digits = without_leading_plus text in
    IsNumeral 10 digits × (digits_value 10 digits < 2 ^ 64)

abbrev pub Spells : List ℕ → Argument → Type 0
Spells text A.Paced = text ≡ codes "paced"
Spells text (A.Kind K.Ring) = text ≡ codes "ring"
Spells text (A.Kind K.Straight) = text ≡ codes "straight"
Spells text (A.Number n) =
    Nameless text × Numeric text × (n ≡ digits_value 10 (without_leading_plus text))
Spells text A.Other = Nameless text × (Numeric text → ⊥)
