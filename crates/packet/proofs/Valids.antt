-- Packets that can be carried: each field fits, and the letter allows the length.
use Rattle.std.proofs.Common.{◌≡◌, ℕ, ◌^◌, ◌<◌, ◌≤◌, true, List, length, refl, arith, length-append}
use Rattle.std.proofs.lemmas.Bool.{and_from, le-leb}
use Rattle.wire.specs.Limits.{message_limit}
use Rattle.wire.specs.Letters.{shortest, longest, allowed}
use Rattle.wire.specs.declared.letters.Letter.{Letter}
use Rattle.wire.specs.declared.letters.Letter.TheVariants as L
use Rattle.wire.specs.declared.statuses.Status.{Status}
use Rattle.packet.specs.Values.{Valid, login_request, login_response, sequenced, unsequenced, length_number}

in_range : (l : Letter) (n : ℕ) → shortest l ≤ n → n ≤ longest l → allowed l n ≡ true
in_range l n a b = and_from _ _ (le-leb (shortest l) n a) (le-leb n (longest l) b)

pub sequenced_valid : (n : ℕ) (m : List ℕ) → n < 256 ^ 8 → length m ≤ message_limit → Valid (sequenced n m)
sequenced_valid n m l k = record { fields = l; fits = in_range L.Sequenced (length_number (sequenced n m)) (omega arith) (omega arith) }

pub unsequenced_valid : (m : List ℕ) → length m ≤ message_limit → Valid (unsequenced m)
unsequenced_valid m k = record { fields = tt; fits = in_range L.Unsequenced (length_number (unsequenced m)) (omega arith) (omega arith) }

pub response_valid : (t : Status) (s n : ℕ) → s < 256 → n < 256 ^ 8 → Valid (login_response t s n)
response_valid t s n a b = record { fields = (a, b); fits = refl }

pub login_valid : (v u c p : List ℕ) (s n : ℕ) → length v ≡ 5 → length u ≡ 5 → length c ≡ 8 → length p ≡ 8 → s < 256 → n < 256 ^ 8 → Valid (login_request v u c p s n)
login_valid v u c p s n a b d e f g =
    let long : length_number (login_request v u c p s n) ≡ 36 = simp length-append (omega arith) in
    record { fields = (a, b, d, e, f, g); fits = in_range L.LoginRequest (length_number (login_request v u c p s n)) (omega arith) (omega arith) }
