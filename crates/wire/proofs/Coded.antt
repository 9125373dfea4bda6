-- One-byte codes: what a byte is read as is written by that byte.
use Rattle.std.proofs.Common.{◌≡◌, ℕ, Bool, true, false, cond, eqb, List, [], ◌∷◌, Ok, Err, refl, ap, ◌∙◌, arith}
use Rattle.std.proofs.lemmas.Bool.{eqb-true}
use Rattle.wire.specs.declared.faults.PacketFault.{PacketFault}
use Rattle.wire.specs.Coded.{coded}
use Rattle.wire.specs.Letters.{letter_byte, letter_of}
use Rattle.wire.specs.Codes.{status_byte, status_of, logout_byte, logout_of, good_bye_byte, good_bye_of}
use Rattle.wire.specs.declared.letters.Letter.{Letter}
use Rattle.wire.specs.declared.letters.Letter.TheVariants as L
use Rattle.wire.specs.declared.statuses.Status.{Status}
use Rattle.wire.specs.declared.statuses.Status.TheVariants as S
use Rattle.wire.specs.declared.logouts.LogoutReason.{LogoutReason}
use Rattle.wire.specs.declared.logouts.LogoutReason.TheVariants as X
use Rattle.wire.specs.declared.goodbyes.GoodByeReason.{GoodByeReason}
use Rattle.wire.specs.declared.goodbyes.GoodByeReason.TheVariants as G

-- a test that chose: each way gives what is wanted
pub cut : {X : Type 0} (t : Bool) (x y z : X) (P : Type 0) → (t ≡ true → x ≡ z → P) → (t ≡ false → y ≡ z → P) → cond t x y ≡ z → P
cut true x y z P f g e = f refl e
cut false x y z P f g e = g refl e

-- of every code: the byte that was read is the byte of the case
pub coded_byte : {X : Type 0} (byte_of : X → ℕ) (fault : PacketFault) (xs : List X) (b : ℕ) (x : X) → coded byte_of fault xs b ≡ Ok x → b ≡ byte_of x
coded_byte byte_of fault [] b x e = cc
coded_byte byte_of fault (y ∷ ys) b x e =
    cut (eqb b (byte_of y)) _ _ _ (b ≡ byte_of x)
    (λ t h. let same : y ≡ x = cc in eqb-true b (byte_of y) t ∙ ap byte_of same)
    (λ t h. coded_byte byte_of fault ys b x h)
    e

-- and the one fault that a code has is the one it is given
pub coded_fault : {X : Type 0} (byte_of : X → ℕ) (fault : PacketFault) (xs : List X) (b : ℕ) (q : PacketFault) → coded byte_of fault xs b ≡ Err q → fault ≡ q
coded_fault byte_of fault [] b q e = cc
coded_fault byte_of fault (y ∷ ys) b q e =
    cut (eqb b (byte_of y)) _ _ _ (fault ≡ q) (λ t h. cc)
    (λ t h. coded_fault byte_of fault ys b q h)
    e

pub letter_back : (l : Letter) → letter_of (letter_byte l) ≡ Ok l
letter_back L.LoginRequest = refl
letter_back L.LoginResponse = refl
letter_back L.Sequenced = refl
letter_back L.Unsequenced = refl
letter_back L.SynchronizationComplete = refl
letter_back L.RetransmissionRequest = refl
letter_back L.LogoutRequest = refl
letter_back L.GoodBye = refl
letter_back L.EndOfSession = refl
letter_back L.HubHeartbeat = refl
letter_back L.SeatHeartbeat = refl
letter_back L.Test = refl

pub status_back : (s : Status) → status_of (status_byte s) ≡ Ok s
status_back S.Accepted = refl
status_back S.UnknownUser = refl
status_back S.SessionUnavailable = refl
status_back S.InvalidNumber = refl
status_back S.WrongVersion = refl
status_back S.WrongProtocol = refl
status_back S.AlreadyLoggedIn = refl

pub logout_back : (r : LogoutReason) → logout_of (logout_byte r) ≡ Ok r
logout_back X.Done = refl
logout_back X.BadPacket = refl
logout_back X.LoginTimeout = refl
logout_back X.Terminating = refl

pub good_bye_back : (r : GoodByeReason) → good_bye_of (good_bye_byte r) ≡ Ok r
good_bye_back G.BadPacket = refl
good_bye_back G.LoginTimeout = refl
good_bye_back G.Terminating = refl
