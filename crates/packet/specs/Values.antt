-- What packets say, and the bytes that say it.
use Rattle.std.specs.Prelude.{◌≡◌, ℕ, ◌+◌, ◌^◌, ◌<◌, true, List, [], ◌∷◌, ◌++◌, length}
use Rattle.wire.specs.declared.letters.Letter.{Letter}
use Rattle.wire.specs.declared.letters.Letter.TheVariants as L
use Rattle.wire.specs.declared.statuses.Status.{Status}
use Rattle.wire.specs.declared.logouts.LogoutReason.{LogoutReason}
use Rattle.wire.specs.declared.goodbyes.GoodByeReason.{GoodByeReason}
use Rattle.wire.specs.Numbers.{little}
use Rattle.wire.specs.Letters.{letter_byte, allowed}
use Rattle.wire.specs.Codes.{status_byte, logout_byte, good_bye_byte}

-- what a packet says, apart from where its bytes lie
pub data Value : Type 0 where
  -- version, user, computer ID, protocol, session and number asked for
  login_request : List ℕ → List ℕ → List ℕ → List ℕ → ℕ → ℕ → Value
  -- status, session, highest number
  login_response : Status → ℕ → ℕ → Value
  -- number, message
  sequenced : ℕ → List ℕ → Value
  unsequenced : List ℕ → Value
  synchronization_complete : Value
  -- first and last number
  retransmission_request : ℕ → ℕ → Value
  -- reason, text
  logout_request : LogoutReason → List ℕ → Value
  good_bye : GoodByeReason → List ℕ → Value
  end_of_session : Value
  hub_heartbeat : Value
  seat_heartbeat : Value
  test : List ℕ → Value

abbrev pub letter : Value → Letter
letter (login_request v u c p s n) = L.LoginRequest
letter (login_response t s n) = L.LoginResponse
letter (sequenced n m) = L.Sequenced
letter (unsequenced m) = L.Unsequenced
letter synchronization_complete = L.SynchronizationComplete
letter (retransmission_request a e) = L.RetransmissionRequest
letter (logout_request r t) = L.LogoutRequest
letter (good_bye r t) = L.GoodBye
letter end_of_session = L.EndOfSession
letter hub_heartbeat = L.HubHeartbeat
letter seat_heartbeat = L.SeatHeartbeat
letter (test t) = L.Test

-- what follows the letter
abbrev pub body : Value → List ℕ
body (login_request v u c p s n) = v ++ (u ++ (c ++ (p ++ (s ∷ little 8 n))))
body (login_response t s n) = status_byte t ∷ s ∷ little 8 n
body (sequenced n m) = little 8 n ++ m
body (unsequenced m) = m
body synchronization_complete = []
body (retransmission_request a e) = little 8 a ++ little 8 e
body (logout_request r t) = logout_byte r ∷ t
body (good_bye r t) = good_bye_byte r ∷ t
body end_of_session = []
body hub_heartbeat = []
body seat_heartbeat = []
body (test t) = t

-- the length number counts the letter and the body
abbrev pub length_number : Value → ℕ
length_number v = length (body v) + 1

-- a packet: two bytes of length number, the letter, the body
abbrev pub framed : ℕ → List ℕ → List ℕ
framed b bytes = little 2 (length bytes + 1) ++ (b ∷ bytes)

unfoldable pub encode : Value → List ℕ
encode v = framed (letter_byte (letter v)) (body v)

-- numbers that fit their bytes, and texts of the widths that the layout gives them
abbrev pub Fields : Value → Type 0
Fields (login_request v u c p s n) =
    (length v ≡ 5) × (length u ≡ 5) × (length c ≡ 8) × (length p ≡ 8) × (s < 256) × (n < 256 ^ 8)
Fields (login_response t s n) = (s < 256) × (n < 256 ^ 8)
Fields (sequenced n m) = n < 256 ^ 8
Fields (retransmission_request a e) = (a < 256 ^ 8) × (e < 256 ^ 8)
Fields other = Unit {0}

-- what a packet can carry: its fields fit, and its letter allows its length
pub record Valid (v : Value) : Type 0 where
  pub fields : Fields v
  pub fits : allowed (letter v) (length_number v) ≡ true
