-- What a reader says of the bytes that it is given: the first packet, a part of one, or a fault.
use Rattle.std.specs.Prelude.{ℕ, ◌+◌, ◌-◌, cond, List, [], ◌∷◌, length, take, drop, Some, None, Ok, Err, Option, Result, ◌==◌, nat_lt, slice_index}
use Rattle.wire.specs.declared.faults.PacketFault.{PacketFault}
use Rattle.wire.specs.declared.faults.PacketFault.TheVariants.{LengthZero, LengthOverLimit, WrongLength}
use Rattle.wire.specs.declared.letters.Letter.{Letter}
use Rattle.wire.specs.declared.letters.Letter.TheVariants as L
use Rattle.wire.specs.Limits.{length_limit}
use Rattle.wire.specs.Numbers.{number}
use Rattle.wire.specs.Letters.{letter_of, allowed}
use Rattle.wire.specs.Codes.{status_of, logout_of, good_bye_of}
use Rattle.packet.specs.Values.{Value, login_request, login_response, sequenced, unsequenced, synchronization_complete, retransmission_request, logout_request, good_bye, end_of_session, hub_heartbeat, seat_heartbeat, test}

pub data Decoded : Type 0 where
  part : Decoded
  whole : Value → Decoded

-- go on with what was read; a fault ends the reading
abbrev pub next : {X Y : Type 0} → Result X PacketFault → (X → Result Y PacketFault) →
    Result Y PacketFault
next (Ok x) f = f x
next (Err fault) f = Err fault

-- the length number in the first two bytes
abbrev pub head_number : List ℕ → ℕ
head_number bs = number (slice_index bs 0 ∷ slice_index bs 1 ∷ [])

-- causes 1 and 2: the length number is 0 or over the limit
abbrev pub counted : ℕ → Result ℕ PacketFault
counted n =
    cond (n == 0) (Err LengthZero) (cond (nat_lt length_limit n) (Err LengthOverLimit) (Ok n))

-- the fields of a body whose length its letter allows; a status or a reason may be cause 6
abbrev pub content : Letter → List ℕ → Result Value PacketFault
content L.LoginRequest b =
    Ok (login_request (take 5 b) (take 5 (drop 5 b)) (take 8 (drop 10 b)) (take 8 (drop 18 b))
    (slice_index b 26) (number (take 8 (drop 27 b))))
content L.LoginResponse b =
    next (status_of (slice_index b 0))
    (λ t. Ok (login_response t (slice_index b 1) (number (take 8 (drop 2 b)))))
content L.Sequenced b = Ok (sequenced (number (take 8 b)) (drop 8 b))
content L.Unsequenced b = Ok (unsequenced b)
content L.SynchronizationComplete b = Ok synchronization_complete
content L.RetransmissionRequest b =
    Ok (retransmission_request (number (take 8 b)) (number (take 8 (drop 8 b))))
content L.LogoutRequest b =
    next (logout_of (slice_index b 0)) (λ r. Ok (logout_request r (drop 1 b)))
content L.GoodBye b = next (good_bye_of (slice_index b 0)) (λ r. Ok (good_bye r (drop 1 b)))
content L.EndOfSession b = Ok end_of_session
content L.HubHeartbeat b = Ok hub_heartbeat
content L.SeatHeartbeat b = Ok seat_heartbeat
content L.Test b = Ok (test b)

-- a whole packet's letter and body: cause 3, then cause 5, then its content
abbrev pub opened : ℕ → List ℕ → Result Value PacketFault
opened b bytes =
    next (letter_of b)
    (λ l. cond (allowed l (length bytes + 1)) (content l bytes) (Err WrongLength))

abbrev pub wholly : Result Value PacketFault → Result Decoded PacketFault
wholly r = next r (λ v. Ok (whole v))

-- a head with a good length number: a part until all the bytes that it counts are in
abbrev pub bodied : List ℕ → ℕ → Result Decoded PacketFault
bodied bs n =
    cond (nat_lt (length bs) (n + 2)) (Ok part)
    (wholly (opened (slice_index bs 2) (take (n - 1) (drop 3 bs))))

unfoldable pub decode : List ℕ → Result Decoded PacketFault
decode bs = cond (nat_lt (length bs) 2) (Ok part) (next (counted (head_number bs)) (bodied bs))

-- the length of the first packet with its length number, once that is in
unfoldable pub packet_length : List ℕ → Result (Option ℕ) PacketFault
packet_length bs =
    cond (nat_lt (length bs) 2) (Ok None) (next (counted (head_number bs)) (λ n. Ok (Some (n + 2))))
