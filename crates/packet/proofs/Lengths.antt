-- What the length number alone says of a packet.
use Rattle.std.proofs.Common.{◌≡◌, ℕ, ◌+◌, ◌-◌, ◌<◌, ◌≤◌, ltb, List, ◌++◌, length, get_or, take, drop, Some, None, Ok, Err, sym, ap, ◌∙◌, inl, inr, arith, length-append}
use Rattle.std.proofs.lemmas.Bool.{cases_lt, le-ltb, ltb-true, ltb-false, cond-false}
use Rattle.wire.specs.declared.faults.PacketFault.{PacketFault}
use Rattle.wire.specs.Limits.{packet_limit}
use Rattle.wire.proofs.Coded.{cut}
use Rattle.packet.specs.Values.{Value, Valid, encode, letter, length_number}
use Rattle.packet.specs.Decoding.{decode, packet_length, counted, head_number, bodied, opened, part, wholly, next}
use Rattle.packet.proofs.Framing.{within, counted_good}
use Rattle.packet.proofs.Back.{length_encode}
use Rattle.packet.proofs.Forth.{counted_forth, took}
use Rattle.packet.proofs.Fronts.{decode_short, decode_head, head_encode, head_same, failed}

length_head : (bs : List ℕ) → 2 ≤ length bs → packet_length bs ≡ next (counted (head_number bs)) (λ n. Ok (Some (n + 2)))
unfolding packet_length
length_head bs h = cond-false _ _ _ (le-ltb (length bs) 2 h)

-- a written packet's length stands in its first two bytes
pub length_of_encode : (v : Value) (rest : List ℕ) → Valid v → packet_length (encode v ++ rest) ≡ Ok (Some (length (encode v)))
length_of_encode v rest h =
    let n : ℕ = length_number v in
    let bs : List ℕ = encode v ++ rest in
    let l : 2 ≤ length (encode v) = omega (arith, length_encode v) in
    let two : 2 ≤ length bs = simp length-append (omega arith) in
    let head : head_number bs ≡ n = head_same (encode v) rest l ∙ head_encode v h in
    let good : Ok n ≡ counted n = counted_good n (omega arith) (within (letter v) n h.fits).limit in
    length_head bs two
    ∙ ap (λ (i : ℕ). next (counted i) (λ (k : ℕ). Ok (Some (k + 2)))) head
    ∙ ap (λ r. next r (λ (k : ℕ). Ok (Some (k + 2)))) (sym good)
    ∙ ap (λ (i : ℕ). Ok (Some i)) (sym (length_encode v))

-- a fault of the length number is the reader's fault
pub length_fault : (bs : List ℕ) (fault : PacketFault) → packet_length bs ≡ Err fault → decode bs ≡ Err fault
unfolding packet_length
length_fault bs fault =
    cut (ltb (length bs) 2) _ _ (Err fault) _ (λ t e. cc)
    (λ t. let two : 2 ≤ length bs = ltb-false (length bs) 2 t in
    failed (counted (head_number bs)) _ fault (decode bs ≡ Err fault)
    (λ e. decode_head bs two ∙ ap (λ r. next r (bodied bs)) e)
    (λ n q e. cc))

-- no length number yet: a part
pub length_none : (bs : List ℕ) → packet_length bs ≡ Ok None → decode bs ≡ Ok part
unfolding packet_length
length_none bs =
    cut (ltb (length bs) 2) _ _ (Ok None) _ (λ t e. decode_short bs (ltb-true (length bs) 2 t))
    (λ t. took (counted (head_number bs)) _ None _ (λ n q e. cc))

-- a part is shorter than the longest packet
pub part_short : (bs : List ℕ) → decode bs ≡ Ok part → length bs < packet_limit
part_short bs e =
    elim (cases_lt (length bs) 2) [
      | inl h ↦ omega arith
      | inr h ↦
          took (counted (head_number bs)) (bodied bs) part (length bs < packet_limit)
          (λ n q. let c = counted_forth (head_number bs) n q in
          cut (ltb (length bs) (n + 2)) (Ok part) (wholly (opened (get_or bs 2 0) (take (n - 1) (drop 3 bs)))) (Ok part) (length bs < packet_limit)
          (λ t u. omega (arith, ltb-true (length bs) (n + 2) t))
          (λ t. took (opened (get_or bs 2 0) (take (n - 1) (drop 3 bs))) _ part (length bs < packet_limit) (λ v x y. cc)))
          (sym (decode_head bs h) ∙ e)
    ]
