-- What the length number alone decides of a frame.
use Rattle.std.proofs.Common.{◌≡◌, ℕ, ◌+◌, ◌<◌, ◌≤◌, ltb, List, length, Some, Ok, Err, Result, sym, ap, ◌∙◌, arith}
use Rattle.std.proofs.lemmas.Bool.{lt-ltb, le-ltb, ltb-false, cond-true, cond-false}
use Rattle.wire.specs.declared.faults.PacketFault.{PacketFault}
use Rattle.wire.proofs.Coded.{cut}
use Rattle.packet.specs.Values.{Value}
use Rattle.packet.specs.Decoding.{decode, packet_length, counted, head_number, bodied, part, wholly, next}
use Rattle.packet.proofs.Forth.{took}
use Rattle.packet.proofs.Fronts.{decode_head}

-- a frame that is shorter than its length is a part
pub length_short : (bs : List ℕ) (size : ℕ) → packet_length bs ≡ Ok (Some size) → length bs < size → decode bs ≡ Ok part
unfolding packet_length
length_short bs size e h =
    cut (ltb (length bs) 2) _ _ (Ok (Some size)) (decode bs ≡ Ok part) (λ t u. cc)
    (λ t. took (counted (head_number bs)) _ (Some size) (decode bs ≡ Ok part)
    (λ n q u. let same : n + 2 ≡ size = cc in
    decode_head bs (ltb-false (length bs) 2 t) ∙ ap (λ r. next r (bodied bs)) q ∙ cond-true _ _ _ (lt-ltb (length bs) (n + 2) (omega arith))))
    e

-- one that is as long as its length is none
not_wholly : (r : Result Value PacketFault) → wholly r ≡ Ok part → ⊥
not_wholly (Ok v) e = cc
not_wholly (Err fault) e = cc

pub length_long : (bs : List ℕ) (size : ℕ) → packet_length bs ≡ Ok (Some size) → size ≤ length bs → decode bs ≡ Ok part → ⊥
unfolding packet_length
length_long bs size e h p =
    cut (ltb (length bs) 2) _ _ (Ok (Some size)) ⊥ (λ t u. cc)
    (λ t. took (counted (head_number bs)) _ (Some size) ⊥
    (λ n q u. let same : n + 2 ≡ size = cc in
    not_wholly _ (sym (decode_head bs (ltb-false (length bs) 2 t) ∙ ap (λ r. next r (bodied bs)) q ∙ cond-false _ _ _ (le-ltb (length bs) (n + 2) (omega arith))) ∙ p)))
    e
