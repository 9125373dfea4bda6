-- The packets of SesM as a family, and which of them are valid.
use Rattle.std.proofs.Common.{◌≡◌, ℕ, ◌+◌, ◌-◌, ◌<◌, ◌≤◌, min, List, [], length, get_or, take, Ok, Result, sym, ap, ◌∙◌, ⊎_elim, arith}
use Rattle.std.proofs.lemmas.List.{append-nil, get_or-take, length-take-le}
use Rattle.std.proofs.lemmas.Bool.{cases_lt, lt-ltb, le-ltb, cond-true, cond-false}
use Rattle.wire.specs.declared.faults.PacketFault.{PacketFault}
use Rattle.wire.specs.Limits.{packet_limit}
use Rattle.packet.specs.Values.{Value, Valid, encode, letter, length_number}
use Rattle.packet.specs.Decoding.{Decoded, part, whole, decode, head_number}
use Rattle.packet.proofs.Framing.{within}
use Rattle.packet.proofs.Back.{reads_back, length_encode}
use Rattle.packet.proofs.Fronts.{head_encode, beginnings_are_parts}
use Rattle.rules.specs.Frames.{lack}
use Rattle.promises.proofs.Frames.{Family}

pub lacks : (v : Value) (k : ℕ) → Valid v → k < length (encode v) → (0 < lack (take k (encode v))) × (k + lack (take k (encode v)) ≤ length (encode v))
lacks v k va l =
    let f : List ℕ = take k (encode v) in
    let size : length f ≡ k = length-take-le k (encode v) (omega arith) in
    let n = length_encode v in
    ⊎_elim
    (λ a. let e : lack f ≡ 2 - length f = cond-true _ _ _ (lt-ltb (length f) 2 a) in (omega arith, omega arith))
    (λ a.
    let x : get_or f 0 0 ≡ get_or (encode v) 0 0 = get_or-take k (encode v) 0 0 (omega arith) in
    let y : get_or f 1 0 ≡ get_or (encode v) 1 0 = get_or-take k (encode v) 1 0 (omega arith) in
    let h = head_encode v va in
    let q : head_number f ≡ length_number v = omega arith in
    let w = (within (letter v) (length_number v) va.fits).limit in
    let e : lack f ≡ min (head_number f + 2) packet_limit - length f = cond-false _ _ _ (le-ltb (length f) 2 a) in
    (omega arith, omega arith))
    (cases_lt (length f) 2)

abbrev pub sesm : Family
sesm = record {
  Value = Value;
  Said = Result Decoded PacketFault;
  Valid = Valid;
  encode = encode;
  decode = decode;
  part = Ok part;
  whole = λ v. Ok (whole v);
  lack = lack;
  back = λ v va. ap decode (sym (append-nil (encode v))) ∙ reads_back v [] va;
  prefixes = beginnings_are_parts;
  some = λ v. omega (arith, length_encode v);
  lacks = lacks;
}

pub encode_fits : (v : Value) → Valid v → length (encode v) ≤ packet_limit
encode_fits v va = omega (arith, length_encode v, (within (letter v) (length_number v) va.fits).limit)
