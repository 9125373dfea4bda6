use Rattle.std.proofs.Common.{◌≡◌, ℕ, List, ◌++◌, length, drop, Some, None, Ok, Option, Result, MatchOption, sym, refl, ap, ◌∙◌, subst, rules}
use Rattle.std.proofs.lemmas.Result.{err_from_is_err_and}
use Rattle.packet.specs.Values.{Value, encode}
use Rattle.wire.specs.declared.faults.PacketFault.{PacketFault}
use Rattle.packet.specs.declared.packets.Packet.{Packet}
use Rattle.packet.specs.Decoding.{Decoded, decode, packet_length, part, whole}
use Rattle.packet.specs.Laws.{Front}
use Rattle.packet.specs.Meanings.{value_of, read_of}
use Rattle.packet.proofs.Lengths.{length_of_encode, length_fault, length_none, part_short}
use Rattle.capture.specs.Finding.{Part, PacketAt, FindsFirst}
use Rattle.capture.specs.declared.finding.Found.{Found}
use Rattle.capture.proofs.finding.find.Goals as goal

a_part : (bs : List ℕ) → decode bs ≡ Ok part → Part bs
a_part bs e = record { is = e; short = part_short bs e }

a_packet : (bs : List ℕ) (v : Value) (size : ℕ) → decode bs ≡ Ok (whole v) → Front v bs → packet_length bs ≡ Ok (Some size) → PacketAt bs v size
a_packet bs v size e f l =
    let rest : List ℕ = drop (length (encode v)) bs in
    let k : packet_length bs ≡ Ok (Some (length (encode v))) = ap packet_length f.written ∙ length_of_encode v rest f.valid in
    let same : size ≡ length (encode v) = cc in
    record { is = e; takes = same; front = f.written ∙ ap (λ (i : ℕ). encode v ++ drop i bs) (sym same) }

pub returns-in_err-size : goal.returns-in_err-size
returns-in_err-size c =
    let bs = c.args.bytes.now in
    let r = err_from_is_err_and c.from_residual.result c.from_residual.ensures.1 in
    let e = sym (c.in_err-size.ensures ∙ ap packet_length c.new-reader.ensures) in
    rw (r.1, r.2) (length_fault bs _ e)

pub returns-in_default : goal.returns-in_default
returns-in_default c =
    let bs = c.args.bytes.now in
    let e = sym (c.in_ok-size.ensures ∙ ap packet_length c.new-reader.ensures) in
    a_part bs (length_none bs (e ∙ ap (λ (o : Option ℕ). Ok o) c.in_default.is))

-- what was read, seen as the answer
shown : (bs : List ℕ) (size : ℕ) (o : Option Packet) (m : Option Found) → packet_length bs ≡ Ok (Some size) → decode bs ≡ Ok (read_of o) → ((v : Value) → ◌≡◌ {A = Result Decoded PacketFault} (Ok (read_of o)) (Ok (whole v)) → Front v bs) → MatchOption o (m ≡ None) (λ p. m ≡ Some (record { packet = p; size = size })) → FindsFirst bs (Ok m)
shown bs size None m l e f h = rw h (a_part bs e)
shown bs size (Some p) m l e f h = rw h (a_packet bs (value_of p) size e (f (value_of p) refl) l)

pub returns : goal.returns
returns c =
    let bs = c.args.bytes.now in
    let same = c.new-reader.ensures in
    let t = c.in_ok-read.ensures in
    let l = sym (c.in_ok-size.ensures ∙ ap packet_length same) ∙ ap (λ (o : Option ℕ). Ok o) c.in-Some.is in
    let h : MatchOption c.in_ok-read.field-0 (c.map.result ≡ None) (λ p. c.map.result ≡ Some (record { packet = p; size = c.in-Some.size })) = search rules in
    shown bs c.in-Some.size c.in_ok-read.field-0 c.map.result l (sym (t.answer ∙ ap decode same)) (λ v q. subst (λ (x : List ℕ). Front v x) same (t.front v q)) h
