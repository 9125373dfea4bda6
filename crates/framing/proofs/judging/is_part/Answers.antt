use Rattle.std.proofs.Common.{◌≡◌, sym, ap, ◌∙◌, length, Ok, Err, Option, ℕ}
use Rattle.std.proofs.lemmas.Bool.{ltb-true, ltb-false}
use Rattle.packet.specs.Decoding.{packet_length, decode}
use Rattle.packet.proofs.Lengths.{length_none, length_fault}
use Rattle.framing.proofs.Shortness.{length_short, length_long}
use Rattle.framing.proofs.judging.is_part.Goals as goal

pub returns-in-Ok-Some-clause-finds : goal.returns-in-Ok-Some-clause-finds
returns-in-Ok-Some-clause-finds c t =
    let bs = c.args.bytes.now in
    let e = sym (c.packet_len.ensures ∙ ap packet_length c.new.ensures) in
    length_short bs c.in-Ok-Some.length (e ∙ c.in-Ok-Some.is ∙ ap (λ (o : Option ℕ). Ok o) c.in-Ok-Some.field-0-is) (ltb-true (length bs) c.in-Ok-Some.length t)

pub returns-in-Ok-Some-clause-only : goal.returns-in-Ok-Some-clause-only
returns-in-Ok-Some-clause-only c t =
    let bs = c.args.bytes.now in
    let e = sym (c.packet_len.ensures ∙ ap packet_length c.new.ensures) in
    length_long bs c.in-Ok-Some.length (e ∙ c.in-Ok-Some.is ∙ ap (λ (o : Option ℕ). Ok o) c.in-Ok-Some.field-0-is) (ltb-false (length bs) c.in-Ok-Some.length t)

pub returns-in-Ok-None-clause-finds : goal.returns-in-Ok-None-clause-finds
returns-in-Ok-None-clause-finds c t =
    let e = sym (c.packet_len.ensures ∙ ap packet_length c.new.ensures) in
    length_none c.args.bytes.now (e ∙ c.in-Ok-None.is ∙ ap (λ (o : Option ℕ). Ok o) c.in-Ok-None.field-0-is)

pub returns-in-Err-clause-only : goal.returns-in-Err-clause-only
returns-in-Err-clause-only c t p =
    let e = sym (c.packet_len.ensures ∙ ap packet_length c.new.ensures) in
    let f : decode c.args.bytes.now ≡ Err c.in-Err.field-0 = length_fault c.args.bytes.now c.in-Err.field-0 (e ∙ c.in-Err.is) in
    cc
