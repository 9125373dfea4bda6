use Rattle.std.proofs.Common.{◌+◌, ◌≤◌, length, refl, ap, arith}
use Rattle.std.proofs.lemmas.Result.{err_from_is_err_and}
use Rattle.wire.specs.Letters.{letter_byte}
use Rattle.packet.specs.Meanings.{value_of}
use Rattle.packet.specs.Values.{length_number}
use Rattle.packet.proofs.Writes.{refused_bad, granted, wrote}
use Rattle.packet.proofs.packets.Packet.write.Goals as goal

pub returns-in_err-length : goal.returns-in_err-length
returns-in_err-length c =
    let v = value_of c.args.self in
    let l = c.args.out.now in
    let h : length_number v + 2 ≤ length l = omega (arith, c.size.ensures, c.if-out-size.false) in
    let r = err_from_is_err_and c.from_residual.result c.from_residual.ensures.1 in
    rw (r.1, r.2) (refused_bad v l l _ c.in_err-length.ensures.answer h refl)

pub returns : goal.returns
returns c =
    let v = value_of c.args.self in
    let l = c.args.out.now in
    let w = c.in_ok-length.ensures in
    let h : length_number v + 2 ≤ length l = omega (arith, c.size.ensures, c.if-out-size.false) in
    granted v l _ _ w.answer w.valid.1 w.valid.0 h
    (wrote v l _ _ _ _ w.valid.1 (ap letter_byte c.letter.ensures) c.put_head.ensures c.put_body.ensures)
