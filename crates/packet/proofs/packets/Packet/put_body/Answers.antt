use Rattle.std.proofs.Common.{ℕ, List, ◌++◌, sym, ap, ◌∙◌, subst, arith, length-append}
use Rattle.wire.specs.Numbers.{little}
use Rattle.packet.specs.declared.packets.Packet.{Packet}
use Rattle.packet.specs.Meanings.{value_of}
use Rattle.packet.specs.Values.{Fields, body}
use Rattle.wire.specs.Overlay.{laid}
use Rattle.packet.proofs.packets.Packet.put_body.Goals as goal

pub put_login-requires : goal.put_login-requires
put_login-requires c =
    let is = c.in-LoginRequest.is in
    let f = subst (λ (p : Packet). Fields (value_of p)) is c.requires.fields in
    let r = simp (is, length-append) at c.requires.room in
    record { fields = f; room = omega arith }

pub returns-in-RetransmissionRequest : goal.returns-in-RetransmissionRequest
returns-in-RetransmissionRequest c =
    let l = c.args.out.now in
    let a = c.number_bytes-in-RetransmissionRequest.ensures in
    let b = c.number_bytes-in-RetransmissionRequest-2.ensures in
    c.put_two-in-RetransmissionRequest.ensures
    ∙ ap (λ (x : List ℕ). laid l 3 (x ++ c.number_bytes-in-RetransmissionRequest-2.result)) a
    ∙ ap (λ (x : List ℕ). laid l 3 (little 8 c.in-RetransmissionRequest.start ++ x)) b
    ∙ sym (ap (λ (p : Packet). laid l 3 (body (value_of p))) c.in-RetransmissionRequest.is)
