use Rattle.std.proofs.Common.{◌≡◌, ◌≤◌, [], ◌∷◌, ◌++◌, length, take, ap, ◌∙◌, append_assoc, arith, length-append}
use Rattle.std.proofs.lemmas.List.{take_all}
use Rattle.wire.specs.Numbers.{little}
use Rattle.wire.specs.Overlay.{laid}
use Rattle.packet.proofs.Laying.{then}
use Rattle.packet.proofs.writing.put_login.Goals as goal

pub returns : goal.returns
returns c =
    let l = c.args.out.now in
    let a = c.args.login in
    let v = a.version.now in
    let u = a.user.now in
    let k = a.computer.now in
    let p = a.protocol.now in
    let s = a.session ∷ [] in
    let n = little 8 a.number in
    let h : 3 ≤ length l = omega arith in
    let five : take 5 v ++ take 5 u ≡ v ++ u = ap (λ t. t ++ take 5 u) (take_all 5 v (omega arith)) ∙ ap (λ t. v ++ t) (take_all 5 u (omega arith)) in
    let eight : take 8 k ++ take 8 p ≡ k ++ p = ap (λ t. t ++ take 8 p) (take_all 8 k (omega arith)) ∙ ap (λ t. k ++ t) (take_all 8 p (omega arith)) in
    let first = c.put_two.ensures ∙ ap (laid l 3) five in
    let second = c.put_two-2.ensures ∙ ap (laid c.put_two.new.out 13) eight in
    let e = then l _ _ (v ++ u) (k ++ p) 3 13 h (simp length-append (omega arith)) first second in
    let f = c.put_two-3.ensures ∙ ap (λ x. laid c.put_two-2.new.out 29 (s ++ x)) c.number_bytes.ensures in
    let g = then l _ _ ((v ++ u) ++ (k ++ p)) (s ++ n) 3 29 h (simp length-append (omega arith)) e f in
    let q : ((v ++ u) ++ (k ++ p)) ++ (s ++ n) ≡ v ++ (u ++ (k ++ (p ++ (s ++ n)))) = simp append_assoc in
    g ∙ ap (laid l 3) q
