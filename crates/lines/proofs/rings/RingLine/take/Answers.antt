use Rattle.std.proofs.Common.{◌≡◌, ◌++◌, length, take, drop, sym, ap, ◌∙◌, subst, arith, length-take}
use Rattle.lines.specs.Rings.{Onward, ringed}
use Rattle.lines.specs.RingViews.{ring_take}
use Rattle.lines.proofs.rings.RingLine.take.Goals as goal

pub returns : goal.returns
returns c =
    let s = c.args.self.now in
    let k = c.min-taken.result in
    let buffer = c.args.buffer.now in
    let n : length (take k buffer) ≡ k = length-take k buffer ∙ omega (arith, c.min-taken.ensures, c.min.ensures) in
    ring_take s.bytes.items s.bytes.len s.start s.count (sym s.bytes.ok.0) s.ok buffer _ k c.onward-self.result
    (omega (arith, c.min-taken.ensures, c.min.ensures))
    (subst (λ q. Onward s.start k q c.onward-self.result) c.len.ensures c.onward-self.ensures)
    (ap (λ q. q ++ drop k buffer)
    (c.read_round.ensures ∙ ap (λ q. ringed q s.start (length (take k buffer))) c.as_slice.ensures.value
    ∙ ap (λ q. ringed s.bytes.items s.start q) n))
