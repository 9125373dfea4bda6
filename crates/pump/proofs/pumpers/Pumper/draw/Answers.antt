use Rattle.std.proofs.Common.{◌≡◌, ◌+◌, ◌++◌, length, take, drop, vec_items, refl, ap, ◌∙◌, arith}
use Rattle.std.proofs.lemmas.List.{take_at, with_items_is}
use Rattle.std.proofs.lemmas.Result.{on_ok_weaker}
use Rattle.line.proofs.Takes.{front_length, rest_length}
use Rattle.line.specs.Lines.{handed}
use Rattle.pump.proofs.Laws.{did_take}
use Rattle.pump.proofs.pumpers.Pumper.draw.Goals as goal

pub returns : goal.returns
returns g c =
    let s = c.args.self.now in
    let t = c.take-taken.ensures in
    let k = c.take-taken.result in
    let waiting = (g.L.Line.view c.args.line.now).waiting in
    let piece : take k c.deref.result.now ≡ take k waiting =
    ap (take k) (c.deref.ensures.value ∙ with_items_is s.buffer c.take-taken.new.buffer (c.take-taken.auto.buffer ∙ c.as_mut_slice.ensures.len) ∙ t.front)
    ∙ take_at (take k waiting) (drop k c.as_mut_slice.result.now) k (front_length t) in
    let fewer : length (g.L.Line.view c.take-taken.new.self).waiting + handed (g.L.Line.view c.args.line.now) s.buffer.len ≡ length waiting =
    omega (arith, rest_length t, t.count, c.as_mut_slice.ensures.len) in
    on_ok_weaker c.note.result
    (λ n. record {
      step = λ input fed.
          did_take input s.buffer.len fed s.trace c.receive.new.self c.as_mut_slice.ensures.len t c.in_ok-receive.ensures.events
          (c.in_ok-receive.ensures.out ∙ ap (λ q. vec_items s.trace.out ++ q) piece) n;
      fewer = fewer;
      long = refl;
    })
    c.note.ensures
