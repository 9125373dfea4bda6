use Rattle.std.proofs.Common.{◌≡◌, min, [], ◌++◌, length, sym, ap, ◌∙◌, subst, append_assoc, append-nil, arith}
use Rattle.std.proofs.lemmas.List.{nil_from_length}
use Rattle.std.specs.Slice.Iter.{chunks_rest, chunks_size}
use Rattle.pump.specs.Pumping.{Steps, pump, next_piece}
use Rattle.pump.proofs.Laws.{steps_then, begun, next_cut, ended}
use Rattle.pump.proofs.runs.run.Goals as goal

pub loop-next-init : goal.loop-next-init
loop-next-init g c =
    let made = c.in_ok-pumper.ensures in
    let e = c.into_iter-next-iterator.ensures.into_iter_gives in
    let size : chunks_size c.into_iter-next-iterator.result ≡ c.args.piece.bytes =
    ap chunks_size e ∙ c.chunks-next-items.ensures.size ∙ c.bytes.ensures in
    record {
      can = omega (arith, size, c.args.piece.ok.0);
      ends = tt;
      size = size;
      long = made.buffer;
      fed = [];
      whole = ap chunks_rest e ∙ c.chunks-next-items.ensures.rest;
      steps = begun c.args.input.now c.args.piece.bytes (g.L.Line.view c.clear.new.self) c.in_ok-pumper.pumper.trace made.trace.0 made.trace.1;
    }

pub loop-next-preserved : goal.loop-next-preserved
loop-next-preserved g c =
    let input = c.args.input.now in
    let size = c.args.piece.bytes in
    let i = c.loop-next.invariant in
    let piece = c.in-Some.next.now in
    let rest = chunks_rest c.loop-next.next-iterator in
    let after = chunks_rest c.next.new.self in
    let step = c.in-Some.ensures.steps in
    let cut : piece ≡ next_piece input size i.fed =
    next_cut input i.fed rest piece after size i.whole step.1.0 (step.1.1 ∙ ap (λ n. min n (length rest)) i.size) in
    let went : Steps input size (pump (g.L.Line.view c.loop-next.line) i.fed c.loop-next.pumper.trace)
    (pump (g.L.Line.view c.send.new.line) (i.fed ++ piece) c.send.new.self.trace) =
    subst
    (λ q. piece ≡ next_piece input q i.fed → Steps input q (pump (g.L.Line.view c.loop-next.line) i.fed c.loop-next.pumper.trace)
    (pump (g.L.Line.view c.send.new.line) (i.fed ++ piece) c.send.new.self.trace))
    i.long (c.in_ok-send.ensures.steps input i.fed) cut in
    let same : chunks_size c.next.new.self ≡ size = step.0 ∙ i.size in
    record {
      can = omega (arith, same, c.args.piece.ok.0);
      ends = tt;
      size = same;
      long = c.in_ok-send.ensures.long ∙ i.long;
      fed = i.fed ++ piece;
      whole = append_assoc i.fed piece after ∙ ap (λ q. i.fed ++ q) (sym step.1.0) ∙ i.whole;
      steps = steps_then i.steps went;
    }

pub returns : goal.returns
returns g c =
    let input = c.args.input.now in
    let size = c.args.piece.bytes in
    let i = c.loop-next.invariant in
    let w = g.L.Line.view c.drain.new.line in
    let a = c.drain.new.self.trace in
    let none : chunks_rest c.loop-next.next-iterator ≡ [] = nil_from_length _ c.in-None.ensures.steps.1.0 in
    let all : i.fed ≡ input = sym (append-nil i.fed) ∙ ap (λ q. i.fed ++ q) (sym none) ∙ i.whole in
    let drawn : Steps input size (pump (g.L.Line.view c.loop-next.line) i.fed c.loop-next.pumper.trace) (pump w i.fed a) =
    subst (λ q. Steps input q (pump (g.L.Line.view c.loop-next.line) i.fed c.loop-next.pumper.trace) (pump w i.fed a))
    i.long (c.in_ok-drain.ensures.0.steps input i.fed) in
    ended size c.clear.ensures
    (subst
    (λ q. Steps input size (record { line = g.L.Line.view c.clear.new.self; fed = []; out = []; events = [] }) (pump w q a))
    all (steps_then i.steps drawn))
    c.in_ok-drain.ensures.1
