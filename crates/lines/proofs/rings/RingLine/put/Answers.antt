use Rattle.std.proofs.Common.{sym, subst, arith}
use Rattle.std.proofs.lemmas.List.{with_items_is}
use Rattle.std.specs.Vec.{with_items}
use Rattle.lines.specs.Rings.{Onward, LaidRound}
use Rattle.lines.specs.RingViews.{ring_put}
use Rattle.lines.proofs.rings.RingLine.put.Goals as goal

pub returns : goal.returns
returns c =
    let s = c.args.self.now in
    let piece = c.args.piece.now in
    let end = c.onward-end.result in
    let after = c.lay_round.new.memory in
    ring_put s.bytes.items s.bytes.len s.start s.count (sym s.bytes.ok.0) s.ok end piece
    (with_items s.bytes after).items (omega arith)
    (subst (λ n. Onward s.start s.count n end) c.len.ensures c.onward-end.ensures)
    (subst (λ q. LaidRound s.bytes.items end piece q)
    (sym (with_items_is s.bytes after (omega (arith, c.lay_round.auto.memory, s.bytes.ok.0, c.as_mut_slice.ensures.len))))
    (subst (λ q. LaidRound q end piece after) c.as_mut_slice.ensures.value c.lay_round.ensures))
