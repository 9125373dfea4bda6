use Rattle.std.proofs.Common.{sym, ap, ◌∙◌, arith}
use Rattle.std.proofs.lemmas.List.{with_items_is}
use Rattle.wire.specs.Overlay.{overlaid}
use Rattle.wire.proofs.Laid.{overlaid_is}
use Rattle.lines.specs.StraightViews.{straight_put}
use Rattle.lines.proofs.straights.StraightLine.put.Goals as goal

pub returns : goal.returns
returns c =
    let s = c.args.self.now in
    let piece = c.args.piece.now in
    straight_put s.bytes.items s.bytes.len s.start s.end (sym s.bytes.ok.0) s.ok piece _ (omega arith)
    (with_items_is s.bytes c.lay.new.bytes (omega (arith, c.lay.auto.bytes, s.bytes.ok.0, c.as_mut_slice.ensures.len))
    ∙ c.lay.ensures
    ∙ ap (λ q. overlaid q s.end piece) c.as_mut_slice.ensures.value
    ∙ overlaid_is s.bytes.items s.end piece (omega (arith, s.bytes.ok.0, s.ok.1)))
