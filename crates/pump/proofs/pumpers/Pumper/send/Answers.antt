use Rattle.std.proofs.Common.{refl}
use Rattle.pump.specs.Pumping.{none, more}
use Rattle.pump.proofs.Laws.{steps_then, went_in, fitted, stayed_out}
use Rattle.pump.proofs.pumpers.Pumper.send.Goals as goal

pub returns-in_ok-offer-2 : goal.returns-in_ok-offer-2
returns-in_ok-offer-2 g c =
    let v = g.L.Line.view in
    let s = c.args.self.now in
    let piece = c.args.piece.now in
    let size = s.buffer.len in
    record {
      steps = λ input fed i.
          let first =
          stayed_out (v c.args.line.now) s.trace piece (v c.offer.new.line) c.offer.new.self
          input size fed i c.in_ok-offer.field-0 c.if-not-branch.true c.in_ok-offer.ensures in
          let last =
          fitted (v c.make_room.new.line) c.make_room.new.self.trace piece
          (v c.offer-then-not-branch.new.line) c.offer-then-not-branch.new.self
          input size fed i c.in_ok-offer-2.field-0 c.in_ok-make_room.ensures.1 c.in_ok-offer-2.ensures in
          more (steps_then (more none first) (c.in_ok-make_room.ensures.0.steps input fed)) last;
      long = c.in_ok-make_room.ensures.0.long;
    }

pub returns-else-not-branch : goal.returns-else-not-branch
returns-else-not-branch g c =
    let s = c.args.self.now in
    record {
      steps = λ input fed i.
          more none
          (went_in (g.L.Line.view c.args.line.now) s.trace c.args.piece.now (g.L.Line.view c.offer.new.line) c.offer.new.self
          input s.buffer.len fed i c.in_ok-offer.field-0 c.if-not-branch.false c.in_ok-offer.ensures);
      long = refl;
    }
