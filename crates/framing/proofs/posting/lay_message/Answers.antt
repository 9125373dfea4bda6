use Rattle.std.proofs.Common.{◌≡◌, ◌-◌, length, take, drop, refl, ◌∙◌, arith, length-drop, length-take, rules}
use Rattle.message_log.specs.Meaning.{nth}
use Rattle.wire.proofs.Laid.{overlaid_is}
use Rattle.framing.proofs.Messages.{message_laid, read_held}
use Rattle.framing.proofs.posting.lay_message.Goals as goal

pub returns : goal.returns
returns g c =
    let l = g.G.Log.view c.args.log.now in
    let m = nth l c.args.number in
    let s = (g.met.G.Log.sound c.args.log.now).short (c.args.number - 1) in
    let o = c.args.out.now in
    let x = c.lay.new.bytes in
    let k : length x ≡ length o = search rules in
    let h = c.requires.room in
    let b : length (take (length x - 11) (drop 11 x)) ≡ length x - 11 = simp (length-take, length-drop) (omega arith) in
    message_laid c.args.number c.args.bytes m o _ x _ c.read.new.buffer (length x - 11) c.requires.bytes (omega arith) c.before_message.ensures (c.lay.ensures ∙ overlaid_is o 0 c.before_message.result (omega arith)) (omega arith) refl
    (read_held l c.args.number (take (length x - 11) (drop 11 x)) c.read.new.buffer c.read.result c.requires.there (omega arith) c.read.ensures.value c.read.ensures.after)
