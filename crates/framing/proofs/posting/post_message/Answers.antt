use Rattle.std.proofs.Common.{◌≡◌, ℕ, ◌+◌, ◌++◌, length, drop, sym, ap, ◌∙◌, arith}
use Rattle.message_log.specs.Meaning.{nth}
use Rattle.packet.specs.Values.{sequenced, encode}
use Rattle.std.proofs.lemmas.Bool.{cond-false}
use Rattle.wire.specs.declared.refusals.Refusal.TheVariants.{LineFull}
use Rattle.framing.specs.Posting.{posting_message}
use Rattle.framing.proofs.Posts.{posted, refused, lacking}
use Rattle.framing.proofs.Messages.{held, message_size, message_posting}
use Rattle.framing.proofs.posting.post_message.Goals as goal

pub returns-then-room-size : goal.returns-then-room-size
returns-then-room-size g c =
    let l = g.G.Log.view c.args.log.now in
    let d = g.L.Line.view c.args.line.now in
    let n = c.args.number in
    let e = held l n _ c.in_ok-length.ensures in
    let v = sequenced n (nth l n) in
    let k : c.in_ok-length.length + 11 ≡ length (encode v) = omega (arith, message_size n (nth l n)) in
    refused v (posting_message l n d (length c.args.out.now)) LineFull d c.args.out.now
    (message_posting l n d (length c.args.out.now) e.0 (omega arith) ∙ cond-false _ _ _ (lacking v d _ k (omega arith)))

pub returns : goal.returns
returns g c =
    let l = g.G.Log.view c.args.log.now in
    let d = g.L.Line.view c.args.line.now in
    let n = c.args.number in
    let o = c.args.out.now in
    let e = held l n _ c.in_ok-length.ensures in
    let v = sequenced n (nth l n) in
    let k : c.in_ok-length.length + 11 ≡ length (encode v) = omega (arith, message_size n (nth l n)) in
    posted v (posting_message l n d (length o)) c.put.result d (g.L.Line.view c.put.new.self) o c.lay_message.new.out (c.in_ok-length.length + 11) k (omega arith)
    (message_posting l n d (length o) e.0 (omega arith)) (c.lay_message.ensures ∙ ap (λ (i : ℕ). encode v ++ drop i o) (sym k)) c.put.ensures
