use Rattle.std.proofs.Common.{ℕ, List, Ok, Err, Option, ap, ◌∙◌, subst}
use Rattle.std.proofs.lemmas.Result.{err_from_is_err_and}
use Rattle.packet.specs.Meanings.{value_of}
use Rattle.capture.specs.Finding.{Part, PacketAt, FindsFirst}
use Rattle.capture.specs.declared.finding.Found.{Found}
use Rattle.packet.specs.LetterCounts.{raised}
use Rattle.packet.specs.declared.letter_counts.LetterCounts.{LetterCounts}
use Rattle.capture.proofs.Turns.{turned_fault, turned_error, turned_more, turned_told}
use Rattle.capture.proofs.explainers.Explainer.turn.Goals as goal

pub returns-in-Err-clause-turned : goal.returns-in-Err-clause-turned
returns-in-Err-clause-turned g c =
    let fault = c.in-Err.fault in
    turned_fault _ fault (subst (λ (x : List ℕ). FindsFirst x (Err fault)) c.bytes.ensures.held c.in-Err.ensures)

pub returns-in-Ok-None-clause-turned : goal.returns-in-Ok-None-clause-turned
returns-in-Ok-None-clause-turned g c =
    let m = c.more.ensures in
    turned_more _ _ c.more.result (subst Part c.bytes.ensures.held (subst (λ (o : Option Found). FindsFirst c.bytes.result.now (Ok o)) c.in-Ok-None.field-0-is c.in-Ok-None.ensures)) (ap (λ (x : LetterCounts). x.counts) m.tally) m.offset m.frame

pub returns-in_err-show_packet-clause-turned : goal.returns-in_err-show_packet-clause-turned
returns-in_err-show_packet-clause-turned g c =
    let r = err_from_is_err_and c.from_residual.result c.from_residual.ensures.1 in
    rw r.1 (turned_error _ r.0)

pub returns-clause-turned : goal.returns-clause-turned
returns-clause-turned g c =
    let found = c.in-Ok-Some.found in
    let v = value_of found.packet in
    let at = subst (λ (x : List ℕ). PacketAt x v found.size) c.bytes.ensures.held (subst (λ (o : Option Found). FindsFirst c.bytes.result.now (Ok o)) c.in-Ok-Some.field-0-is c.in-Ok-Some.ensures) in
    turned_told _ _ v found.size at c.pass.ensures.held (c.note.ensures ∙ ap (raised c.args.self.now.tally.counts) c.letter-letter.ensures) c.saturating_add-self.ensures
