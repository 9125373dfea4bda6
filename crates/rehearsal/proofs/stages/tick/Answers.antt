use Rattle.std.proofs.Common.{◌≡◌, ap, Bool, true, false, is_some, Ok, Err, refl, ◌∙◌, arith}
use Rattle.wire.specs.declared.refusals.Refusal.{Refusal}
use Rattle.rules.specs.declared.answers.Answer.{Answer}
use Rattle.rules.specs.Rounds as R
use Rattle.rules.specs.State.{Pair}
use Rattle.rehearsal.specs.Counting.{counted}
use Rattle.rehearsal.specs.declared.sums.Sums.{Sums}
use Rattle.rehearsal.specs.Actions.{none, one_more, all, refused, refusal_in}
use Rattle.rehearsal.proofs.stages.tick.Goals as goal

abbrev did : Answer → Bool
did (Answer.Done r) = true
did (Answer.Received r) = false
did (Answer.Sent r) = false
did (Answer.Round r) = false

tick_did : (s : Pair) (d : R.Effect) → R.Step s R.Tick d → did d.answer ≡ true
tick_did s d (R.short_buffer c short) = refl
tick_did s d (R.ticks long) = refl

granted : (a : Answer) → did a ≡ true → is_some (refusal_in a) ≡ false → a ≡ Answer.Done (Ok tt)
granted (Answer.Done (Ok done)) h f = refl
granted (Answer.Done (Err e)) h f = absurd (cc f)
granted (Answer.Received r) h f = absurd (cc h)
granted (Answer.Sent r) h f = absurd (cc h)
granted (Answer.Round r) h f = absurd (cc h)

denied : (a : Answer) → did a ≡ true → is_some (refusal_in a) ≡ true → (e : Refusal) × (a ≡ Answer.Done (Err e))
denied (Answer.Done (Ok done)) h t = absurd (cc t)
denied (Answer.Done (Err e)) h t = (e, refl)
denied (Answer.Received r) h t = absurd (cc h)
denied (Answer.Sent r) h t = absurd (cc h)
denied (Answer.Round r) h t = absurd (cc h)

-- how an answer was counted that is known to be this
recounted : (a b : Answer) (s t : Sums) → t ≡ counted s (refusal_in a) → a ≡ b → t ≡ counted s (refusal_in b)
recounted a b s t e is = e ∙ ap (λ (x : Answer). counted s (refusal_in x)) is

pub loop-init : goal.loop-init
loop-init c = none

pub returns-then-is_some : goal.returns-then-is_some
returns-then-is_some c =
    let told-some : is_some (refusal_in c.perform.result) ≡ true = cc in
    let told = denied c.perform.result (tick_did c.loop.pair.pair _ c.perform.ensures.step) told-some in
    let count = recounted c.perform.result (Answer.Done (Err told.0)) c.loop.sums c.noted-answer.new.sums c.noted-answer.ensures.count told.1 in
    rw (c.noted-answer.ensures.same ∙ told.1, count) (refused c.loop.invariant (rw told.1 at c.perform.ensures))

pub loop-preserved : goal.loop-preserved
loop-preserved c =
    let told-none : is_some (refusal_in c.perform.result) ≡ false = cc in
    let told = granted c.perform.result (tick_did c.loop.pair.pair _ c.perform.ensures.step) told-none in
    let count = recounted c.perform.result (Answer.Done (Ok tt)) c.loop.sums c.noted-answer.new.sums c.noted-answer.ensures.count told in
    rw count (one_more c.loop.invariant (rw told at c.perform.ensures))

pub returns : goal.returns
returns c = all (let end : c.loop.counter ≡ c.args.count = omega arith in rw end at c.loop.invariant)
