use Rattle.std.proofs.Common.{◌≡◌, ℕ, ◌<◌, ◌≤◌, cond, Ok, Err, eqb, take, rules, arith, length-take}
use Rattle.std.proofs.lemmas.List.{length-map}
use Rattle.wire.specs.declared.refusals.Refusal.TheVariants.{LogFull, NoSession}
use Rattle.wire.specs.Limits.{message_limit}
use Rattle.message_log.specs.Calls.{verdict}
use Rattle.slot_log.specs.Slotted.{held}
use Rattle.slot_log.specs.Sounds.{taken_held}
use Rattle.slot_log.proofs.Slots.left.Goals as goal

-- where there is room for the longest message while a slot is left, the room refuses none
roomy : (s room slots left n : ℕ) → slots ≡ left → n ≤ message_limit → (0 < left → message_limit ≤ room) → verdict s room slots 0 n ≡ cond (eqb left 0) (Err LogFull) (cond (eqb s 0) (Err NoSession) (Ok tt))
roomy s room slots left n same short enough = search rules

pub returns : goal.returns
returns c =
    let s = c.args.self.now in
    let some = take s.count s.slots.items in
    let count = length-map some held in
    let front = length-take s.count s.slots.items in
    let all = taken_held some in
    record {
      slots = omega arith;
      answer = λ n short. roomy s.session _ _ _ n (omega arith) short (λ h. omega arith);
    }
