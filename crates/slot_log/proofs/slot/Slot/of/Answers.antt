use Rattle.std.proofs.Common.{ℕ, zero, suc, replicate, length, arith}
use Rattle.wire.specs.Limits.{message_limit}
use Rattle.packed_messages.specs.Bytes.{Bytes}
use Rattle.packed_messages.proofs.Runs.{bytes_append, bytes_drop}
use Rattle.slot_log.proofs.slot.Slot.of.Goals as goal

zeros : (n : ℕ) → Bytes (replicate n 0)
zeros zero i = omega arith
zeros (suc n) zero = omega arith
zeros (suc n) (suc i) = zeros n i

pub invariant_of-result-clause-of_bytes : goal.invariant_of-result-clause-of_bytes
invariant_of-result-clause-of_bytes c =
    let copied : Bytes c.copy_from_slice.new.self = λ i. rw c.copy_from_slice.ensures.after (omega (arith, c.type_inv.message i)) in
    bytes_append _ _ copied (bytes_drop (length c.args.message.now) _ (zeros message_limit))
