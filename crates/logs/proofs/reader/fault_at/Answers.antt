use Rattle.std.proofs.Common.{◌≡◌, List, ℕ, get_or, ◌-◌, length, take, drop, Ok, Err, Result, sym, refl, ap, ◌∙◌}
use Rattle.std.specs.Borrow.{Bor}
use Rattle.std.specs.Result.{result_err}
use Rattle.std.proofs.lemmas.List.{take_rest}
use Rattle.logs.specs.declared.records.RecordFault.{RecordFault}
use Rattle.logs.specs.Reading.{message_of, fault_in, held}
use Rattle.logs.proofs.Framed.{fault_later}
use Rattle.logs.proofs.reader.fault_at.Goals as goal

fault_held : (r : Result (Bor (List ℕ)) RecordFault) → result_err r ≡ fault_in (held r)
fault_held (Ok m) = refl
fault_held (Err f) = refl

pub returns : goal.returns
returns c =
    let b = c.args.bytes.now in
    let p = c.args.place in
    let session = c.in_ok-session.ensures.lookup.3 in
    c.err-2.ensures.value
    ∙ (fault_held c.read_message.result
    ∙ (ap fault_in c.read_message.ensures
    ∙ (ap (λ k. fault_in (message_of k (take (length b - p) (drop p b)))) (session.1 0)
    ∙ (ap (λ t. fault_in (message_of (get_or b 4 0) t)) (take_rest b p)
    ∙ sym (fault_later b p c.if-place-eq0.false session.0 c.if-place-bytes.false)))))
