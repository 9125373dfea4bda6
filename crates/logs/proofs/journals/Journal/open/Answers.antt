use Rattle.std.proofs.Common.{◌≡◌, true, length, take, sym, ap, subst, ◌∙◌, rules}
use Rattle.packed_messages.specs.Packed.{Packed, Edges, InRange, run_of}
use Rattle.logs.specs.Layout.{base, gap, slots_of, journal, walked, recorded, Formed, Indexes}
use Rattle.logs.specs.Opening.{Scanned, opens}
use Rattle.logs.proofs.Laying.{opened_edges, opened_form, opened_index, opened_range, opened_once}
use Rattle.logs.proofs.Forms.{saved_is_sound}
use Rattle.logs.proofs.journals.Journal.open.Goals as goal

pub returns-in_err-new-in-Ok-clause-cases : goal.returns-in_err-new-in-Ok-clause-cases
returns-in_err-new-in-Ok-clause-cases c =
    let mem = c.args.memory.items in
    let used = c.args.used in
    let scan = c.in-Ok.scan in
    let items = ap (λ v. v.items) c.in_ok-memory.ensures.1 in
    let sizes : opens (length mem) used ≡ true = search rules in
    let read : Scanned (take used mem) scan.session scan.count scan.index.items =
    subst (λ t. Scanned (take used t) scan.session scan.count scan.index.items) (c.deref.ensures.value ∙ items) c.in-Ok.ensures in
    let slots : c.slots_in-slots.result ≡ slots_of (length mem) = c.slots_in-slots.ensures ∙ ap slots_of (c.len-len.ensures ∙ c.args.memory.ok.0) in
    let run : run_of c.in_ok-memory.memory.items used scan.count c.slots_in-slots.result scan.session ≡ run_of mem used scan.count (slots_of (length mem)) scan.session =
    ap (λ t. run_of t used scan.count c.slots_in-slots.result scan.session) items ∙ ap (λ k. run_of mem used scan.count k scan.session) slots in
    absurd (c.in_err-new-in-Ok.ensures.0 (subst (InRange base) (sym run) (opened_range mem used scan.session scan.count scan.index.items sizes read)))

pub returns-in_err-new-in-Ok-clause-back : goal.returns-in_err-new-in-Ok-clause-back
returns-in_err-new-in-Ok-clause-back c s ms sav ok form =
    let mem = c.args.memory.items in
    let used = c.args.used in
    let scan = c.in-Ok.scan in
    let items = ap (λ v. v.items) c.in_ok-memory.ensures.1 in
    let sizes : opens (length mem) used ≡ true = search rules in
    let read : Scanned (take used mem) scan.session scan.count scan.index.items =
    subst (λ t. Scanned (take used t) scan.session scan.count scan.index.items) (c.deref.ensures.value ∙ items) c.in-Ok.ensures in
    let slots : c.slots_in-slots.result ≡ slots_of (length mem) = c.slots_in-slots.ensures ∙ ap slots_of (c.len-len.ensures ∙ c.args.memory.ok.0) in
    let run : run_of c.in_ok-memory.memory.items used scan.count c.slots_in-slots.result scan.session ≡ run_of mem used scan.count (slots_of (length mem)) scan.session =
    ap (λ t. run_of t used scan.count c.slots_in-slots.result scan.session) items ∙ ap (λ k. run_of mem used scan.count k scan.session) slots in
    absurd (c.in_err-new-in-Ok.ensures.0 (subst (InRange base) (sym run) (opened_range mem used scan.session scan.count scan.index.items sizes read)))

pub invariant_of-result-clause-edges : goal.invariant_of-result-clause-edges
invariant_of-result-clause-edges c =
    let mem = c.args.memory.items in
    let used = c.args.used in
    let scan = c.in-Ok.scan in
    let items = ap (λ v. v.items) c.in_ok-memory.ensures.1 in
    let sizes : opens (length mem) used ≡ true = search rules in
    let read : Scanned (take used mem) scan.session scan.count scan.index.items =
    subst (λ t. Scanned (take used t) scan.session scan.count scan.index.items) (c.deref.ensures.value ∙ items) c.in-Ok.ensures in
    let slots : c.slots_in-slots.result ≡ slots_of (length mem) = c.slots_in-slots.ensures ∙ ap slots_of (c.len-len.ensures ∙ c.args.memory.ok.0) in
    let run : run_of c.in_ok-memory.memory.items used scan.count c.slots_in-slots.result scan.session ≡ run_of mem used scan.count (slots_of (length mem)) scan.session =
    ap (λ t. run_of t used scan.count c.slots_in-slots.result scan.session) items ∙ ap (λ k. run_of mem used scan.count k scan.session) slots in
    let is = c.in_ok-new-in-Ok.ensures.1 ∙ run in
    subst (λ (x : Packed). Edges base gap x (walked x.memory)) (sym is) (opened_edges mem used scan.session scan.count scan.index.items sizes read)

pub invariant_of-result-clause-form : goal.invariant_of-result-clause-form
invariant_of-result-clause-form c =
    let mem = c.args.memory.items in
    let used = c.args.used in
    let scan = c.in-Ok.scan in
    let items = ap (λ v. v.items) c.in_ok-memory.ensures.1 in
    let sizes : opens (length mem) used ≡ true = search rules in
    let read : Scanned (take used mem) scan.session scan.count scan.index.items =
    subst (λ t. Scanned (take used t) scan.session scan.count scan.index.items) (c.deref.ensures.value ∙ items) c.in-Ok.ensures in
    let slots : c.slots_in-slots.result ≡ slots_of (length mem) = c.slots_in-slots.ensures ∙ ap slots_of (c.len-len.ensures ∙ c.args.memory.ok.0) in
    let run : run_of c.in_ok-memory.memory.items used scan.count c.slots_in-slots.result scan.session ≡ run_of mem used scan.count (slots_of (length mem)) scan.session =
    ap (λ t. run_of t used scan.count c.slots_in-slots.result scan.session) items ∙ ap (λ k. run_of mem used scan.count k scan.session) slots in
    let is = c.in_ok-new-in-Ok.ensures.1 ∙ run in
    subst Formed (sym is) (opened_form mem used scan.session scan.count scan.index.items sizes read)

pub invariant_of-result-clause-indexed : goal.invariant_of-result-clause-indexed
invariant_of-result-clause-indexed c =
    let mem = c.args.memory.items in
    let used = c.args.used in
    let scan = c.in-Ok.scan in
    let items = ap (λ v. v.items) c.in_ok-memory.ensures.1 in
    let sizes : opens (length mem) used ≡ true = search rules in
    let read : Scanned (take used mem) scan.session scan.count scan.index.items =
    subst (λ t. Scanned (take used t) scan.session scan.count scan.index.items) (c.deref.ensures.value ∙ items) c.in-Ok.ensures in
    let slots : c.slots_in-slots.result ≡ slots_of (length mem) = c.slots_in-slots.ensures ∙ ap slots_of (c.len-len.ensures ∙ c.args.memory.ok.0) in
    let run : run_of c.in_ok-memory.memory.items used scan.count c.slots_in-slots.result scan.session ≡ run_of mem used scan.count (slots_of (length mem)) scan.session =
    ap (λ t. run_of t used scan.count c.slots_in-slots.result scan.session) items ∙ ap (λ k. run_of mem used scan.count k scan.session) slots in
    let is = c.in_ok-new-in-Ok.ensures.1 ∙ run in
    subst (λ (x : Packed). Indexes x.memory scan.index.items x.count) (sym is) (opened_index mem used scan.session scan.count scan.index.items sizes read)

pub returns-in_ok-new-in-Ok-clause-back : goal.returns-in_ok-new-in-Ok-clause-back
returns-in_ok-new-in-Ok-clause-back c s ms sav ok form =
    let mem = c.args.memory.items in
    let used = c.args.used in
    let scan = c.in-Ok.scan in
    let items = ap (λ v. v.items) c.in_ok-memory.ensures.1 in
    let sizes : opens (length mem) used ≡ true = search rules in
    let read : Scanned (take used mem) scan.session scan.count scan.index.items =
    subst (λ t. Scanned (take used t) scan.session scan.count scan.index.items) (c.deref.ensures.value ∙ items) c.in-Ok.ensures in
    let slots : c.slots_in-slots.result ≡ slots_of (length mem) = c.slots_in-slots.ensures ∙ ap slots_of (c.len-len.ensures ∙ c.args.memory.ok.0) in
    let run : run_of c.in_ok-memory.memory.items used scan.count c.slots_in-slots.result scan.session ≡ run_of mem used scan.count (slots_of (length mem)) scan.session =
    ap (λ t. run_of t used scan.count c.slots_in-slots.result scan.session) items ∙ ap (λ k. run_of mem used scan.count k scan.session) slots in
    let is = c.in_ok-new-in-Ok.ensures.1 ∙ run in
    ap recorded is ∙ opened_once mem used scan.session scan.count scan.index.items sizes read s ms sav form ∙ ap (λ n. journal n s ms) (sym c.args.memory.ok.0)

pub returns-in-Err-clause-back : goal.returns-in-Err-clause-back
returns-in-Err-clause-back c s ms sav ok form =
    let given = c.in_ok-memory.ensures.1 in
    let bad = c.in-Err.ensures in
    let same = ap (take c.args.used) (c.deref.ensures.value ∙ ap (λ v. v.items) given) in
    absurd (saved_is_sound s ms bad.0 sav (rw (same ∙ form) at bad.2))
