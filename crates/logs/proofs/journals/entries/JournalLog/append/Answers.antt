use Rattle.std.proofs.Common.{◌≡◌, ◌++◌, length, sym, ap, subst, ◌∙◌, rules, arith}
use Rattle.packed_messages.specs.Packed.{Packed, Edges, extended}
use Rattle.packed_messages.specs.Shown.{packed_of}
use Rattle.packed_messages.proofs.Keeping.{in_range, judged_kept}
use Rattle.logs.specs.Format.{message_record}
use Rattle.logs.specs.Layout.{base, gap, walked, recorded, Slotted, Formed, Indexes, Notes}
use Rattle.logs.proofs.Laying.{appended_edges, appended_slots, appended_form, appended_index, appended_meaning}
use Rattle.logs.proofs.journals.entries.JournalLog.append.Goals as goal

pub returns-in_err-append-clause-value : goal.returns-in_err-append-clause-value
returns-in_err-append-clause-value c =
    let s = c.args.self.now in
    let value = c.append.ensures.value ∙ judged_kept base gap (packed_of s.packed) (walked s.packed.memory.items) (in_range s.packed) s.edges (length c.args.message.now) in
    search rules

pub returns-clause-value : goal.returns-clause-value
returns-clause-value c =
    let s = c.args.self.now in
    let value = c.append.ensures.value ∙ judged_kept base gap (packed_of s.packed) (walked s.packed.memory.items) (in_range s.packed) s.edges (length c.args.message.now) in
    search rules

pub invariant_of-self-2-clause-slotted : goal.invariant_of-self-2-clause-slotted
invariant_of-self-2-clause-slotted c =
    let s = c.args.self.now in
    let v = packed_of s.packed in
    let m = c.args.message.now in
    let grew : packed_of c.append.new.self ≡ extended (message_record m) v = c.in_ok-append.ensures.after ∙ ap (λ t. extended (t ++ m) v) c.head.ensures in
    let ok = sym c.in_ok-append.ensures.value in
    subst Slotted (sym grew) (appended_slots v m (in_range s.packed) s.edges ok s.slotted)

pub invariant_of-self-2-clause-edges : goal.invariant_of-self-2-clause-edges
invariant_of-self-2-clause-edges c =
    let s = c.args.self.now in
    let v = packed_of s.packed in
    let m = c.args.message.now in
    let grew : packed_of c.append.new.self ≡ extended (message_record m) v = c.in_ok-append.ensures.after ∙ ap (λ t. extended (t ++ m) v) c.head.ensures in
    let ok = sym c.in_ok-append.ensures.value in
    subst (λ (x : Packed). Edges base gap x (walked x.memory)) (sym grew) (appended_edges v m (in_range s.packed) s.edges ok)

pub invariant_of-self-2-clause-form : goal.invariant_of-self-2-clause-form
invariant_of-self-2-clause-form c =
    let s = c.args.self.now in
    let v = packed_of s.packed in
    let m = c.args.message.now in
    let grew : packed_of c.append.new.self ≡ extended (message_record m) v = c.in_ok-append.ensures.after ∙ ap (λ t. extended (t ++ m) v) c.head.ensures in
    let ok = sym c.in_ok-append.ensures.value in
    subst Formed (sym grew) (appended_form v m (in_range s.packed) s.edges ok s.form)

pub invariant_of-self-2-clause-indexed : goal.invariant_of-self-2-clause-indexed
invariant_of-self-2-clause-indexed c =
    let s = c.args.self.now in
    let v = packed_of s.packed in
    let m = c.args.message.now in
    let grew : packed_of c.append.new.self ≡ extended (message_record m) v = c.in_ok-append.ensures.after ∙ ap (λ t. extended (t ++ m) v) c.head.ensures in
    let ok = sym c.in_ok-append.ensures.value in
    let end = c.used.ensures ∙ ap (λ (x : Packed). x.used) grew in
    let noted = subst (λ n. Notes s.index.items n c.used.result c.note.new.index.items) c.count-before.ensures c.note.ensures in
    subst (λ (x : Packed). Indexes x.memory c.note.new.index.items x.count) (sym grew)
    (appended_index v m (in_range s.packed) s.edges ok s.index.items c.note.new.index.items c.used.result s.indexed (omega (arith, end)) noted)

pub returns-clause-after : goal.returns-clause-after
returns-clause-after c =
    let s = c.args.self.now in
    let v = packed_of s.packed in
    let m = c.args.message.now in
    let grew : packed_of c.append.new.self ≡ extended (message_record m) v = c.in_ok-append.ensures.after ∙ ap (λ t. extended (t ++ m) v) c.head.ensures in
    let ok = sym c.in_ok-append.ensures.value in
    ap recorded grew ∙ appended_meaning v m (in_range s.packed) s.edges ok
