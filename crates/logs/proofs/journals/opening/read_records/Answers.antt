use Rattle.std.proofs.Common.{◌≡◌, ◌+◌, length, drop, Ok, sym, refl, ap, ◌∙◌, arith}
use Rattle.packed_messages.specs.Bytes.{Bytes}
use Rattle.logs.specs.Reading.{message_of, held}
use Rattle.logs.specs.Opening.{front}
use Rattle.logs.proofs.Laying.{read_front, read_broken, read_all, read_fits, read_more, read_few, rest_is}
use Rattle.logs.proofs.journals.opening.read_records.Goals as goal

pub returns-in_default : goal.returns-in_default
returns-in_default c = (0, refl, front c.in_default.field-0 (sym c.read_session.ensures ∙ c.in_default.is))

pub loop-at-init : goal.loop-at-init
loop-at-init c =
    read_front c.args.bytes.now c.args.index.items c.in-Ok.session
    (λ i. let f = c.type_inv.bytes i in omega arith)
    (sym c.read_session.ensures ∙ c.in-Ok.is)
    c.requires.empty

pub returns-in_default-read_message : goal.returns-in_default-read_message
returns-in_default-read_message c =
    let at = c.loop-at.at in (
      at,
      refl,
      read_broken c.args.bytes.now c.in-Ok.session c.loop-at.count at c.loop-at.index.items c.loop-at.invariant
          c.in_default-read_message.field-0 (omega arith) (sym (ap (message_of c.in-Ok.session) (rest_is c.args.bytes.now at)) ∙ sym c.read_message.ensures ∙ ap held c.in_default-read_message.is),
    )

pub note-requires : goal.note-requires
note-requires c =
    let b = c.args.bytes.now in
    let at = c.loop-at.at in
    let s = c.in-Ok.session in
    let n = c.loop-at.count in
    let index = c.loop-at.index.items in
    let m = c.in-Ok-read_message.message.now in
    let bytes : Bytes b = λ i. let f = c.type_inv.bytes i in omega arith in
    let read : message_of s (drop at b) ≡ Ok m = sym (ap (message_of s) (rest_is b at)) ∙ sym c.in-Ok-read_message.ensures in
    omega (arith, read_fits b s n at index c.loop-at.invariant m bytes read, c.requires.small)

pub overflow_add-count : goal.overflow_add-count
overflow_add-count c =
    omega (arith, read_few c.args.bytes.now c.in-Ok.session c.loop-at.count c.loop-at.at c.loop-at.index.items c.loop-at.invariant, c.requires.small)

pub loop-at-preserved : goal.loop-at-preserved
loop-at-preserved c =
    let b = c.args.bytes.now in
    let at = c.loop-at.at in
    let s = c.in-Ok.session in
    let n = c.loop-at.count in
    let index = c.loop-at.index.items in
    let m = c.in-Ok-read_message.message.now in
    let bytes : Bytes b = λ i. let f = c.type_inv.bytes i in omega arith in
    let read : message_of s (drop at b) ≡ Ok m = sym (ap (message_of s) (rest_is b at)) ∙ sym c.in-Ok-read_message.ensures in
    read_more b s n at index c.loop-at.invariant m c.note.new.index.items (at + (4 + length m)) bytes read (omega arith) c.note.ensures

pub returns : goal.returns
returns c = read_all c.args.bytes.now c.in-Ok.session c.loop-at.count c.loop-at.at c.loop-at.index.items c.loop-at.invariant (omega arith)
