-- A packet that stands at the front of the outgoing buffer, put on a line from there.
use Rattle.std.proofs.Common.{◌≡◌, ℕ, ◌-◌, ◌<◌, ◌≤◌, true, false, List, ◌++◌, length, take, drop, Ok, Err, Result, sym, refl, ap, ◌∙◌, subst, arith}
use Rattle.std.proofs.lemmas.List.{take_at}
use Rattle.std.proofs.lemmas.Bool.{le-leb, lt-leb, cond-true}
use Rattle.wire.specs.declared.refusals.Refusal.{Refusal}
use Rattle.wire.specs.declared.refusals.Refusal.TheVariants.{LineFull}
use Rattle.wire.proofs.Coded.{cut}
use Rattle.packet.specs.Values.{Value, encode}
use Rattle.line.specs.Lines.{LineView, Put, joined, fits}
use Rattle.message_log.specs.Calls.{settled, fronted}
use Rattle.framing.specs.Posting.{Posted, roomy}

pub fitting : (v : Value) (d : LineView) (n : ℕ) → n ≡ length (encode v) → n ≤ d.room → fits d (encode v) ≡ true
fitting v d n e h = le-leb (length (encode v)) d.room (omega arith)

pub lacking : (v : Value) (d : LineView) (n : ℕ) → n ≡ length (encode v) → d.room < n → fits d (encode v) ≡ false
lacking v d n e h = lt-leb (length (encode v)) d.room (omega arith)

-- a put of the packet from the front of the buffer
pub posted : (v : Value) (says r : Result (Unit {0}) Refusal) (d d' : LineView) (o o' : List ℕ) (n : ℕ) → n ≡ length (encode v) → n ≤ d.room → says ≡ roomy v d → o' ≡ encode v ++ drop n o → Put d (take (n - 0) o') r d' → Posted v says d o r d' o'
posted v says r d d' o o' n e h s f p =
    let t : take (n - 0) o' ≡ encode v = ap (take (n - 0)) f ∙ take_at (encode v) (drop n o) (n - 0) (omega arith) in
    let q : Put d (encode v) r d' = subst (λ (x : List ℕ). Put d x r d') t p in
    let b : fits d (encode v) ≡ true = fitting v d n e h in
    let a : r ≡ Ok tt = q.answer ∙ cond-true _ _ _ b in
    record {
      answer = a ∙ sym (s ∙ cond-true _ _ _ b);
      line = q.after ∙ cond-true _ _ _ b ∙ sym (ap (λ (x : Result (Unit {0}) Refusal). settled x (joined d (encode v)) d) a);
      buffer = f ∙ ap (λ (i : ℕ). encode v ++ drop i o) e ∙ sym (ap (λ (x : Result (Unit {0}) Refusal). settled x (fronted (encode v) o) o) a);
    }

pub refused : (v : Value) (says : Result (Unit {0}) Refusal) (refusal : Refusal) (d : LineView) (o : List ℕ) → says ≡ Err refusal → Posted v says d o (Err refusal) d o
refused v says refusal d o e = record { answer = sym e; line = refl; buffer = refl }

-- the room decided for it
pub roomy_granted : (v : Value) (d : LineView) (x : Unit {0}) → roomy v d ≡ Ok x → fits d (encode v) ≡ true
roomy_granted v d x = cut (fits d (encode v)) _ _ (Ok x) _ (λ t e. t) (λ t e. cc)

pub roomy_refused : (v : Value) (d : LineView) (e : Refusal) → roomy v d ≡ Err e → (fits d (encode v) ≡ false) × (e ≡ LineFull)
roomy_refused v d e = cut (fits d (encode v)) _ _ (Err e) _ (λ t q. cc) (λ t q. (t, cc))
