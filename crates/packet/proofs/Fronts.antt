-- Beginnings of packets, bytes after them, and the faults of a reader that knows of no phase.
use Rattle.std.proofs.Common.{◌≡◌, ℕ, ◌+◌, ◌-◌, ◌<◌, ◌≤◌, eqb, ltb, List, ◌++◌, length, get_or, take, drop, Ok, Err, Result, sym, refl, ap, ◌∙◌, subst, inl, inr, arith, length-append, length-drop}
use Rattle.std.proofs.lemmas.List.{get_or_append_left, get_or-take, take-append-le, drop-append-le, length-take-le}
use Rattle.std.proofs.lemmas.Bool.{cases_lt, lt-ltb, le-ltb, eq-eqb, ne_eqb, cond-true, cond-false}
use Rattle.wire.specs.declared.faults.Field.TheVariants as Field
use Rattle.wire.specs.declared.faults.PacketFault.{PacketFault}
use Rattle.wire.specs.declared.faults.PacketFault.TheVariants.{LengthZero, LengthOverLimit, UnknownLetter, WrongLength, WrongContent}
use Rattle.wire.specs.declared.letters.Letter.{Letter}
use Rattle.wire.specs.declared.letters.Letter.TheVariants as L
use Rattle.wire.specs.Limits.{length_limit}
use Rattle.wire.specs.Letters.{letter_byte, letter_of, letters, allowed}
use Rattle.wire.specs.Codes.{status_byte, status_of, statuses, logout_byte, logout_of, logout_reasons, good_bye_byte, good_bye_of, good_bye_reasons}
use Rattle.wire.proofs.Coded.{cut, coded_fault}
use Rattle.packet.specs.Values.{Value, Valid, encode, letter, length_number}
use Rattle.packet.specs.Decoding.{Decoded, decode, counted, head_number, bodied, opened, content, part, whole, wholly, next}
use Rattle.packet.specs.Laws.{Bytes, Front, IgnoresRest, BeginningsAreParts, ReportsEarly, Phaseless, KnowsNoPhase, Reads}
use Rattle.packet.proofs.Framing.{within, counted_good, head_of_little}
use Rattle.packet.proofs.Back.{length_encode}
use Rattle.packet.proofs.Forth.{counted_forth, writes_back}

pub decode_short : (bs : List ℕ) → length bs < 2 → decode bs ≡ Ok part
unfolding decode
decode_short bs h = cond-true _ _ _ (lt-ltb (length bs) 2 h)

pub decode_head : (bs : List ℕ) → 2 ≤ length bs → decode bs ≡ next (counted (head_number bs)) (bodied bs)
unfolding decode
decode_head bs h = cond-false _ _ _ (le-ltb (length bs) 2 h)

bodied_part : (bs : List ℕ) (n : ℕ) → length bs < n + 2 → bodied bs n ≡ Ok part
bodied_part bs n h = cond-true _ _ _ (lt-ltb (length bs) (n + 2) h)

pub bodied_whole : (bs : List ℕ) (n : ℕ) → n + 2 ≤ length bs → bodied bs n ≡ wholly (opened (get_or bs 2 0) (take (n - 1) (drop 3 bs)))
bodied_whole bs n h = cond-false _ _ _ (le-ltb (length bs) (n + 2) h)

-- bytes after a whole packet are not looked at
module _ (bs rest : List ℕ) where
  pub head_same : 2 ≤ length bs → head_number (bs ++ rest) ≡ head_number bs
  head_same h =
      let a : get_or (bs ++ rest) 0 0 ≡ get_or bs 0 0 = get_or_append_left bs rest 0 0 (omega arith) in
      let b : get_or (bs ++ rest) 1 0 ≡ get_or bs 1 0 = get_or_append_left bs rest 0 1 (omega arith) in
      omega arith

  whole_same : (n : ℕ) → 0 < n → n + 2 ≤ length bs → bodied (bs ++ rest) n ≡ bodied bs n
  whole_same n p h =
      let l : n + 2 ≤ length (bs ++ rest) = simp length-append (omega arith) in
      let a : get_or (bs ++ rest) 2 0 ≡ get_or bs 2 0 = get_or_append_left bs rest 0 2 (omega arith) in
      let d : drop 3 (bs ++ rest) ≡ drop 3 bs ++ rest = drop-append-le 3 bs rest (omega arith) in
      let t : take (n - 1) (drop 3 bs ++ rest) ≡ take (n - 1) (drop 3 bs) = take-append-le (n - 1) (drop 3 bs) rest (simp length-drop (omega arith)) in
      let k : take (n - 1) (drop 3 (bs ++ rest)) ≡ take (n - 1) (drop 3 bs) = ap (take (n - 1)) d ∙ t in
      bodied_whole (bs ++ rest) n l
      ∙ ap (λ (x : ℕ). wholly (opened x (take (n - 1) (drop 3 (bs ++ rest))))) a
      ∙ ap (λ (x : List ℕ). wholly (opened (get_or bs 2 0) x)) k
      ∙ sym (bodied_whole bs n h)

  settled : (r : Result ℕ PacketFault) → counted (head_number bs) ≡ r → (next r (bodied bs) ≡ Ok part → ⊥) → next r (bodied (bs ++ rest)) ≡ next r (bodied bs)
  settled (Err fault) e never = refl
  settled (Ok n) e never =
      let c = counted_forth (head_number bs) n e in
      elim (cases_lt (length bs) (n + 2)) [ inl h ↦ absurd (never (bodied_part bs n h)) | inr h ↦ whole_same n (omega arith) h ]

pub ignores_rest : IgnoresRest
ignores_rest bs rest never =
    elim (cases_lt (length bs) 2) [
      | inl h ↦ absurd (never (decode_short bs h))
      | inr h ↦
          let l : 2 ≤ length (bs ++ rest) = simp length-append (omega arith) in
          let r : Result ℕ PacketFault = counted (head_number bs) in
          decode_head (bs ++ rest) l
          ∙ ap (λ (n : ℕ). next (counted n) (bodied (bs ++ rest))) (head_same bs rest h)
          ∙ settled bs rest r refl (λ q. never (decode_head bs h ∙ q))
          ∙ sym (decode_head bs h)
    ]

-- the head of what is written
pub head_encode : (v : Value) → Valid v → head_number (encode v) ≡ length_number v
unfolding encode
head_encode v h = head_of_little (length_number v) (within (letter v) (length_number v) h.fits).limit

pub beginnings_are_parts : BeginningsAreParts
beginnings_are_parts v k h l =
    let n : ℕ = length_number v in
    let xs : List ℕ = take k (encode v) in
    let size : length xs ≡ k = length-take-le k (encode v) (omega arith) in
    elim (cases_lt k 2) [
      | inl s ↦ decode_short xs (omega arith)
      | inr s ↦
          let a : get_or xs 0 0 ≡ get_or (encode v) 0 0 = get_or-take k (encode v) 0 0 (omega arith) in
          let b : get_or xs 1 0 ≡ get_or (encode v) 1 0 = get_or-take k (encode v) 1 0 (omega arith) in
          let q : head_number xs ≡ n = (omega arith) ∙ head_encode v h in
          let good : Ok n ≡ counted n = counted_good n (omega arith) (within (letter v) n h.fits).limit in
          decode_head xs (omega arith)
          ∙ ap (λ (i : ℕ). next (counted i) (bodied xs)) q
          ∙ ap (λ r. next r (bodied xs)) (sym good)
          ∙ bodied_part xs n (omega (arith, length_encode v))
    ]

pub reports_early : ReportsEarly
reports_early bs h =
    let head : decode bs ≡ next (counted (head_number bs)) (bodied bs) = decode_head bs h in
    record {
      zero = λ z. head ∙ ap (λ r. next r (bodied bs)) (cond-true _ _ _ (eq-eqb (head_number bs) 0 z));
      over = λ l. head ∙ ap (λ r. next r (bodied bs)) (cond-false _ _ _ (ne_eqb (head_number bs) 0 (λ e. omega arith)) ∙ cond-true _ _ _ (lt-ltb length_limit (head_number bs) l));
    }

-- a step that a fault ended, or the one after it
pub failed : {X Y : Type 0} (r : Result X PacketFault) (f : X → Result Y PacketFault) (q : PacketFault) (P : Type 0) → (r ≡ Err q → P) → ((x : X) → r ≡ Ok x → f x ≡ Err q → P) → next r f ≡ Err q → P
failed (Ok x) f q P g k e = k x refl e
failed (Err p) f q P g k e = g (let same : p ≡ q = cc in ap (λ (y : PacketFault). Err y) same)

module _ (q : PacketFault) where
  phaseless_at : (p : PacketFault) → Phaseless p → p ≡ q → Phaseless q
  phaseless_at p h e = subst Phaseless e h

  fine : {X : Type 0} (x : X) → ◌≡◌ {A = Result X PacketFault} (Ok x) (Err q) → Phaseless q
  fine x e = cc

  this : {X : Type 0} (p : PacketFault) → Phaseless p → ◌≡◌ {A = Result X PacketFault} (Err p) (Err q) → Phaseless q
  this p h e = let same : p ≡ q = cc in phaseless_at p h same

  counted_phaseless : (n : ℕ) → counted n ≡ Err q → Phaseless q
  counted_phaseless n =
      cut (eqb n 0) _ _ (Err q) (Phaseless q) (λ t. this LengthZero tt)
      (λ t. cut (ltb length_limit n) _ _ (Err q) (Phaseless q) (λ u. this LengthOverLimit tt) (λ u. fine n))

  content_phaseless : (l : Letter) (b : List ℕ) → content l b ≡ Err q → Phaseless q
  content_phaseless L.LoginRequest b = fine _
  content_phaseless L.LoginResponse b =
      failed (status_of (get_or b 0 0)) _ q (Phaseless q) (λ e. phaseless_at (WrongContent Field.Status) tt (coded_fault status_byte _ statuses (get_or b 0 0) q e)) (λ t e. fine _)
  content_phaseless L.Sequenced b = fine _
  content_phaseless L.Unsequenced b = fine _
  content_phaseless L.SynchronizationComplete b = fine _
  content_phaseless L.RetransmissionRequest b = fine _
  content_phaseless L.LogoutRequest b =
      failed (logout_of (get_or b 0 0)) _ q (Phaseless q) (λ e. phaseless_at (WrongContent Field.Reason) tt (coded_fault logout_byte _ logout_reasons (get_or b 0 0) q e)) (λ t e. fine _)
  content_phaseless L.GoodBye b =
      failed (good_bye_of (get_or b 0 0)) _ q (Phaseless q) (λ e. phaseless_at (WrongContent Field.Reason) tt (coded_fault good_bye_byte _ good_bye_reasons (get_or b 0 0) q e)) (λ t e. fine _)
  content_phaseless L.EndOfSession b = fine _
  content_phaseless L.HubHeartbeat b = fine _
  content_phaseless L.SeatHeartbeat b = fine _
  content_phaseless L.Test b = fine _

  opened_phaseless : (k : ℕ) (b : List ℕ) → opened k b ≡ Err q → Phaseless q
  opened_phaseless k b =
      failed (letter_of k) _ q (Phaseless q) (λ e. phaseless_at UnknownLetter tt (coded_fault letter_byte _ letters k q e))
      (λ l e. cut (allowed l (length b + 1)) _ _ (Err q) (Phaseless q) (λ t. content_phaseless l b) (λ t. this WrongLength tt))

pub knows_no_phase : KnowsNoPhase
unfolding decode
knows_no_phase bs q =
    cut (ltb (length bs) 2) _ _ (Err q) (Phaseless q) (λ t. fine q part)
    (λ t. failed (counted (head_number bs)) _ q (Phaseless q) (counted_phaseless q (head_number bs))
    (λ n e. cut (ltb (length bs) (n + 2)) _ _ (Err q) (Phaseless q) (λ u. fine q part)
    (λ u. failed (opened (get_or bs 2 0) (take (n - 1) (drop 3 bs))) _ q (Phaseless q) (opened_phaseless q (get_or bs 2 0) (take (n - 1) (drop 3 bs))) (λ v f. fine q (whole v)))))

-- all the laws, of one reading
pub reads : (bs : List ℕ) (r : Result Decoded PacketFault) → Bytes bs → r ≡ decode bs → Reads bs r
reads bs r s e =
    record {
      answer = e;
      front = λ v q. writes_back bs v s (sym e ∙ q);
      beginnings = λ v k q l. let f : Front v bs = writes_back bs v s (sym e ∙ q) in
          let t : take k bs ≡ take k (encode v) = ap (take k) f.written ∙ take-append-le k (encode v) (drop (length (encode v)) bs) (omega arith) in
          ap decode t ∙ beginnings_are_parts v k f.valid l;
      rest = λ more never. ignores_rest bs more (λ q. never (e ∙ q)) ∙ sym e;
      early = reports_early bs;
      phaseless = λ fault q. knows_no_phase bs fault (sym e ∙ q);
    }
