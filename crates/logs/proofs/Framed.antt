-- One record at the front of some bytes: read after it was written, and written again after it was read.
use Rattle.std.proofs.Common.{◌≡◌, ℕ, ◌+◌, ◌/◌, ◌%◌, ◌<◌, ◌≤◌, List, [], ◌∷◌, ◌++◌, length, get_or, take, drop, Ok, Err, Result, sym, refl, ap, ◌∙◌, inl, inr, arith, rules}
use Rattle.std.proofs.lemmas.List.{take_at, take-append-drop, length-append, length-take-le, drop-drop}
use Rattle.std.proofs.lemmas.Bool.{cond-true, cond-false, le-ltb, lt-ltb, ne_eqb, cases_lt}
use Rattle.wire.specs.Limits.{message_limit}
use Rattle.wire.specs.Numbers.{little, number}
use Rattle.logs.specs.declared.records.Mark.{Mark}
use Rattle.logs.specs.declared.records.Mark.TheVariants.{Session, Message}
use Rattle.logs.specs.declared.records.RecordFault.{RecordFault}
use Rattle.logs.specs.declared.records.RecordFault.TheVariants.{CutShort}
use Rattle.logs.specs.Format.{session_record}
use Rattle.logs.specs.Reading.{mark_of, session_in, message_in, marked, framed, message_of, fault_in, fault_at}
use Rattle.logs.specs.RecordLaws.{SessionReadsBack, MessageReadsBack, SessionWasWritten, MessageWasWritten}

-- a head with a body behind it
framed_at : {X : Type 0} (x y lo hi : ℕ) (tail : List ℕ) (held : Mark → List ℕ → Result X RecordFault) → number (lo ∷ hi ∷ []) ≤ length tail → framed (x ∷ y ∷ lo ∷ hi ∷ tail) held ≡ marked (mark_of x y) (λ mark. held mark (take (number (lo ∷ hi ∷ [])) tail))
framed_at x y lo hi tail held h =
    cond-false _ _ _ (le-ltb (length (x ∷ y ∷ lo ∷ hi ∷ tail)) 4 (omega arith))
    ∙ cond-false _ _ _ (le-ltb (length (x ∷ y ∷ lo ∷ hi ∷ tail)) (4 + (number (lo ∷ hi ∷ []))) (omega arith))

-- a head with too little behind it
framed_cut : {X : Type 0} (x y lo hi : ℕ) (tail : List ℕ) (held : Mark → List ℕ → Result X RecordFault) → length tail < number (lo ∷ hi ∷ []) → framed (x ∷ y ∷ lo ∷ hi ∷ tail) held ≡ Err CutShort
framed_cut x y lo hi tail held h =
    cond-false _ _ _ (le-ltb (length (x ∷ y ∷ lo ∷ hi ∷ tail)) 4 (omega arith))
    ∙ cond-true _ _ _ (lt-ltb (length (x ∷ y ∷ lo ∷ hi ∷ tail)) (4 + (number (lo ∷ hi ∷ []))) (omega arith))

-- a length in two bytes
pub length_back : (n : ℕ) → n < 65536 → number (little 2 n) ≡ n
length_back n h = omega arith

length_forth : (lo hi : ℕ) → lo < 256 → hi < 256 → ((number (lo ∷ hi ∷ [])) % 256 ≡ lo) × ((number (lo ∷ hi ∷ [])) / 256 % 256 ≡ hi)
length_forth lo hi l h = (omega arith, omega arith)

pub session_reads_back : SessionReadsBack
session_reads_back s rest =
    cond-false _ _ _ (ne_eqb (length (session_record s ++ rest)) 0 (λ e. omega arith))
    ∙ framed_at 0x42 0x53 1 0 (s ∷ rest) session_in (omega arith)

pub message_reads_back : MessageReadsBack
message_reads_back s m rest pos short =
    let n = length m in
    let back = length_back n (omega arith) in
    let long = length-append m rest in
    let body : take (number (little 2 n)) (m ++ rest) ≡ m = take_at m rest _ (sym back) in
    framed_at 0x4D 0x47 (n % 256) (n / 256 % 256) (m ++ rest) (message_in s) (omega arith)
    ∙ (ap (message_in s Message) body
    ∙ (cond-false _ _ _ (le-ltb message_limit (length m) short)
    ∙ cond-false _ _ _ (ne_eqb s 0 (λ e. omega arith))))

mark_session : (x y : ℕ) → mark_of x y ≡ Ok Session → (x ≡ 0x42) × (y ≡ 0x53)
mark_session x y e = search rules

mark_message : (x y : ℕ) → mark_of x y ≡ Ok Message → (x ≡ 0x4D) × (y ≡ 0x47)
mark_message x y e = search rules

session_inner : (r : Result Mark RecordFault) (body : List ℕ) (s : ℕ) → marked r (λ mark. session_in mark body) ≡ Ok s → (r ≡ Ok Session) × (body ≡ s ∷ [])
session_inner (Ok Session) [] s e = absurd cc
session_inner (Ok Session) (t ∷ []) s e = (refl, cc)
session_inner (Ok Session) (t ∷ u ∷ more) s e = absurd cc
session_inner (Ok Message) body s e = absurd cc
session_inner (Err f) body s e = absurd cc

message_inner : (r : Result Mark RecordFault) (s : ℕ) (body m : List ℕ) → marked r (λ mark. message_in s mark body) ≡ Ok m → (r ≡ Ok Message) × (body ≡ m) × (length body ≤ message_limit) × (0 < s)
message_inner (Ok Session) s body m e = absurd cc
message_inner (Ok Message) s body m e =
    elim (cases_lt message_limit (length body)) [
      | inl l ↦ absurd (cc (sym (cond-true _ _ _ (lt-ltb message_limit (length body) l)) ∙ e))
      | inr l ↦
          let e' = sym (cond-false _ _ _ (le-ltb message_limit (length body) l)) ∙ e in
          (refl, search rules, l, search rules)
    ]
message_inner (Err f) s body m e = absurd cc

-- the same bytes, from the parts that were read
rebuilt : (x y lo hi : ℕ) (tail m : List ℕ) → take (number (lo ∷ hi ∷ [])) tail ≡ m → number (lo ∷ hi ∷ []) ≤ length tail → lo < 256 → hi < 256 → (length m ≡ number (lo ∷ hi ∷ [])) × (◌≡◌ {A = List ℕ} (x ∷ y ∷ lo ∷ hi ∷ tail) (x ∷ y ∷ length m % 256 ∷ length m / 256 % 256 ∷ (m ++ drop (4 + length m) (x ∷ y ∷ lo ∷ hi ∷ tail))))
rebuilt x y lo hi tail m is h l u =
    let n = number (lo ∷ hi ∷ []) in
    let long : length m ≡ n = ap length (sym is) ∙ length-take-le n tail h in
    let two = length_forth lo hi l u in
    let low : length m % 256 ≡ lo = ap (λ k. k % 256) long ∙ two.0 in
    let high : length m / 256 % 256 ≡ hi = ap (λ k. k / 256 % 256) long ∙ two.1 in
    let rest : drop (4 + length m) (x ∷ y ∷ lo ∷ hi ∷ tail) ≡ drop n tail = sym (drop-drop (length m) 4 (x ∷ y ∷ lo ∷ hi ∷ tail)) ∙ ap (λ k. drop k tail) long in
    let all : m ++ drop (4 + length m) (x ∷ y ∷ lo ∷ hi ∷ tail) ≡ tail = ap (λ t. m ++ t) rest ∙ (ap (λ t. t ++ drop n tail) (sym is) ∙ take-append-drop n tail) in
    (long, cc)

pub message_was_written : MessageWasWritten
message_was_written s [] m b e = absurd cc
message_was_written s (x ∷ []) m b e = absurd cc
message_was_written s (x ∷ y ∷ []) m b e = absurd cc
message_was_written s (x ∷ y ∷ lo ∷ []) m b e = absurd cc
message_was_written s (x ∷ y ∷ lo ∷ hi ∷ tail) m b e =
    elim (cases_lt (length tail) (number (lo ∷ hi ∷ []))) [
      | inl l ↦ absurd (cc (sym (framed_cut x y lo hi tail (message_in s) l) ∙ e))
      | inr l ↦
          let inner = message_inner (mark_of x y) s (take (number (lo ∷ hi ∷ [])) tail) m (sym (framed_at x y lo hi tail (message_in s) l) ∙ e) in
          let mark = mark_message x y inner.0 in
          let same = rebuilt x y lo hi tail m inner.1 l (b 2) (b 3) in
          let long = ap length inner.1 in
          (same.1 ∙ ap (λ u. u ∷ y ∷ length m % 256 ∷ length m / 256 % 256 ∷ (m ++ drop (4 + length m) (x ∷ y ∷ lo ∷ hi ∷ tail))) mark.0 ∙ ap (λ v. 0x4D ∷ v ∷ length m % 256 ∷ length m / 256 % 256 ∷ (m ++ drop (4 + length m) (x ∷ y ∷ lo ∷ hi ∷ tail))) mark.1, omega arith, inner.3)
    ]

pub session_was_written : SessionWasWritten
session_was_written [] s b e = absurd cc
session_was_written (x ∷ []) s b e = absurd cc
session_was_written (x ∷ y ∷ []) s b e = absurd cc
session_was_written (x ∷ y ∷ lo ∷ []) s b e = absurd cc
session_was_written (x ∷ y ∷ lo ∷ hi ∷ tail) s b e =
    let e' = sym (cond-false _ _ _ (ne_eqb (length (x ∷ y ∷ lo ∷ hi ∷ tail)) 0 (λ z. omega arith))) ∙ e in
    elim (cases_lt (length tail) (number (lo ∷ hi ∷ []))) [
      | inl l ↦ absurd (cc (sym (framed_cut x y lo hi tail session_in l) ∙ e'))
      | inr l ↦
          let inner = session_inner (mark_of x y) (take (number (lo ∷ hi ∷ [])) tail) s (sym (framed_at x y lo hi tail session_in l) ∙ e') in
          let mark = mark_session x y inner.0 in
          let same = rebuilt x y lo hi tail (s ∷ []) inner.1 l (b 2) (b 3) in
          (same.1 ∙ ap (λ u. u ∷ y ∷ 1 ∷ 0 ∷ s ∷ drop 5 (x ∷ y ∷ lo ∷ hi ∷ tail)) mark.0 ∙ ap (λ v. 0x42 ∷ v ∷ 1 ∷ 0 ∷ s ∷ drop 5 (x ∷ y ∷ lo ∷ hi ∷ tail)) mark.1)
    ]

-- what is wrong past the session record
pub fault_later : (b : List ℕ) (p : ℕ) → (p ≡ 0 → ⊥) → 5 ≤ length b → p ≤ length b → fault_at b p ≡ fault_in (message_of (get_or b 4 0) (drop p b))
fault_later b p ne five le = cond-false _ _ _ (ne_eqb p 0 ne) ∙ (cond-false _ _ _ (le-ltb (length b) 5 five) ∙ cond-false _ _ _ (le-ltb (length b) p le))
