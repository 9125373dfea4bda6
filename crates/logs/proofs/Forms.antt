-- The saved form determines the log: where a saved log goes on, a record stands.
use Rattle.std.proofs.Common.{◌≡◌, ℕ, suc, ◌-◌, ◌<◌, ◌≤◌, List, [], ◌∷◌, ◌++◌, length, get_or, take, drop, is_some, Err, sym, refl, ap, ◌∙◌, inl, inr, arith}
use Rattle.std.specs.List.{flat_map}
use Rattle.std.proofs.lemmas.List.{append_assoc, append_cancel_left, take-append-drop, take-take, take_all, drop-append-le, length-append, length-take-le, length-drop}
use Rattle.std.proofs.lemmas.Bool.{cases_eq, cases_order}
use Rattle.wire.specs.Limits.{message_limit}
use Rattle.logs.specs.declared.records.RecordFault.{RecordFault}
use Rattle.logs.specs.Format.{session_record, message_record, saved}
use Rattle.logs.specs.Reading.{session_of, message_of, fault_in}
use Rattle.logs.proofs.Framed.{session_reads_back, message_reads_back, fault_later}
use Rattle.logs.specs.Opening.{Savable, front, later}
use Rattle.logs.specs.JournalLaws.{SavedOnce, SavedIsSound, BrokenOnce, BrokenHasAFault}

-- no message is too long
abbrev Short : List (List ℕ) → Type 0
Short ms = (k : ℕ) → length (get_or ms k []) ≤ message_limit

-- two records at the front of the same bytes hold the same message
same_message : (m m' x y : List ℕ) → length m ≤ message_limit → length m' ≤ message_limit → message_record m ++ x ≡ message_record m' ++ y → (m ≡ m') × (x ≡ y)
same_message m m' x y l l' e =
    let a = message_reads_back 1 m x (omega arith) l in
    let b = message_reads_back 1 m' y (omega arith) l' in
    let c = ap (message_of 1) e in
    let same : m ≡ m' = cc in
    (same, append_cancel_left (message_record m) x y (e ∙ ap (λ t. message_record t ++ y) (sym same)))

messages_once : (ms ms' : List (List ℕ)) → Short ms → Short ms' → flat_map message_record ms ≡ flat_map message_record ms' → ms ≡ ms'
messages_once [] [] a b e = refl
messages_once [] (m ∷ ms) a b e = absurd (let n = ap length e in omega arith)
messages_once (m ∷ ms) [] a b e = absurd (let n = ap length e in omega arith)
messages_once (m ∷ ms) (m' ∷ ms') a b e =
    let s = same_message m m' (flat_map message_record ms) (flat_map message_record ms') (a 0) (b 0) e in
    let t = messages_once ms ms' (λ k. a (suc k)) (λ k. b (suc k)) s.1 in
    cc

-- messages ms, of which ms' are the first: behind these stands the record of the next
next_record : (ms' ms : List (List ℕ)) (rest : List ℕ) → Short ms' → Short ms → flat_map message_record ms ≡ flat_map message_record ms' ++ rest → 0 < length rest → (m : List ℕ) × (tail : List ℕ) × (rest ≡ message_record m ++ tail) × (length m ≤ message_limit)
next_record [] [] rest a b e pos = absurd (let n = ap length e in omega arith)
next_record [] (m ∷ ms) rest a b e pos = (m, flat_map message_record ms, sym e, b 0)
next_record (m' ∷ ms') [] rest a b e pos = absurd (let n = ap length e in omega arith)
next_record (m' ∷ ms') (m ∷ ms) rest a b e pos =
    let s = same_message m m' (flat_map message_record ms) (flat_map message_record ms' ++ rest) (b 0) (a 0) (e ∙ append_assoc (message_record m') (flat_map message_record ms') rest) in
    next_record ms' ms rest (λ k. a (suc k)) (λ k. b (suc k)) s.1 pos

-- a saved log that goes on behind another: the same session, and the messages go on
goes_on : (s s' : ℕ) (ms ms' : List (List ℕ)) (rest : List ℕ) → saved s' ms' ≡ saved s ms ++ rest → (s' ≡ s) × (flat_map message_record ms' ≡ flat_map message_record ms ++ rest)
goes_on s s' ms ms' rest e = (ap (λ t. get_or t 4 0) e, ap (drop 5) e)

-- where a saved log ends and a longer one goes on, a record stands
no_fault : (b : List ℕ) (s s' : ℕ) (ms ms' : List (List ℕ)) (p q : ℕ) (f : RecordFault) → Savable s ms → Savable s' ms' → take p b ≡ saved s ms → take q b ≡ saved s' ms' → p < q → q ≤ length b → message_of s (drop p b) ≡ Err f → ⊥
no_fault b s s' ms ms' p q f sav sav' tp tq lt le bad =
    let c = take q b in
    let long = length-take-le q b le in
    let split : saved s' ms' ≡ saved s ms ++ drop p c = sym tq ∙ (sym (take-append-drop p c) ∙ ap (λ t. t ++ drop p c) (take-take p q b (omega arith) ∙ tp)) in
    let on = goes_on s s' ms ms' (drop p c) split in
    let left : length (drop p c) ≡ q - p = length-drop p c ∙ omega arith in
    let next = next_record ms ms' (drop p c) sav.short sav'.short on.1 (omega arith) in
    let m = next.0 in
    let whole : drop p b ≡ message_record m ++ (next.1 ++ drop q b) =
    ap (drop p) (sym (take-append-drop q b))
    ∙ (drop-append-le p c (drop q b) (omega arith)
    ∙ (ap (λ t. t ++ drop q b) next.2
    ∙ append_assoc (message_record m) next.1 (drop q b)))
    in
    elim (cases_eq s 0) [
      | inl z ↦
          let none = ap (λ t. length (flat_map message_record t)) (sav'.silent (omega arith)) in
          let all = ap length on.1 ∙ length-append (flat_map message_record ms) (drop p c) in
          omega arith
      | inr nz ↦ cc (sym (ap (message_of s) whole ∙ message_reads_back s m (next.1 ++ drop q b) (omega arith) next.3) ∙ bad)
    ]

pub saved_once : SavedOnce
saved_once s s' ms ms' a b e = (ap (λ t. get_or t 4 0) e, messages_once ms ms' a.short b.short (ap (drop 5) e))

pub saved_is_sound : SavedIsSound
saved_is_sound s ms place sav (front f e) = cc (sym (session_reads_back s (flat_map message_record ms)) ∙ e)
saved_is_sound s ms place sav (later s' ms' p f sav' is lt e) = no_fault (saved s ms) s' s ms' ms p (length (saved s ms)) f sav' sav is (take_all (length (saved s ms)) (saved s ms) (omega arith)) lt (omega arith) e

-- bytes with a saved log at their front have a session record there
fronted : (b : List ℕ) (s : ℕ) (ms : List (List ℕ)) (p : ℕ) (f : RecordFault) → take p b ≡ saved s ms → session_of b ≡ Err f → ⊥
fronted b s ms p f is e =
    let whole : b ≡ session_record s ++ (flat_map message_record ms ++ drop p b) = sym (take-append-drop p b) ∙ ap (λ t. t ++ drop p b) is in
    cc (sym (ap session_of whole ∙ session_reads_back s (flat_map message_record ms ++ drop p b)) ∙ e)

pub broken_once : BrokenOnce
broken_once b x y (front f e) (front f' e') = refl
broken_once b x y (front f e) (later s ms q f' sav is lt e') = absurd (fronted b s ms q f is e)
broken_once b x y (later s ms p f sav is lt e) (front f' e') = absurd (fronted b s ms p f' is e')
broken_once b x y (later s ms p f sav is lt e) (later s' ms' q f' sav' is' lt' e') =
    elim (cases_order p q) [
      | inl same ↦ same
      | inr (inl l) ↦ absurd (no_fault b s s' ms ms' p q f sav sav' is is' l (omega arith) e)
      | inr (inr l) ↦ absurd (no_fault b s' s ms' ms q p f' sav' sav is' is l (omega arith) e')
    ]

pub broken_has_a_fault : BrokenHasAFault
broken_has_a_fault b x (front f e) = ap (λ r. is_some (fault_in r)) e
broken_has_a_fault b x (later s ms p f sav is lt e) =
    let whole : b ≡ saved s ms ++ drop p b = sym (take-append-drop p b) ∙ ap (λ t. t ++ drop p b) is in
    let session : get_or b 4 0 ≡ s = ap (λ t. get_or t 4 0) whole in
    let long : p ≡ length (saved s ms) = sym (length-take-le p b (omega arith)) ∙ ap length is in
    let fault = fault_later b p (λ z. omega arith) (omega arith) (omega arith) in
    ap is_some fault ∙ (ap (λ k. is_some (fault_in (message_of k (drop p b)))) session ∙ ap (λ r. is_some (fault_in r)) e)
