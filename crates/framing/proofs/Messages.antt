-- A message of a log, read into the outgoing buffer behind its head.
use Rattle.std.proofs.Common.{◌≡◌, ℕ, ◌+◌, ◌-◌, ◌≤◌, true, List, [], ◌∷◌, ◌++◌, length, take, drop, Ok, Result, sym, ap, ◌∙◌, append-nil, arith, length-drop}
use borrow.Rule.Slice.PartMut.{put_mid}
use Rattle.std.proofs.lemmas.List.{drop-drop, take_rest, drop_all}
use Rattle.std.proofs.lemmas.Bool.{le-leb, le-ltb, cond-true, cond-false}
use Rattle.wire.specs.declared.refusals.Refusal.{Refusal}
use Rattle.wire.specs.Limits.{packet_limit}
use Rattle.wire.specs.Numbers.{little}
use Rattle.wire.proofs.Coded.{cut}
use Rattle.packet.specs.Values.{sequenced, encode}
use Rattle.line.specs.Lines.{LineView}
use Rattle.message_log.specs.Meaning.{Meaning, nth}
use Rattle.message_log.specs.Calls.{has, measured, reads, settled, fronted}
use Rattle.framing.specs.Posting.{posting_message, roomy}

pub message_size : (n : ℕ) (m : List ℕ) → length (encode (sequenced n m)) ≡ length m + 11
unfolding encode
message_size n m = omega arith

-- a message whose length is reported is held
pub held : (l : Meaning) (n k : ℕ) → Ok k ≡ measured l n → (has l n ≡ true) × (k ≡ length (nth l n))
held l n k e = cut (has l n) (Ok (length (nth l n))) _ (Ok k) _ (λ t x. (t, (cc))) (λ t x. (cc)) (sym e)

-- a message that is held goes where there is room, by a buffer that is long enough
pub message_posting : (l : Meaning) (n : ℕ) (d : LineView) (room : ℕ) → has l n ≡ true → packet_limit ≤ room → posting_message l n d room ≡ roomy (sequenced n (nth l n)) d
message_posting l n d room h k = cond-true _ _ _ h ∙ cond-false _ _ _ (le-ltb room packet_limit k)

-- a read of a message into a buffer that is long enough
pub read_held : (l : Meaning) (n : ℕ) (b b' : List ℕ) (r : Result ℕ Refusal) → has l n ≡ true → length (nth l n) ≤ length b → r ≡ reads l n (length b) → b' ≡ settled r (fronted (nth l n) b) b → b' ≡ fronted (nth l n) b
read_held l n b b' r h w e f =
    let a : r ≡ Ok (length (nth l n)) = e ∙ cond-true _ _ _ h ∙ cond-true _ _ _ (le-leb (length (nth l n)) (length b) w) in
    f ∙ ap (λ (x : Result ℕ Refusal). settled x (fronted (nth l n) b) b) a

-- the head is laid, and the message behind it
pub message_laid : (n z : ℕ) (m o t x b b' : List ℕ) (k : ℕ) → z ≡ length m → length m + 11 ≤ length o → t ≡ little 2 (z + 9) ++ (0x53 ∷ little 8 n) → x ≡ fronted t o → k ≡ length o - 11 → b ≡ take k (drop 11 x) → b' ≡ fronted m b → put_mid 11 k x b' ≡ fronted (encode (sequenced n m)) o
unfolding encode
message_laid n z m o t x b b' k y h a e f q w =
    let s : List ℕ = little 2 (z + 9) ++ (0x53 ∷ little 8 n) in
    let e' : x ≡ fronted s o = e ∙ ap (λ (i : List ℕ). fronted i o) a in
    let b0 : b ≡ drop 11 o = q ∙ ap (λ (i : List ℕ). take k (drop 11 i)) e' ∙ ap (λ (i : ℕ). take i (drop 11 o)) f ∙ take_rest o 11 in
    let b1 : b' ≡ m ++ drop (11 + length m) o = w ∙ ap (λ (i : List ℕ). m ++ drop (length m) i) b0 ∙ ap (λ (i : List ℕ). m ++ i) (drop-drop (length m) 11 o) in
    let d0 : drop k (drop 11 o) ≡ [] = drop_all k (drop 11 o) (simp length-drop (omega arith)) in
    let p : put_mid 11 k x b' ≡ s ++ (b' ++ drop k (drop 11 o)) = ap (λ (i : List ℕ). put_mid 11 k i b') e' in
    let p1 : b' ++ drop k (drop 11 o) ≡ b' = ap (λ (i : List ℕ). b' ++ i) d0 ∙ append-nil b' in
    let i0 : 11 + length m ≡ length (encode (sequenced n m)) = omega arith in
    let i1 : z + 9 ≡ length (little 8 n ++ m) + 1 = omega arith in
    p ∙ ap (λ (i : List ℕ). s ++ i) (p1 ∙ b1 ∙ ap (λ (i : ℕ). m ++ drop i o) i0) ∙ ap (λ (i : ℕ). little 2 i ++ (0x53 ∷ (little 8 n ++ (m ++ drop (length (encode (sequenced n m))) o)))) i1
