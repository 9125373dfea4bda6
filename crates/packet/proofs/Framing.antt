-- A whole packet at the front of the bytes.
use Rattle.std.proofs.Common.{◌≡◌, ℕ, ◌+◌, ◌-◌, ◌*◌, ◌/◌, ◌%◌, ◌^◌, ◌<◌, ◌≤◌, true, cond, leb, List, ◌++◌, length, get_or, take, drop, Ok, Err, sym, ap, ◌∙◌, arith, length-append}
use Rattle.std.proofs.lemmas.List.{take_at}
use Rattle.std.proofs.lemmas.Bool.{le-ltb, ne_eqb, cond-false, cond-true, and_parts, leb-true}
use Rattle.wire.specs.declared.faults.PacketFault.TheVariants.{WrongLength}
use Rattle.wire.specs.declared.letters.Letter.{Letter}
use Rattle.wire.specs.declared.letters.Letter.TheVariants as L
use Rattle.wire.specs.Limits.{length_limit}
use Rattle.wire.specs.Letters.{letter_byte, shortest, longest, allowed}
use Rattle.wire.proofs.Numbers.{number_little}
use Rattle.wire.specs.Numbers.{little, number}
use Rattle.wire.proofs.Coded.{letter_back}
use Rattle.packet.specs.Values.{framed}
use Rattle.packet.specs.Decoding.{decode, counted, head_number, bodied, opened, content, wholly, next}

-- the limit's number has two bytes: nothing else asks how large the limit is
pub limit_fits : length_limit < 256 ^ 2
limit_fits = omega arith

-- no letter allows more than the limit
pub longest_within : (l : Letter) → longest l ≤ length_limit
longest_within L.LoginRequest = omega arith
longest_within L.LoginResponse = omega arith
longest_within L.Sequenced = omega arith
longest_within L.Unsequenced = omega arith
longest_within L.SynchronizationComplete = omega arith
longest_within L.RetransmissionRequest = omega arith
longest_within L.LogoutRequest = omega arith
longest_within L.GoodBye = omega arith
longest_within L.EndOfSession = omega arith
longest_within L.HubHeartbeat = omega arith
longest_within L.SeatHeartbeat = omega arith
longest_within L.Test = omega arith

-- what `allowed` says
pub record Within (l : Letter) (n : ℕ) : Type 0 where
  pub low : shortest l ≤ n
  pub high : n ≤ longest l
  pub limit : n ≤ length_limit

pub within : (l : Letter) (n : ℕ) → allowed l n ≡ true → Within l n
within l n e =
    let p = and_parts (leb (shortest l) n) (leb n (longest l)) e in
    let h : n ≤ longest l = leb-true n (longest l) p.1 in
    record { low = leb-true (shortest l) n p.0; high = h; limit = omega (arith, longest_within l) }

-- once the length number is good and all that it counts is there, the letter and the body decide
pub decode_whole : (bs : List ℕ) (n : ℕ) → 2 ≤ length bs → Ok n ≡ counted (head_number bs) → n + 2 ≤ length bs → decode bs ≡ wholly (opened (get_or bs 2 0) (take (n - 1) (drop 3 bs)))
unfolding decode
decode_whole bs n h e k =
    cond-false _ _ _ (le-ltb (length bs) 2 h) ∙ ap (λ r. next r (bodied bs)) (sym e) ∙ cond-false _ _ _ (le-ltb (length bs) (n + 2) k)

pub counted_good : (n : ℕ) → 0 < n → n ≤ length_limit → Ok n ≡ counted n
counted_good n l h = sym (cond-false _ _ _ (ne_eqb n 0 (λ e. omega arith)) ∙ cond-false _ _ _ (le-ltb length_limit n h))

-- the head of a packet holds its length number
pub head_of_little : (n : ℕ) → n ≤ length_limit → number (little 2 n) ≡ n
head_of_little n h = omega (arith, number_little 2 n (omega (arith, limit_fits)))

pub decode_framed : (b : ℕ) (body rest : List ℕ) → length body + 1 ≤ length_limit → decode (framed b body ++ rest) ≡ wholly (opened b body)
decode_framed b body rest h =
    let n : ℕ = length body + 1 in
    let bs : List ℕ = framed b body ++ rest in
    let k : length bs ≡ length body + length rest + 3 = omega (arith, length-append body rest) in
    let m : n - 1 ≡ length body = omega arith in
    let t : take (n - 1) (body ++ rest) ≡ body = take_at body rest (n - 1) (sym m) in
    let o : number (little 2 n) ≡ n = head_of_little n h in
    let s : Ok n ≡ counted (number (little 2 n)) = rw o (counted_good n (omega arith) h) in
    decode_whole bs n (omega arith) s (omega arith) ∙ ap (λ (x : List ℕ). wholly (opened b x)) t

-- a known letter and an allowed length leave the content to decide
pub opened_letter : (l : Letter) (b : List ℕ) → allowed l (length b + 1) ≡ true → opened (letter_byte l) b ≡ content l b
opened_letter l b e =
    ap (λ r. next r (λ x. cond (allowed x (length b + 1)) (content x b) (Err WrongLength))) (letter_back l) ∙ cond-true _ _ _ e
