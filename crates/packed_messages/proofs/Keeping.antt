-- What the facts of `PackedMessages` and of its edges say of the log that it means.
use Rattle.std.proofs.Common.{◌≡◌, ℕ, suc, ◌+◌, ◌-◌, ◌<◌, ◌≤◌, true, false, List, [], ◌∷◌, ◌++◌, length, get_or, take, Ok, Err, sym, ap, ◌∙◌, inl, inr, below_more, arith}
use Rattle.std.specs.List.{between}
use Rattle.std.proofs.lemmas.List.FromFn.{take-map-range_with_len}
use Rattle.std.proofs.lemmas.List.{get_or_past, length-append}
use Rattle.std.proofs.lemmas.Bool.{cases_lt, cases_eq, and_from, and_left, and_right, le-leb, lt-leb, cond-true, cond-false}
use Rattle.wire.specs.declared.refusals.Refusal.TheVariants.{NoSuchMessage}
use Rattle.wire.specs.Limits.{message_limit}
use Rattle.wire.specs.Overlay.{laid}
use Rattle.wire.proofs.Laid.{take_laid, length_laid, laid_laid}
use Rattle.message_log.specs.Meaning.{taken, room, nth, added, Sound}
use Rattle.message_log.specs.Calls.{verdict, takes, has}
use Rattle.message_log.proofs.Verdicts.{verdict_ok}
use Rattle.packed_messages.specs.Bytes.{Bytes}
use Rattle.packed_messages.specs.Packed.{Packed, InRange, part, parts, Edges, kept, offset_of, judged, extended}
use Rattle.packed_messages.specs.Shown.{packed_of}
use Rattle.packed_messages.specs.declared.packed.PackedMessages.{PackedMessages}
use Rattle.packed_messages.proofs.Runs.{bytes_between, between_both}
use Rattle.packed_messages.proofs.Filed.{edge_mono, length_parts, get_or_parts, taken_parts, short_parts, parts_more}

pub in_range : {base gap : ℕ} (p : PackedMessages base gap) → InRange base (packed_of p)
in_range p =
    record { large = p.large; within = omega (arith, p.within, p.memory.ok.0); small = omega (arith, p.small, p.memory.ok.0); placed = p.placed; few = p.few; silent = p.silent }

-- two pieces laid one behind the other are one message more
pub extended_by : (gap : ℕ) (v w x : Packed) (a m : List ℕ) → length a ≡ gap → v.used ≤ length v.memory →
    w ≡ record v { memory = laid v.memory v.used a } →
    x ≡ record w { memory = laid w.memory (v.used + gap) m } →
    record x { used = v.used + gap + length m; count = x.count + 1 } ≡ extended (a ++ m) v
extended_by gap v w x a m long within first second =
    let both = laid_laid v.memory a m v.used (v.used + gap) within (omega arith) in
    let end : v.used + gap + length m ≡ v.used + length (a ++ m) = simp length-append (omega arith) in
    cc

module _ (base gap : ℕ) (v : Packed) (at : ℕ → ℕ) (r : InRange base v) (e : Edges base gap v at) where
  -- the last edge is within the memory
  last_within : at v.count ≤ length v.memory
  last_within = omega (arith, e.last, r.within)

  pub room_kept : room (kept base gap v at) ≡ length v.memory - v.used
  room_kept =
      let all = taken_parts v.memory at gap v.count e.rising last_within in
      omega (arith, all, e.first, e.last, r.large, r.within)

  pub count_kept : length (parts v.memory at gap v.count) ≡ v.count
  count_kept = length_parts v.memory at gap v.count

  pub judged_kept : (n : ℕ) → judged gap v n ≡ takes (kept base gap v at) n
  judged_kept n =
      ap (λ t. verdict v.session t (v.slots - v.count) gap n) (sym room_kept)
      ∙ ap (λ t. verdict v.session (room (kept base gap v at)) (v.slots - t) gap n) (sym count_kept)

  -- there is a message n
  pub has_kept : (n k : ℕ) → n ≡ k + 1 → k < v.count → has (kept base gap v at) n ≡ true
  has_kept n k is h = and_from _ _ (le-leb 1 n (omega arith)) (le-leb n _ (omega (arith, count_kept)))

  -- there is none
  pub hasnt_kept : (n : ℕ) → (0 < n → v.count < n) → has (kept base gap v at) n ≡ false
  hasnt_kept n none =
      elim (cases_eq n 0) [
        | inl z ↦ and_left _ _ (lt-leb 1 n (omega arith))
        | inr nz ↦ let h = none (omega arith) in and_right _ _ (lt-leb n _ (omega (arith, count_kept)))
      ]

  -- where message n begins with its gap: behind what the messages before it take
  pub offset_kept : (n k : ℕ) → n ≡ k + 1 → k < v.count → offset_of base (kept base gap v at) n ≡ Ok (at k)
  offset_kept n k is h =
      let z : n - 1 ≡ k = omega arith in
      let front = take-map-range_with_len (part v.memory at gap) 0 v.count k (omega arith) in
      let top = edge_mono at gap v.count e.rising k (omega arith) in
      let all = taken_parts v.memory at gap k (λ j l. e.rising j (omega arith)) (omega (arith, top, last_within)) in
      let same = ap (taken gap) front in
      let here : base + taken gap (take k (parts v.memory at gap v.count)) ≡ at k = omega (arith, same, all, e.first) in
      cond-true _ _ _ (has_kept n k is h)
      ∙ ap (λ j. Ok (base + taken gap (take j (parts v.memory at gap v.count)))) z
      ∙ ap Ok here

  pub offset_none : (n : ℕ) → (0 < n → v.count < n) → offset_of base (kept base gap v at) n ≡ Err NoSuchMessage
  offset_none n none = cond-false _ _ _ (hasnt_kept n none)

  -- message n lies from behind its gap up to its end
  pub message_kept : (n k : ℕ) → n ≡ k + 1 → k < v.count →
      (between (at k + gap) (at (suc k)) v.memory ≡ nth (kept base gap v at) n)
      × (at k + gap ≤ at (suc k))
      × (at (suc k) ≤ v.used)
  message_kept n k is h =
      let z : n - 1 ≡ k = omega arith in
      let here = get_or_parts v.memory at gap v.count k h in
      let up = e.rising k h in
      let top = edge_mono at gap v.count e.rising (suc k) (omega arith) in
      (sym here ∙ ap (λ j. get_or (parts v.memory at gap v.count) j []) (sym z), omega (arith, up.0), omega (arith, top, e.last))

  pub sound_kept : gap ≤ 4 → Bytes v.memory → v.session < 256 → Sound (kept base gap v at)
  sound_kept small bytes byte =
      let mem = v.memory in
      let n = v.count in
      let all = taken_parts mem at gap n e.rising last_within in
      let past : (k : ℕ) → n ≤ k → get_or (parts mem at gap n) k [] ≡ [] = λ k h. get_or_past (parts mem at gap n) k [] (omega (arith, count_kept)) in
      record {
        fits = omega (arith, all, e.first, last_within, r.large, r.within);
        placed = omega (arith, count_kept, r.placed);
        short = short_parts mem at gap n e.rising last_within;
        bytes = λ k i. elim (cases_lt k n) [
          | inl h ↦ rw (get_or_parts mem at gap n k h) (bytes_between (at k + gap) (at (suc k)) mem bytes i)
          | inr h ↦ rw (past k h) (omega arith)
        ];
        byte = omega arith;
        silent = λ z. ap (parts mem at gap) (r.silent z);
        size_within = omega (arith, r.small);
        overhead_limit = omega arith;
        places_within = omega (arith, r.few);
      }

  -- what is known of a message that is taken
  pub judged_ok : (n : ℕ) → judged gap v n ≡ Ok tt → (n ≤ message_limit) × (v.used + gap + n ≤ length v.memory) × (v.count < v.slots) × (0 < v.session)
  judged_ok n ok =
      let f = verdict_ok v.session (length v.memory - v.used) (v.slots - v.count) gap n ok in
      (f.0, omega (arith, f.1, r.within), omega (arith, f.2), f.3)

  -- one message more, behind the last edge, by edges that go on
  module _ (head m : List ℕ) (at' : ℕ → ℕ) (long : length head ≡ gap) (ok : judged gap v (length m) ≡ Ok tt) (same : (k : ℕ) → k ≤ v.count → at' k ≡ at k) (next : at' (suc v.count) ≡ v.used + gap + length m) where
    pub edges_more : Edges base gap (extended (head ++ m) v) at'
    edges_more =
        let fit = judged_ok (length m) ok in
        let zero = same 0 (omega arith) in
        let z : suc v.count ≡ v.count + 1 = omega arith in
        let all : length (head ++ m) ≡ gap + length m = simp length-append (omega arith) in
        record {
          first = zero ∙ e.first;
          last = sym (ap at' z) ∙ next ∙ omega (arith, all);
          rising =
              below_more _ v.count
              (λ k h.
              let a = same k (omega arith) in
              let b = same (suc k) (omega arith) in
              let c = e.rising k h in
              (omega arith, omega arith))
              (let a = same v.count (omega arith) in
              let b = e.last in
              (omega (arith, a, b, next), omega (arith, a, b, next, fit.0)));
        }

    pub parts_longer : parts (laid v.memory v.used (head ++ m)) at' gap (v.count + 1) ≡ parts v.memory at gap v.count ++ m ∷ []
    parts_longer =
        let fit = judged_ok (length m) ok in
        let front = take_laid v.memory v.used (head ++ m) r.within in
        let put = between_both v.memory head m v.used (v.used + gap) (v.used + gap + length m) (omega arith) (omega arith) fit.1 in
        parts_more v.memory (laid v.memory v.used (head ++ m)) m at at' gap v.count v.used e.rising (sym e.last) same next front put

    pub kept_more : kept base gap (extended (head ++ m) v) at' ≡ added (kept base gap v at) m
    kept_more =
        let fit = judged_ok (length m) ok in
        let size = length_laid v.memory v.used (head ++ m) (simp length-append (omega arith)) in
        let more = parts_longer in
        cc
