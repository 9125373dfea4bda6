-- A ring keeps the meaning of a line.
use Rattle.std.specs.Prelude.{◌≡◌, ℕ, ◌+◌, ◌-◌, ◌≤◌, min, List, ◌++◌, length, take, drop, Ok, refl}
use Rattle.std.proofs.Common.{sym, ap, subst, ◌∙◌, arith}
use Rattle.std.proofs.lemmas.List.{take_at, drop_at}
use Rattle.wire.specs.Limits.{packet_limit}
use Rattle.line.specs.Lines.{Sound, Put, Taken}
use Rattle.line.proofs.Takes.{same_view, put_granted}
use Rattle.lines.specs.Rings.{InRing, Onward, LaidRound, ringed, ring_view}
use Rattle.lines.specs.RingParts.{ringed_length, ringed_split, ringed_put}

module _ (memory : List ℕ) (size start count : ℕ) (long : length memory ≡ size) (ok : InRing size start count) where
  pub waits : length (ringed memory start count) ≡ count
  waits = ringed_length memory start count (omega (arith, ok.0)) (omega (arith, ok.1))

  pub ring_sound : Sound (ring_view memory size start count)
  ring_sound =
      record {
        empty = λ e. let z : count ≡ 0 = sym waits ∙ ap length e in omega arith;
        within = omega arith;
        size = ok.2;
        some = omega arith;
      }

  pub ring_put : (at : ℕ) (piece after : List ℕ) → length piece ≤ size - count →
      Onward start count size at →
      LaidRound memory at piece after → Put (ring_view memory size start count) piece (Ok tt) (ring_view after size start (count + length piece))
  ring_put at piece after h g l =
      put_granted h
      (same_view size packet_limit
      (ringed_put memory start count at piece after (omega (arith, ok.0)) (omega (arith, ok.1))
      (subst (λ n. Onward start count n at) (sym long) g) l)
      (omega arith))

  pub ring_take : (buffer filled : List ℕ) (k to : ℕ) →
      k ≡ min (min count (length buffer)) packet_limit → Onward start k size to →
      filled ≡ ringed memory start k ++ drop k buffer →
      Taken (ring_view memory size start count) buffer k (ring_view memory size to (count - k)) filled
  ring_take buffer filled k to e g f =
      let kc : k ≤ count = omega arith in
      let rest = ringed memory to (count - k) in
      let whole : ringed memory start count ≡ ringed memory start k ++ rest =
      ringed_split memory start count k to kc (omega (arith, ok.1)) (omega (arith, ok.0))
      (subst (λ n. Onward start k n to) (sym long) g) in
      let lk : length (ringed memory start k) ≡ k = ringed_length memory start k (omega (arith, ok.0)) (omega (arith, ok.1)) in
      record {
        count = e ∙ ap (λ n. min (min n (length buffer)) packet_limit) (sym waits);
        front = f ∙ ap (λ q. q ++ drop k buffer) (sym (ap (take k) whole ∙ take_at (ringed memory start k) rest k lk));
        rest = sym (ap (drop k) whole ∙ drop_at (ringed memory start k) rest k lk);
        room = omega arith;
        full = refl;
        limit = refl;
      }
