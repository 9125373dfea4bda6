-- The steps of a transfer.
use Rattle.std.proofs.Common.{◌≡◌, ℕ, ◌+◌, ◌-◌, ◌≤◌, List, ◌++◌, length, take, Result, ap, ◌∙◌, append_assoc, arith, length-append}
use Rattle.wire.specs.declared.refusals.Refusal.{Refusal}
use Rattle.line.specs.Lines.{LineView, Put, Taken, joined}
use Rattle.line.specs.Transfers.{Moved}
use Rattle.line.proofs.Takes.{same_view, put_after, front_length, taken_whole}

joined_twice : (d : LineView) (p q : List ℕ) → joined (joined d p) q ≡ joined d (p ++ q)
joined_twice d p q =
    same_view d.full d.limit (append_assoc d.waiting p q) (simp length-append (omega arith))

pub moved_more : {v d w e x y : LineView} {b f p : List ℕ} {m k : ℕ} {r : Result (Unit {0}) Refusal} (n : ℕ) →
    Moved v d m w e → Taken w b k x f → Put e p r y → p ≡ take k w.waiting → k ≤ e.room → n ≡ m + k → Moved v d n x y
moved_more {v} {d} {w} {e} {x} {y} {b} {f} {p} {m} {k} {r} n a t u i h z =
    let l : length p ≡ k = ap length i ∙ front_length t in
    let er : e.room ≡ d.room - length a.moved = ap (λ q. q.room) a.there in
    record {
      moved = a.moved ++ p;
      count = simp length-append (omega (arith, a.count));
      whole =
          append_assoc a.moved p x.waiting
          ∙ ap (λ q. a.moved ++ q) (ap (λ q. q ++ x.waiting) i ∙ taken_whole t)
          ∙ a.whole;
      there = put_after u (omega arith) ∙ ap (λ q. joined q p) a.there ∙ joined_twice d a.moved p;
      fits = omega (arith, a.count, a.fits);
      room = omega (arith, a.room, t.room);
      full = t.full ∙ a.full;
      limit = t.limit ∙ a.limit;
    }
