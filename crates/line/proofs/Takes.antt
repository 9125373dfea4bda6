-- What follows from a take and from a put, whatever the line.
use Rattle.std.proofs.Common.{◌≡◌, ℕ, ◌+◌, ◌-◌, ◌≤◌, true, cond, List, ◌++◌, length, take, drop, Ok, Err, Result, sym, ap, ◌∙◌, append_assoc, arith, length-append, length-drop, length-take, le-leb}
use borrow.Author.Tests.{le-true}
use borrow.Rule.Slice.PartMut.{post_of}
use Rattle.std.proofs.lemmas.List.{take_at, drop_at, drop-drop, drop-append-le, take-append-drop}
use Rattle.wire.specs.declared.refusals.Refusal.{Refusal}
use Rattle.wire.specs.declared.refusals.Refusal.TheVariants.{LineFull}
use Rattle.line.specs.Lines.{LineView, Put, Taken, fits, joined}

abbrev view : List ℕ → ℕ → ℕ → ℕ → LineView
view waiting room full limit = record { waiting = waiting; room = room; full = full; limit = limit }

pub same_view : {w x : List ℕ} {r q : ℕ} (f l : ℕ) → w ≡ x → r ≡ q → view w r f l ≡ view x q f l
same_view {w} {x} {r} {q} f l a b = ap (λ y. view y r f l) a ∙ ap (λ y. view x y f l) b

pub put_after : {v w : LineView} {p : List ℕ} {r : Result (Unit {0}) Refusal} → Put v p r w → length p ≤ v.room → w ≡ joined v p
put_after {v} {w} {p} {r} t h = t.after ∙ ap (λ b. cond b (joined v p) v) (le-leb (length p) v.room h)

-- what a line owes to grant a put
pub put_granted : {v w : LineView} {p : List ℕ} → length p ≤ v.room → w ≡ joined v p → Put v p (Ok tt) w
put_granted {v} {w} {p} h e =
    let f : true ≡ fits v p = le-true (length p) v.room h in
    record {
      answer = ap (λ b. cond b (Ok tt) (Err LineFull)) f;
      after = e ∙ ap (λ b. cond b (joined v p) v) f;
    }

module _ {v w : LineView} {b f : List ℕ} {k : ℕ} (t : Taken v b k w f) where
  pub rest_length : length w.waiting ≡ length v.waiting - k
  rest_length = ap length t.rest ∙ length-drop k v.waiting

  pub front_length : length (take k v.waiting) ≡ k
  front_length = simp length-take (omega (arith, t.count))

  pub taken_whole : take k v.waiting ++ w.waiting ≡ v.waiting
  taken_whole = ap (λ q. take k v.waiting ++ q) t.rest ∙ take-append-drop k v.waiting

-- A take into the first n bytes of a buffer s, as a change of all of it.
module _ {v w : LineView} {f : List ℕ} {k : ℕ} (s : List ℕ) (n : ℕ) (t : Taken v (take n s) k w f) where
  part_most : k ≤ length (take n s)
  part_most = omega (arith, t.count)

  pub part_front : f ++ post_of 0 n s ≡ take k v.waiting ++ drop k s
  part_front =
      ap (λ q. q ++ drop n s) t.front
      ∙ append_assoc (take k v.waiting) (drop k (take n s)) (drop n s)
      ∙ ap (λ q. take k v.waiting ++ q)
      (sym (drop-append-le k (take n s) (drop n s) part_most) ∙ ap (drop k) (take-append-drop n s))

  pub part_length : length (f ++ post_of 0 n s) ≡ length s
  part_length =
      let h = part_most in
      let l = length-take n s in
      ap length part_front ∙ simp (length-append, length-drop) (omega (arith, front_length t))

  -- the piece that came, read back from the buffer
  pub part_piece : take k (f ++ post_of 0 n s) ≡ take k v.waiting
  part_piece = ap (take k) part_front ∙ take_at (take k v.waiting) (drop k s) k (front_length t)

  -- what no take reaches stays
  pub part_rest : (m : ℕ) → k ≤ m → drop m (f ++ post_of 0 n s) ≡ drop m s
  part_rest m h =
      let e : m ≡ k + (m - k) = omega arith in
      ap (drop m) part_front
      ∙ ap (λ i. drop i (take k v.waiting ++ drop k s)) e
      ∙ sym (drop-drop (m - k) k (take k v.waiting ++ drop k s))
      ∙ ap (drop (m - k)) (drop_at (take k v.waiting) (drop k s) k (front_length t))
      ∙ drop-drop (m - k) k s
      ∙ ap (λ i. drop i s) (sym e)
