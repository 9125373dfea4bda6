-- A take into a part of a frame's buffer.
use Rattle.std.proofs.Common.{◌≡◌, ℕ, ◌+◌, ◌≤◌, List, [], ◌++◌, length, take, drop, sym, ap, ◌∙◌, append_assoc, arith, length-drop, length-take}
use borrow.Rule.Slice.PartMut.{put_mid}
use Rattle.std.proofs.lemmas.List.{drop-append-le, take-append-drop}
use Rattle.line.specs.Lines.{LineView, Sound, Taken, handed}
use Rattle.wire.specs.Overlay.{laid}
use Rattle.rules.specs.Frames.{given}
use Rattle.framing.specs.Filling.{Filled}

pub taken_at : (v w : LineView) (f b : List ℕ) (at n k : ℕ) → Sound w → w.room ≤ w.full → at + n ≤ length f → Taken v (take n (drop at f)) k w b → Filled v f at n k w (put_mid at n f b)
taken_at v w f b at n k s r h t =
    let x : List ℕ = drop at f in
    let lx : length (take n x) ≡ n = length-take n x ∙ (simp length-drop (omega arith)) in
    let e : k ≡ handed v n = t.count ∙ ap (handed v) lx in
    let p : List ℕ = given v n in
    let q : take k v.waiting ≡ p = ap (λ (i : ℕ). take i v.waiting) e in
    let lp : length p ≡ k = length-take (handed v n) v.waiting ∙ (omega arith) in
    let kn : k ≤ length (take n x) = omega (arith, t.count) in
    let rest : drop k (take n x) ++ drop n x ≡ drop (length p) x =
    sym (drop-append-le k (take n x) (drop n x) kn) ∙ ap (drop k) (take-append-drop n x) ∙ ap (λ (i : ℕ). drop i x) (sym lp) in
    let w0 : w.waiting ≡ drop (handed v n) v.waiting = t.rest ∙ ap (λ (i : ℕ). drop i v.waiting) e in
    record {
      count = sym lp;
      line =
          ap (λ (z : List ℕ). record { waiting = z; room = w.room; full = w.full; limit = w.limit }) w0
          ∙ ap (λ (z : ℕ). record { waiting = drop (handed v n) v.waiting; room = w.room; full = z; limit = w.limit }) t.full
          ∙ ap (λ (z : ℕ). record { waiting = drop (handed v n) v.waiting; room = w.room; full = v.full; limit = z }) t.limit;
      free = record { grows = t.room; within = omega (arith, r, t.full); empty = λ z. s.empty (w0 ∙ z) ∙ t.full };
      buffer =
          ap (λ (z : List ℕ). take at f ++ (z ++ drop n x)) (t.front ∙ ap (λ (z : List ℕ). z ++ drop k (take n x)) q)
          ∙ ap (λ (z : List ℕ). take at f ++ z) (append_assoc p (drop k (take n x)) (drop n x) ∙ ap (λ (z : List ℕ). p ++ z) rest);
    }

-- nothing is wanted, and nothing is touched
pub untaken : (v : LineView) (f : List ℕ) (at n : ℕ) → Sound v → v.room ≤ v.full → n ≡ 0 → Filled v f at n 0 v f
untaken v f at n s r e =
    let z : handed v n ≡ 0 = omega arith in
    let g : given v n ≡ [] = ap (λ (i : ℕ). take i v.waiting) z in
    let w : drop (handed v n) v.waiting ≡ v.waiting = ap (λ (i : ℕ). drop i v.waiting) z in
    record {
      count = sym (ap length g);
      line = ap (λ (i : List ℕ). record { waiting = i; room = v.room; full = v.full; limit = v.limit }) (sym w);
      free = record { grows = omega arith; within = r; empty = λ q. s.empty (sym w ∙ q) };
      buffer = sym (ap (laid f at) g ∙ take-append-drop at f);
    }
