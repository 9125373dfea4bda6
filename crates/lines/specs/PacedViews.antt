-- A pacing layer keeps the meaning of a line, by what the line under it means alone.
use mathlib.Core.Path.{◌≡◌, ap, ◌∙◌}
use mathlib.Core.List.{List, ◌++◌}
use Prim.Native.Nat.{ℕ, min}
use native.Mathlib.Omega.{arith}
use borrow.Rule.Slice.PartMut.{post_of}
use lib.ListN.{length, take, length-take}
use Rattle.line.specs.Lines.{LineView, Sound, Taken}
use Rattle.line.proofs.Takes.{part_front}
use Rattle.line.specs.Sizes.{PieceLength}
use Rattle.lines.specs.Pacing.{paced_view}

pub paced_sound : {v : LineView} {n : ℕ} → Sound v → PieceLength n → Sound (paced_view v n)
paced_sound s p = record { empty = s.empty; within = s.within; size = s.size; some = omega (arith, s.some, p.0) }

-- the smallest of four numbers, however it is found
smallest : (waiting buffer limit pace most : ℕ) → most ≡ min buffer pace →
    min (min waiting most) limit ≡ min (min waiting buffer) (min limit pace)
smallest waiting buffer limit pace most e = omega arith

pub paced_take : {v w : LineView} {f : List ℕ} {k : ℕ} (b : List ℕ) (pace most : ℕ) →
    Taken v (take most b) k w f →
    most ≡ min (length b) pace → Taken (paced_view v pace) b k (paced_view w pace) (f ++ post_of 0 most b)
paced_take {v} {w} {f} {k} b pace most t e =
    let l : length (take most b) ≡ most = length-take most b ∙ omega arith in
    record {
      count =
          t.count
          ∙ ap (λ q. min (min (length v.waiting) q) v.limit) l
          ∙ smallest (length v.waiting) (length b) v.limit pace most e;
      front = part_front b most t;
      rest = t.rest;
      room = t.room;
      full = t.full;
      limit = ap (λ q. min q pace) t.limit;
    }
