use Rattle.std.proofs.Common.{◌≡◌, ℕ, ◌+◌, ◌≤◌, min, List, ◌++◌, length, take, ap, ◌∙◌, arith, length-append, length-take}
use borrow.Rule.Slice.PartMut.{post_of}
use Rattle.line.specs.Lines.{LineView, Taken}
use Rattle.line.specs.Transfers.{Moved, Scratch}
use Rattle.line.proofs.Takes.{rest_length, part_length, part_piece, part_rest}
use Rattle.line.proofs.Moves.{moved_more}
use Rattle.line.proofs.transfers.transfer.Goals as goal

-- what moved and what stayed are as long as what waited
lengths : {v d w e : LineView} {n : ℕ} (m : Moved v d n w e) → n + length w.waiting ≡ length v.waiting
lengths {v} {d} {w} {e} {n} m = omega (arith, simp length-append at (ap length m.whole), m.count)

-- one more take leaves of the buffer what no take reaches
scratched : {v d w e x : LineView} {f : List ℕ} {k m : ℕ} (b s : List ℕ) (n : ℕ) → Moved v d m w e → Scratch v b s →
    Taken w (take n s) k x f → Scratch v b (f ++ post_of 0 n s)
scratched {v} {d} {w} {e} {x} {f} {k} {m} b s n a h t =
    let l = length-take n s in
    let most : k ≤ min (length b) v.limit = omega (arith, h.0, t.count, a.limit) in
    (part_length s n t ∙ h.0, part_rest s n t (min (length b) v.limit) most ∙ h.1)

pub loop-from-preserved : goal.loop-from-preserved
loop-from-preserved g c = (
  moved_more _ c.loop-from.invariant.0 c.take-taken.ensures c.put.ensures
      (let p = part_piece c.loop-from.buffer c.min-most.result c.take-taken.ensures in cc)
      (omega (arith, c.take-taken.ensures.count, c.min-most.ensures, c.room.ensures, length-take c.min-most.result c.loop-from.buffer))
      (omega (arith, lengths c.loop-from.invariant.0, rest_length c.take-taken.ensures, c.take-taken.ensures.count)),
  scratched c.args.buffer.now c.loop-from.buffer c.min-most.result c.loop-from.invariant.0 c.loop-from.invariant.1 c.take-taken.ensures,
)
