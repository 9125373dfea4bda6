-- A straight line keeps the meaning of a line.
use Rattle.std.specs.Prelude.{◌≡◌, ℕ, suc, ◌+◌, ◌-◌, ◌<◌, ◌≤◌, List, ◌∷◌, ◌++◌, length, take, drop, Ok, slice_index_or, slice_range, slice_set}
use Rattle.std.proofs.Common.{sym, ap, ◌∙◌, append_assoc, arith, length-drop, length-take, length-append}
use Rattle.std.proofs.lemmas.List.{drop-append-le, take_at, drop_more, drop-set, drop-take}
use Rattle.line.specs.Lines.{LineView, Sound, Put, Taken}
use Rattle.wire.specs.Overlay.{laid}
use Rattle.line.proofs.Takes.{same_view, put_granted}
use Rattle.lines.specs.Straights.{InOrder, straight_view}

module _ (memory : List ℕ) (size start end : ℕ) (long : length memory ≡ size) (ok : InOrder size start end) where
  pub waits : length (slice_range memory start end) ≡ end - start
  waits = simp (length-take, length-drop) (omega (arith, ok.0, ok.1))

  pub straight_sound : Sound (straight_view memory size start end)
  straight_sound =
      record {
        empty = λ e. let z : end - start ≡ 0 = sym waits ∙ ap length e in
            let q : end ≡ 0 = ok.2 (omega (arith, ok.0)) in omega arith;
        within = omega arith;
        size = ok.3;
        some = omega arith;
      }

  pub straight_put : (piece after : List ℕ) → length piece ≤ size - end →
      after ≡ laid memory end piece →
      Put (straight_view memory size start end) piece (Ok tt) (straight_view after size start (end + length piece))
  straight_put piece after h e =
      let n = length piece in
      let past = drop n (drop end memory) in
      let front = drop start (take end memory) in
      let lt : length (take end memory) ≡ end = simp length-take (omega (arith, ok.1)) in
      let le : start ≤ length (take end memory) = omega (arith, ok.0) in
      let lf : length front ≡ end - start = simp length-drop (omega arith) in
      let ll : length (front ++ piece) ≡ (end + n) - start = simp length-append (omega (arith, ok.0)) in
      let m : end ≡ start + (end - start) = omega (arith, ok.0) in
      put_granted h
      (same_view size 1
      (ap (λ q. slice_range q start (end + n)) e
      ∙ ap (take ((end + n) - start)) (drop-append-le start (take end memory) (piece ++ past) le)
      ∙ ap (take ((end + n) - start)) (sym (append_assoc front piece past))
      ∙ take_at (front ++ piece) past ((end + n) - start) ll
      ∙ ap (λ q. q ++ piece) (ap (λ i. drop start (take i memory)) m ∙ drop-take start (end - start) memory))
      (omega arith))

  -- one byte was taken, and the line is w then
  pub straight_took : (buffer : List ℕ) (x : ℕ) (w : LineView) → start < end → 0 < length buffer →
      x ≡ slice_index_or memory start x →
      w.waiting ≡ take (end - (start + 1)) (drop (start + 1) memory) → size - end ≤ w.room → w.full ≡ size → w.limit ≡ 1 →
      Taken (straight_view memory size start end) buffer 1 w (slice_set buffer 0 x)
  straight_took buffer x w h b i a r f l =
      let rest = take (end - (start + 1)) (drop (start + 1) memory) in
      let m : end - start ≡ suc (end - (start + 1)) = omega arith in
      let here : start < length memory = omega (arith, ok.1) in
      let whole : take (end - start) (drop start memory) ≡ x ∷ rest =
      ap (take (end - start)) (drop_more memory start x here ∙ ap (λ y. y ∷ drop (start + 1) memory) (sym i))
      ∙ ap (λ n. take n (x ∷ drop (start + 1) memory)) m in
      record {
        count = omega (arith, waits);
        front = drop-set buffer 0 x b ∙ ap (λ q. take 1 q ++ drop 1 buffer) (sym whole);
        rest = a ∙ ap (drop 1) (sym whole);
        room = r;
        full = f;
        limit = l;
      }
