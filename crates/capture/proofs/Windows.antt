-- A frame's bytes after a pass.
use Rattle.std.proofs.Common.{◌≡◌, ℕ, ◌+◌, ◌-◌, ◌≤◌, min, List, take, drop, sym, ap, ◌∙◌, inl, inr, arith, length-take}
use Rattle.std.proofs.lemmas.List.{drop-take, drop-drop, drop_all}
use Rattle.std.proofs.lemmas.Bool.{cases_lt}
use Rattle.capture.specs.Windows.{window}

pub window_pass : (m : List ℕ) (from to k count : ℕ) → from ≤ to → k ≡ min count (to - from) → window m (from + k) to ≡ drop count (window m from to)
window_pass m from to k count h e =
    let held : ℕ = to - from in
    elim (cases_lt held count) [
      | inl l ↦
          let a : to - (from + k) ≡ 0 = omega arith in
          ap (λ (i : ℕ). take i (drop (from + k) m)) a ∙ sym (drop_all count (window m from to) (simp length-take (omega arith)))
      | inr l ↦
          let rest : ℕ = held - count in
          let b : k ≡ count = omega arith in
          let t : drop count (take (count + rest) (drop from m)) ≡ take rest (drop count (drop from m)) = drop-take count rest (drop from m) in
          let u : count + rest ≡ held = omega arith in
          let w : to - (from + k) ≡ rest = omega arith in
          ap (λ (i : ℕ). take i (drop (from + k) m)) w
          ∙ ap (λ (i : ℕ). take rest (drop (from + i) m)) b
          ∙ sym (ap (take rest) (drop-drop count from m))
          ∙ sym t
          ∙ ap (λ (i : ℕ). drop count (take i (drop from m))) u
    ]
