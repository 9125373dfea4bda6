-- What a fill brought: the frame then, and that fewer bytes wait.
use Rattle.std.proofs.Common.{◌≡◌, ℕ, ◌+◌, ◌-◌, ◌<◌, ◌≤◌, min, List, [], ◌∷◌, ◌++◌, length, take, drop, Ok, Err, Result, sym, refl, ap, ◌∙◌, subst, ⊎_elim, append_assoc, arith, length-append, length-drop, length-take}
use Rattle.std.proofs.lemmas.List.{take_at, take-append-drop}
use Rattle.std.proofs.lemmas.Bool.{cond-true, cond-false, cases_lt, le-ltb, le-leb, lt-leb, and_from, and_right}
use Rattle.wire.specs.Limits.{packet_limit}
use Rattle.line.specs.Lines.{LineView, handed}
use Rattle.wire.specs.Overlay.{laid}
use Rattle.rules.specs.declared.answers.Received.{Received}
use Rattle.rules.specs.declared.answers.Received.TheVariants.{Nothing, Part, Acted, Message}
use Rattle.rules.specs.Frames.{lack, given, left, Free}
use Rattle.framing.specs.Filling.{Filled, wanted}
use Rattle.framing.specs.Calling.{Fewer}

-- a frame that is as long as the longest packet lacks nothing
long_lacks : (frame : List ℕ) → packet_limit ≤ length frame → lack frame ≡ 0
long_lacks frame h = cond-false _ _ _ (le-ltb (length frame) 2 (omega arith)) ∙ (omega arith)

-- in a buffer of the longest packet, what is wanted is what the frame lacks
wanted_lack : (n : ℕ) (buf : List ℕ) → packet_limit ≤ length buf → wanted n buf ≡ lack (take n buf)
wanted_lack n buf h =
    ⊎_elim
    (λ (l : packet_limit < n).
    cond-false _ _ _ (and_right _ _ (lt-leb n packet_limit l))
    ∙ sym (long_lacks (take n buf) (simp length-take (omega arith))))
    (λ (l : n ≤ packet_limit). cond-true _ _ _ (and_from _ _ (le-leb packet_limit (length buf) h) (le-leb n packet_limit l)))
    (cases_lt packet_limit n)

-- what came stands behind what was held
frame_more : (n : ℕ) (buf g : List ℕ) → n ≤ length buf → take (n + length g) (laid buf n g) ≡ take n buf ++ g
frame_more n buf g h =
    ap (take (n + length g)) (sym (append_assoc (take n buf) g (drop (length g) (drop n buf))))
    ∙ take_at (take n buf ++ g) (drop (length g) (drop n buf)) (n + length g) (simp (length-append, length-take) (omega arith))

-- the fill, by what the frame lacked
lacked : (v w : LineView) (buf buf' : List ℕ) (n k : ℕ) → packet_limit ≤ length buf → Filled v buf n (wanted n buf) k w buf' → Filled v buf n (lack (take n buf)) k w buf'
lacked v w buf buf' n k h f = subst (λ (i : ℕ). Filled v buf n i k w buf') (wanted_lack n buf h) f

given_length : (v : LineView) (n : ℕ) → length (given v n) ≡ handed v n
given_length v n = length-take (handed v n) v.waiting ∙ (omega arith)

-- the room that it leaves is within the limits of the rules
pub fill_free : (v w : LineView) (buf buf' : List ℕ) (n k : ℕ) → packet_limit ≤ length buf → Filled v buf n (wanted n buf) k w buf' → Free v (lack (take n buf)) w.room
fill_free v w buf buf' n k h f = (lacked v w buf buf' n k h f).free

-- where bytes came, fewer wait
fill_fewer : (v w : LineView) (buf buf' : List ℕ) (n m k : ℕ) → (k ≡ 0 → ⊥) → Filled v buf n m k w buf' → length w.waiting < length v.waiting
fill_fewer v w buf buf' n m k z f =
    let a : length w.waiting ≡ length v.waiting - handed v m = ap (λ (x : LineView). length x.waiting) f.line ∙ length-drop (handed v m) v.waiting in
    let e : k ≡ handed v m = f.count ∙ given_length v m in
    fewer k _ _ m v.limit z e (a ∙ ap (λ (i : ℕ). length v.waiting - i) (sym e))
  where
    fewer : (k a b n m : ℕ) → (k ≡ 0 → ⊥) → k ≡ min (min b n) m → a ≡ b - k → a < b
    fewer k a b n m z e q = omega arith

-- so a receive after it may be followed by another
fewer_any : {E : Type 0} (r : Result Received E) (v w : LineView) → length w.waiting < length v.waiting → Fewer r v w
fewer_any (Ok Nothing) v w h = tt
fewer_any (Ok Part) v w h = h
fewer_any (Ok (Acted letter)) v w h = h
fewer_any (Ok (Message offset long)) v w h = h
fewer_any (Err e) v w h = tt

pub fewer_after : {E : Type 0} (r : Result Received E) (v w : LineView) (buf buf' : List ℕ) (n m k : ℕ) → (k ≡ 0 → ⊥) → Filled v buf n m k w buf' → Fewer r v w
fewer_after r v w buf buf' n m k z f = fewer_any r v w (fill_fewer v w buf buf' n m k z f)

-- No byte came.
pub record CameNone (v w : LineView) (buf buf' : List ℕ) (n : ℕ) : Type 0 where
  pub none : given v (lack (take n buf)) ≡ []
  pub line : w ≡ left v (lack (take n buf)) w.room
  pub buffer : buf' ≡ buf

pub came_none : (v w : LineView) (buf buf' : List ℕ) (n k : ℕ) → packet_limit ≤ length buf → Filled v buf n (wanted n buf) k w buf' → k ≡ 0 → CameNone v w buf buf' n
came_none v w buf buf' n k h f z =
    let q = lacked v w buf buf' n k h f in
    let g : given v (lack (take n buf)) ≡ [] = none_given (given v (lack (take n buf))) (sym q.count ∙ z) in
    record { none = g; line = q.line; buffer = q.buffer ∙ ap (laid buf n) g ∙ take-append-drop n buf }
  where
    none_given : (g : List ℕ) → length g ≡ 0 → g ≡ []
    none_given [] h = refl
    none_given (b ∷ bs) h = absurd (omega arith)

-- Bytes came, behind those that were held.
pub record Came (v w : LineView) (buf buf' : List ℕ) (n k : ℕ) : Type 0 where
  pub some : length (given v (lack (take n buf))) ≡ 0 → ⊥
  pub line : w ≡ left v (lack (take n buf)) w.room
  pub buffer : buf' ≡ laid buf (length (take n buf)) (given v (lack (take n buf)))
  pub frame : take (n + k) buf' ≡ take n buf ++ given v (lack (take n buf))

pub came : (v w : LineView) (buf buf' : List ℕ) (n k : ℕ) → packet_limit ≤ length buf → Filled v buf n (wanted n buf) k w buf' → (k ≡ 0 → ⊥) → Came v w buf buf' n k
came v w buf buf' n k h f z =
    let q = lacked v w buf buf' n k h f in
    let l : ℕ = lack (take n buf) in
    let g : List ℕ = given v l in
    let some : length g ≡ 0 → ⊥ = λ e. z (q.count ∙ e) in
    let inside : n ≤ length buf = within n buf h (λ e. some (given_length v l ∙ ap (handed v) e ∙ (omega arith))) in
    record {
      some = some;
      line = q.line;
      buffer = q.buffer ∙ ap (λ (i : ℕ). laid buf i g) (sym (length-take n buf ∙ (omega arith)));
      frame = ap (take (n + k)) q.buffer ∙ ap (λ (i : ℕ). take (n + i) (laid buf n g)) q.count ∙ frame_more n buf g inside;
    }
  where
    within : (n : ℕ) (buf : List ℕ) → packet_limit ≤ length buf → (lack (take n buf) ≡ 0 → ⊥) → n ≤ length buf
    within n buf h z =
        ⊎_elim (λ (l : length buf < n). absurd (z (long_lacks (take n buf) (simp length-take (omega arith))))) (λ (l : n ≤ length buf). l) (cases_lt (length buf) n)
