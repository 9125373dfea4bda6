-- What a line means, and what each call does to that meaning.
use Rattle.std.specs.Prelude.{◌≡◌, ℕ, ◌-◌, ◌≤◌, min, Bool, cond, List, [], ◌++◌, length, take, drop, Ok, Err, Result, nat_le}
use Rattle.wire.specs.declared.refusals.Refusal.{Refusal}
use Rattle.wire.specs.declared.refusals.Refusal.TheVariants.{LineFull}
use Rattle.line.specs.Sizes.{LineSize}

pub record LineView : Type 0 where
  -- the bytes waiting, the first put first
  pub waiting : List ℕ
  -- how many bytes can be put now
  pub room : ℕ
  -- the full size: the room when nothing waits
  pub full : ℕ
  -- the hand-out limit: the most that one take hands over
  pub limit : ℕ

-- What holds of every line at all times.
pub record Sound (v : LineView) : Type 0 where
  pub empty : v.waiting ≡ [] → v.room ≡ v.full
  pub within : v.room ≤ v.full
  pub size : LineSize v.full
  pub some : 1 ≤ v.limit

-- A line with nothing in it.
abbrev pub fresh : ℕ → ℕ → LineView
fresh full limit = record { waiting = []; room = full; full = full; limit = limit }

-- The line with a piece behind what waits.
abbrev pub joined : LineView → List ℕ → LineView
joined v piece = record v { waiting = v.waiting ++ piece; room = v.room - length piece }

abbrev pub cleared : LineView → LineView
cleared v = record v { waiting = []; room = v.full }

abbrev pub fits : LineView → List ℕ → Bool
fits v piece = nat_le (length piece) v.room

-- A put is granted if the piece is no longer than the room, and only then; a refused one changes nothing.
pub record Put (v : LineView) (piece : List ℕ) (r : Result (Unit {0}) Refusal) (w : LineView) :
    Type 0 where
  pub answer : r ≡ cond (fits v piece) (Ok tt) (Err LineFull)
  pub after : w ≡ cond (fits v piece) (joined v piece) v

-- How many bytes a take hands over: the smallest of what waits, the buffer and the hand-out limit.
abbrev pub handed : LineView → ℕ → ℕ
handed v buffer = min (min (length v.waiting) buffer) v.limit

-- A take of k bytes from a line v into a buffer leaves the line w and the buffer as filled. The room of w is
-- the line's own choice, as long as it does not fall and the line stays sound.
pub record Taken (v : LineView) (buffer : List ℕ) (k : ℕ) (w : LineView) (filled : List ℕ) :
    Type 0 where
  pub count : k ≡ handed v (length buffer)
  pub front : filled ≡ take k v.waiting ++ drop k buffer
  pub rest : w.waiting ≡ drop k v.waiting
  pub room : v.room ≤ w.room
  pub full : w.full ≡ v.full
  pub limit : w.limit ≡ v.limit
