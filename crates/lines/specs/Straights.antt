-- Memory that is filled from the front, as a line.
use Rattle.std.specs.Prelude.{◌≡◌, ℕ, ◌-◌, ◌≤◌, cond, List, length, take, drop, ◌==◌}
use Rattle.line.specs.Lines.{LineView}
use Rattle.line.specs.Sizes.{LineSize}

-- What waits stands between `start` and `end`; once nothing waits, both are at the front.
abbrev pub InOrder : ℕ → ℕ → ℕ → Type 0
InOrder size start end = (start ≤ end) × (end ≤ size) × (start ≡ end → end ≡ 0) × LineSize size

-- The meaning of a straight line: the room is what lies behind the end, the limit is one byte.
abbrev pub straight_view : List ℕ → ℕ → ℕ → ℕ → LineView
straight_view memory size start end =
    record {
      waiting = take (end - start) (drop start memory);
      room = size - end;
      full = size;
      limit = 1;
    }

-- A take gives room back only when nothing waits any more, and then all of it.
abbrev pub FreesOnceEmpty : LineView → LineView → Type 0
FreesOnceEmpty before after =
    after.room ≡ cond (length after.waiting == 0) after.full before.room
