-- What a frame is filled with.
use Rattle.std.specs.Prelude.{◌≡◌, ℕ, cond, ◌&&◌, List, length, take, nat_le}
use Rattle.wire.specs.Limits.{packet_limit}
use Rattle.line.specs.Lines.{LineView}
use Rattle.wire.specs.Overlay.{laid}
use Rattle.rules.specs.Frames.{lack, given, left, Free}

-- how many bytes are wanted behind the first `held` of a frame's buffer
abbrev pub wanted : ℕ → List ℕ → ℕ
wanted held buffer =
    cond (nat_le packet_limit (length buffer) && nat_le held packet_limit) (lack (take held buffer)) 0

-- at most n bytes were taken into a buffer from an offset on, and k came
pub record Filled (before : LineView) (bytes : List ℕ) (at n k : ℕ) (after : LineView) (filled : List ℕ) :
    Type 0 where
  pub count : k ≡ length (given before n)
  pub line : after ≡ left before n after.room
  pub free : Free before n after.room
  pub buffer : filled ≡ laid bytes at (given before n)
