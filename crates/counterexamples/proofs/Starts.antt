-- The pairs that the runs start from are set up.
use Rattle.std.proofs.Common.{◌≡◌, ℕ, zero, suc, ◌<◌, ◌≤◌, Bool, true, ◌&&◌, ltb, List, [], ◌∷◌, length, get_or, refl, inl, arith}
use Rattle.std.specs.List.{AllByRecursion as All}
use Rattle.std.proofs.lemmas.Bool.{and_parts, ltb-true}
use Rattle.wire.specs.Limits.{message_limit, packet_limit}
use Rattle.rules.specs.State as Line
use Rattle.message_log.specs.Meaning as Log
use Rattle.rules.specs.State.{Buffers}
use Rattle.promises.specs.Book.{Message}
use Rattle.promises.specs.Runs.{SetUp}
use Rattle.counterexamples.specs.Setting.{line_of, log_of, starting_with}

-- what holds of each element, and of what stands for none, holds at every index
at_every : {X : Type 0} (P : X → Type 0) (d : X) (xs : List X) → P d → All P xs → (k : ℕ) → P (get_or xs k d)
at_every P d [] p a k = p
at_every P d (x ∷ xs) p a zero = a.0
at_every P d (x ∷ xs) p a (suc k) = at_every P d xs p a.1 k

-- a message that a log can hold
pub record Fair (m : Message) : Type 0 where
  pub short : length m ≤ message_limit
  pub bytes : (i : ℕ) → get_or m i 0 < 256

abbrev pub are_bytes : List ℕ → Bool
are_bytes [] = true
are_bytes (b ∷ bs) = ltb b 256 && are_bytes bs

all_bytes : (bs : List ℕ) → are_bytes bs ≡ true → All (λ b. b < 256) bs
all_bytes [] e = tt
all_bytes (b ∷ bs) e = let p = and_parts (ltb b 256) (are_bytes bs) e in (ltb-true b 256 p.0, all_bytes bs p.1)

pub fair : (m : Message) → length m ≤ message_limit → are_bytes m ≡ true → Fair m
fair m h e = record { short = h; bytes = at_every (λ b. b < 256) 0 m (omega arith) (all_bytes m e) }

pub nothing_fair : Fair []
nothing_fair = record { short = omega arith; bytes = λ i. omega arith }

log_sound : (session : ℕ) (messages : List Message) → session ≤ 255 → (session ≡ 0 → messages ≡ []) → Log.taken 0 messages ≤ 65536 → length messages ≤ 1000 → All Fair messages → Log.Sound (log_of session messages)
log_sound session messages byte silent fits placed a =
    record {
      fits = fits;
      placed = placed;
      short = λ k. (at_every Fair [] messages nothing_fair a k).short;
      bytes = λ k. (at_every Fair [] messages nothing_fair a k).bytes;
      byte = byte;
      silent = silent;
      size_within = omega arith;
      overhead_limit = omega arith;
      places_within = omega arith;
    }

line_sound : (limit : ℕ) → 1 ≤ limit → Line.Steady (line_of limit [])
line_sound limit h = record { sound = record { empty = λ e. refl; within = omega arith; size = (omega arith, omega arith); some = h }; within = omega arith }

pub set_up_lem : (messages : List Message) (limit : ℕ) (b : Buffers) → 1 ≤ limit → Log.taken 0 messages ≤ 65536 → length messages ≤ 1000 → All Fair messages → SetUp (starting_with messages limit b)
set_up_lem messages limit b h fits placed a =
    record {
      shut = refl;
      apart = refl;
      unreported = refl;
      hub_log_sound = log_sound 1 messages (omega arith) (λ e. absurd (omega arith)) fits placed a;
      begun = omega arith;
      seat_log_sound = log_sound 0 [] (omega arith) (λ e. refl) (omega arith) (omega arith) tt;
      follows = inl (refl, refl);
      up_line = line_sound packet_limit (omega arith);
      down_line = line_sound limit h;
      user = refl;
      computer = refl;
      protocol = refl;
    }
