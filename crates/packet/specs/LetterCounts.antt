-- A count for each letter.
use Rattle.std.specs.Prelude.{ℕ, ◌+◌, ◌-◌, ◌^◌, min, List, slice_index, slice_set}
use Rattle.wire.specs.declared.letters.Letter.{Letter}
use Rattle.wire.specs.declared.letters.Letter.TheVariants as L

-- where a letter's count stands
abbrev pub ordinal : Letter → ℕ
ordinal L.LoginRequest = 0
ordinal L.LoginResponse = 1
ordinal L.Sequenced = 2
ordinal L.Unsequenced = 3
ordinal L.SynchronizationComplete = 4
ordinal L.RetransmissionRequest = 5
ordinal L.LogoutRequest = 6
ordinal L.GoodBye = 7
ordinal L.EndOfSession = 8
ordinal L.HubHeartbeat = 9
ordinal L.SeatHeartbeat = 10
ordinal L.Test = 11

-- one more of a letter, up to the largest count
abbrev pub raised : List ℕ → Letter → List ℕ
raised counts l =
    slice_set counts (ordinal l) (min (slice_index counts (ordinal l) + 1) (2 ^ 64 - 1))
