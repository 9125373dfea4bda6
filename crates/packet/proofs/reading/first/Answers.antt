use Rattle.std.proofs.Common.{ℕ, ◌<◌, length, get_or, rules}
use Rattle.std.proofs.ByRecursion.{All-from_get_or}
use Rattle.packet.proofs.Fronts.{reads}
use Rattle.packet.proofs.reading.first.Goals as goal

pub returns : goal.returns
returns c =
    let bs = c.args.bytes.now in
    let small : (i : ℕ) → i < length bs → get_or bs i 0 < 256 = λ i h. search rules in
    reads bs _ (All-from_get_or _ bs 0 small) c.taken_apart.ensures
