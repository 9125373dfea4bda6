-- What a verdict says of the message.
use Rattle.std.proofs.Common.{◌≡◌, ℕ, ◌+◌, ◌<◌, ◌≤◌, Ok, rules}
use Rattle.wire.specs.Limits.{message_limit}
use Rattle.message_log.specs.Calls.{verdict}

pub verdict_ok : (s free left over n : ℕ) → verdict s free left over n ≡ Ok tt → (n ≤ message_limit) × (n + over ≤ free) × (0 < left) × (0 < s)
verdict_ok s free left over n e = search rules
