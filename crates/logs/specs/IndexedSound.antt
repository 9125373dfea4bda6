-- Every indexed log is a sound log.
use Rattle.std.proofs.Common.{arith}
use Rattle.message_log.specs.Meaning.{Sound}
use Rattle.packed_messages.specs.Packed.{edge, kept}
use Rattle.packed_messages.specs.Shown.{packed_of}
use Rattle.packed_messages.proofs.Keeping.{in_range, sound_kept}
use Rattle.logs.specs.declared.indexing.Indexed.{Indexed}

pub indexed_sound : (s : Indexed) → Sound (kept 0 0 (packed_of s.packed) (edge 0 s.ends.items))
indexed_sound s =
    sound_kept 0 0 (packed_of s.packed) (edge 0 s.ends.items) (in_range s.packed) s.edges
    (omega arith) s.packed.bytes s.packed.byte
