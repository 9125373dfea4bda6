-- Every journal is a sound log.
use Rattle.std.proofs.Common.{arith}
use Rattle.message_log.specs.Meaning.{Sound}
use Rattle.packed_messages.specs.Shown.{packed_of}
use Rattle.packed_messages.proofs.Keeping.{in_range, sound_kept}
use Rattle.logs.specs.Layout.{base, gap, walked, recorded}
use Rattle.logs.specs.declared.journals.Journal.{Journal}

pub journal_sound : (s : Journal) → Sound (recorded (packed_of s.packed))
journal_sound s =
    sound_kept base gap (packed_of s.packed) (walked s.packed.memory.items) (in_range s.packed) s.edges
    (omega arith) s.packed.bytes s.packed.byte
