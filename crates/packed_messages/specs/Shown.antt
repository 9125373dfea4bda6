-- What `PackedMessages` shows.
use Rattle.std.specs.Prelude.{ℕ}
use Rattle.packed_messages.specs.Packed.{Packed, run_of}
use Rattle.packed_messages.specs.declared.packed.PackedMessages.{PackedMessages}

abbrev pub packed_of : {base gap : ℕ} → PackedMessages base gap → Packed
packed_of p = run_of p.memory.items p.used p.count p.slots p.session
