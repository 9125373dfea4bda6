use Rattle.counterexamples.proofs.Refusing.{next_number_passes, refusing_locks_out, refusing_strands}
use Rattle.counterexamples.proofs.refusing_the_next_number_locks_out.Goals as goal

pub returns : goal.returns
returns c = record { passes = next_number_passes; locks = refusing_locks_out; strands = refusing_strands }
