use Rattle.std.proofs.Common.{◌≡◌, ℕ, List, [], ◌++◌, vec_len}
use Rattle.std.specs.Slice.Iter.{chunks_rest, chunks_size}
use Rattle.pump.specs.Pumping.{Steps, pump}
use Rattle.pump.proofs.runs.run.Given as goal

-- What was fed, and what is left of the input, are the input.
abbrev pub invariant-loop-next : goal.invariant-loop-next
invariant-loop-next g l =
    let steps = (goal.iterator-loop-next g) in record {
      can : steps.can_next l.next-iterator;
      ends : steps.is_finite l.next-iterator;
      size : chunks_size l.next-iterator ≡ l.fn.piece.bytes;
      long : vec_len l.pumper.buffer ≡ l.fn.piece.bytes;
      fed : List ℕ;
      whole : fed ++ chunks_rest l.next-iterator ≡ l.input;
      steps : Steps l.input l.fn.piece.bytes (record { line = g.L.Line.view l.initial.line; fed = []; out = []; events = [] })
          (pump (g.L.Line.view l.line) fed l.pumper.trace);
    }
