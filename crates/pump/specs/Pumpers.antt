-- What a pumper does with a line: steps, each with its event in the trace. The buffer keeps its length.
use Rattle.std.specs.Prelude.{◌≡◌, ℕ, ◌+◌, List, ◌++◌, length, vec_len}
use Rattle.line.specs.Lines.{LineView, handed}
use Rattle.pump.specs.declared.pumpers.Pumper.{Pumper}
use Rattle.pump.specs.Pumping.{Step, Steps, pump, next_piece}

-- One take into its buffer.
pub record Drew (v : LineView) (p : Pumper) (w : LineView) (q : Pumper) : Type 0 where
  pub step : (input fed : List ℕ) →
      Step input (vec_len p.buffer) (pump v fed p.trace) (pump w fed q.trace)
  pub fewer : length w.waiting + handed v (vec_len p.buffer) ≡ length v.waiting
  pub long : vec_len q.buffer ≡ vec_len p.buffer

-- Any number of them.
pub record Drawn (v : LineView) (p : Pumper) (w : LineView) (q : Pumper) : Type 0 where
  pub steps : (input fed : List ℕ) →
      Steps input (vec_len p.buffer) (pump v fed p.trace) (pump w fed q.trace)
  pub long : vec_len q.buffer ≡ vec_len p.buffer

-- A piece went in, in the end.
pub record Sent (v : LineView) (p : Pumper) (piece : List ℕ) (w : LineView) (q : Pumper) :
    Type 0 where
  pub steps : (input fed : List ℕ) → piece ≡ next_piece input (vec_len p.buffer) fed →
      Steps input (vec_len p.buffer) (pump v fed p.trace) (pump w (fed ++ piece) q.trace)
  pub long : vec_len q.buffer ≡ vec_len p.buffer
