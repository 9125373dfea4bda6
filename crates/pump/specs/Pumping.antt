-- What a run is: steps of a line, each with its event in the trace.
use Rattle.std.specs.Prelude.{◌≡◌, ℕ, ◌<◌, Bool, true, false, List, [], ◌∷◌, ◌++◌, length, take, drop, Ok, Err, vec_items}
use Rattle.wire.specs.declared.refusals.Refusal.TheVariants.{LineFull}
use Rattle.line.specs.Lines.{LineView, Put, Taken, cleared}
use Rattle.pump.specs.declared.traces.Trace.{Trace}
use Rattle.pump.specs.declared.traces.Act.{Act}
use Rattle.pump.specs.declared.traces.Act.TheVariants as A
use Rattle.pump.specs.declared.traces.Event.{Event}

-- A line in a run, with what was put into it so far, what came out, and the events.
pub record Pump : Type 0 where
  pub line : LineView
  pub fed : List ℕ
  pub out : List ℕ
  pub events : List Event

-- The event: what was done, with how many bytes, and what waits and the room after it.
abbrev pub noted : List Event → Act → ℕ → LineView → List Event
noted events act n w =
    events
    ++ record { act = act; bytes = n; waiting = length w.waiting; room = w.room } ∷ []

-- The piece of the input that comes after what was fed: a whole one, or what is left.
abbrev pub next_piece : List ℕ → ℕ → List ℕ → List ℕ
next_piece input size fed = take size (drop (length fed) input)

abbrev pub after_put : Pump → List ℕ → LineView → Pump
after_put s piece w =
    let events = noted s.events A.Put (length piece) w in
    record s { line = w; fed = s.fed ++ piece; events = events }

abbrev pub after_refusal : Pump → List ℕ → Pump
after_refusal s piece = record s { events = noted s.events A.Refused (length piece) s.line }

abbrev pub after_take : Pump → ℕ → LineView → Pump
after_take s k w =
    let out = s.out ++ take k s.line.waiting in
    record s { line = w; out = out; events = noted s.events A.Take k w }

-- One step with pieces and a buffer of one size: the next piece was put, it was refused, or a take was made.
pub data Step (input : List ℕ) (size : ℕ) (s : Pump) : Pump → Type 0 where
  put : (piece : List ℕ) (w : LineView) → piece ≡ next_piece input size s.fed →
      Put s.line piece (Ok tt) w → Step input size s (after_put s piece w)
  refused : (piece : List ℕ) → piece ≡ next_piece input size s.fed →
      Put s.line piece (Err LineFull) s.line → Step input size s (after_refusal s piece)
  took : (buffer : List ℕ) (k : ℕ) (w : LineView) (filled : List ℕ) → length buffer ≡ size →
      Taken s.line buffer k w filled → Step input size s (after_take s k w)

-- Steps one after the other.
pub data Steps (input : List ℕ) (size : ℕ) (s : Pump) : Pump → Type 0 where
  none : Steps input size s s
  more : {t u : Pump} → Steps input size s t → Step input size t u → Steps input size s u

abbrev pub pump : LineView → List ℕ → Trace → Pump
pump v fed trace =
    record { line = v; fed = fed; out = vec_items trace.out; events = vec_items trace.events }

-- before the first event
abbrev pub start : LineView → Pump
start v = record { line = v; fed = []; out = []; events = [] }

-- An event was added.
pub record Noted (a : Trace) (act : Act) (n : ℕ) (v : LineView) (b : Trace) : Type 0 where
  pub events : vec_items b.events ≡ noted (vec_items a.events) act n v
  pub out : vec_items b.out ≡ vec_items a.out

-- A piece was offered: it went in, or it did not fit and nothing changed but the trace.
abbrev pub Offered : LineView → Trace → List ℕ → Bool → LineView → Trace → Type 0
Offered v a piece true w b =
    (input : List ℕ) (size : ℕ) (fed : List ℕ) → piece ≡ next_piece input size fed →
    Step input size (pump v fed a) (pump w (fed ++ piece) b)
Offered v a piece false w b =
    ((input : List ℕ) (size : ℕ) (fed : List ℕ) → piece ≡ next_piece input size fed →
    Step input size (pump v fed a) (pump w fed b))
    × (v.room < length piece)

-- A whole run with a line v that is w then: the trace's events are what happened from the cleared line on,
-- what came out is the input, and nothing waits.
pub record Pumped (v : LineView) (input : List ℕ) (size : ℕ) (trace : Trace) (w : LineView) :
    Type 0 where
  pub steps : Steps input size (start (cleared v)) (pump w input trace)
  pub whole : vec_items trace.out ≡ input
  pub empty : w.waiting ≡ []
