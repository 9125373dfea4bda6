-- Laws of runs.
use Rattle.std.proofs.Common.{◌≡◌, ℕ, ◌<◌, ◌≤◌, min, Bool, true, false, cond, List, [], ◌++◌, length, take, drop, Ok, Err, vec_items, Result, sym, refl, ap, ◌∙◌, subst, append_assoc, append-nil, arith, leb-false}
use Rattle.std.proofs.lemmas.List.{nil_from_length, take_at, take_min, drop_at}
use Rattle.std.specs.Result.{is_ok}
use Rattle.wire.specs.declared.refusals.Refusal.{Refusal}
use Rattle.wire.specs.declared.refusals.Refusal.TheVariants.{LineFull}
use Rattle.line.specs.Lines.{LineView, Put, Taken, fits, joined, cleared}
use Rattle.line.proofs.Takes.{taken_whole}
use Rattle.pump.specs.declared.traces.Trace.{Trace}
use Rattle.pump.specs.declared.traces.Act.{Act}
use Rattle.pump.specs.declared.traces.Act.TheVariants as A
use Rattle.pump.specs.Pumping.{Pump, pump, noted, next_piece, Noted, Step, put, refused, took, Steps, none, more, start, Offered, Pumped}

pub steps_then : {input : List ℕ} {size : ℕ} {s t u : Pump} → Steps input size s t → Steps input size t u → Steps input size s u
steps_then a none = a
steps_then a (more b c) = more (steps_then a b) c

abbrev answered : Bool → Result (Unit {0}) Refusal
answered b = cond b (Ok tt) (Err LineFull)

-- what a granted put and a refused put say
granted_by : (b : Bool) (v : LineView) {w : LineView} (p : List ℕ) → Ok tt ≡ answered b → w ≡ cond b (joined v p) v → w ≡ joined v p
granted_by true v p e h = h
granted_by false v p e h = cc

pub granted : {v w : LineView} {p : List ℕ} → Put v p (Ok tt) w → w ≡ joined v p
granted {v} {w} {p} h = granted_by (fits v p) v p h.answer h.after

refused_by : (b : Bool) {e : Refusal} (v : LineView) {w : LineView} (p : List ℕ) → Err e ≡ answered b → w ≡ cond b (joined v p) v →
    (b ≡ false) × (e ≡ LineFull) × (w ≡ v)
refused_by true v p f h = cc
refused_by false v p f h = (refl, cc, h)

pub lacking : {v w : LineView} {p : List ℕ} {e : Refusal} → Put v p (Err e) w → (v.room < length p) × (e ≡ LineFull) × (w ≡ v)
lacking {v} {w} {p} {e} h =
    let r = refused_by (fits v p) v p h.answer h.after in
    (leb-false (length p) v.room r.0, r.1, r.2)

-- What came out, followed by what waits, is what went in.
abbrev pub Whole : Pump → Type 0
Whole s = s.out ++ s.line.waiting ≡ s.fed

step_whole : {input : List ℕ} {size : ℕ} {s t : Pump} → Step input size s t → Whole s → Whole t
step_whole {s = s} (put piece w i p) h =
    ap (λ q. s.out ++ q) (ap (λ v. v.waiting) (granted p))
    ∙ sym (append_assoc s.out s.line.waiting piece)
    ∙ ap (λ q. q ++ piece) h
step_whole (refused piece i p) h = h
step_whole {s = s} (took buffer k w filled i t) h =
    append_assoc s.out (take k s.line.waiting) w.waiting
    ∙ ap (λ q. s.out ++ q) (taken_whole t)
    ∙ h

pub steps_whole : {input : List ℕ} {size : ℕ} {s t : Pump} → Steps input size s t → Whole s → Whole t
steps_whole none h = h
steps_whole (more a b) h = step_whole b (steps_whole a h)

-- The states before and after, put together from what the trace says.
same_pump : {o p : List ℕ} {d e : _} (v : LineView) (fed : List ℕ) → o ≡ p → d ≡ e →
    ◌≡◌ {A = Pump} (record { line = v; fed = fed; out = o; events = d }) (record { line = v; fed = fed; out = p; events = e })
same_pump {o} {p} {d} {e} v fed a b =
    ap (λ q. record { line = v; fed = fed; out = q; events = d }) a ∙ ap (λ q. record { line = v; fed = fed; out = p; events = q }) b

module _ (input : List ℕ) (size : ℕ) (fed : List ℕ) where
  pub did_put : {v w : LineView} {a b : Trace} {piece : List ℕ} → piece ≡ next_piece input size fed →
      Put v piece (Ok tt) w → Noted a A.Put (length piece) w b → Step input size (pump v fed a) (pump w (fed ++ piece) b)
  did_put {v} {w} {a} {b} {piece} i p n =
      subst (λ q. Step input size (pump v fed a) q) (same_pump w (fed ++ piece) (sym n.out) (sym n.events)) (put piece w i p)

  pub did_refuse : {v w : LineView} {a b : Trace} {piece : List ℕ} {e : Refusal} → piece ≡ next_piece input size fed →
      Put v piece (Err e) w → Noted a A.Refused (length piece) w b → Step input size (pump v fed a) (pump w fed b)
  did_refuse {v} {w} {a} {b} {piece} {e} i p n =
      let l = lacking p in
      let q : Put v piece (Err LineFull) v = record { answer = sym (ap Err l.1) ∙ p.answer; after = sym l.2 ∙ p.after } in
      let m : Noted a A.Refused (length piece) v b = subst (λ u. Noted a A.Refused (length piece) u b) l.2 n in
      subst (λ u. Step input size (pump v fed a) (pump u fed b)) (sym l.2)
      (subst (λ u. Step input size (pump v fed a) u) (same_pump v fed (sym m.out) (sym m.events)) (refused piece i q))

  pub did_take : {v w : LineView} (a m : Trace) {b : Trace} {buffer filled : List ℕ} {k : ℕ} → length buffer ≡ size →
      Taken v buffer k w filled → vec_items m.events ≡ vec_items a.events →
      vec_items m.out ≡ vec_items a.out ++ take k v.waiting → Noted m A.Take k w b → Step input size (pump v fed a) (pump w fed b)
  did_take {v} {w} a m {b} {buffer} {filled} {k} l t d o n =
      subst (λ q. Step input size (pump v fed a) q)
      (same_pump w fed (sym (n.out ∙ o)) (sym (n.events ∙ ap (λ q. noted q A.Take k w) d)))
      (took buffer k w filled l t)

-- an offer, by what the line answered
pub offered : {v w : LineView} {a b : Trace} (piece : List ℕ) (r : Result (Unit {0}) Refusal) (granted : Bool) (act : Act) → granted ≡ is_ok r →
    act ≡ cond granted A.Put A.Refused → Put v piece r w → Noted a act (length piece) w b → Offered v a piece granted w b
offered {v} {w} {a} {b} piece (Ok _) true act e f p n = λ input size fed i.
    did_put input size fed i p (subst (λ q. Noted a q (length piece) w b) f n)
offered piece (Ok _) false act e f p n = cc
offered piece (Err _) true act e f p n = cc
offered {v} {w} {a} {b} piece (Err _) false act e f p n = (
  λ input size fed i. did_refuse input size fed i p (subst (λ q. Noted a q (length piece) w b) f n),
  (lacking p).0,
)

-- an offer that was granted, that could not be refused, and that was refused
module _ (v : LineView) (a : Trace) (piece : List ℕ) (w : LineView) (b : Trace) where
  module _ (input : List ℕ) (size : ℕ) (fed : List ℕ) (i : piece ≡ next_piece input size fed) where
    pub went_in : (r : Bool) → r ≡ true → Offered v a piece r w b → Step input size (pump v fed a) (pump w (fed ++ piece) b)
    went_in true e h = h input size fed i
    went_in false e h = cc

    pub fitted : (r : Bool) → length piece ≤ v.room → Offered v a piece r w b → Step input size (pump v fed a) (pump w (fed ++ piece) b)
    fitted true l h = h input size fed i
    fitted false l h = absurd (omega (arith, h.1))

    pub stayed_out : (r : Bool) → r ≡ false → Offered v a piece r w b → Step input size (pump v fed a) (pump w fed b)
    stayed_out true e h = cc
    stayed_out false e h = h.0 input size fed i

-- before the first event
pub begun : (input : List ℕ) (size : ℕ) (v : LineView) (a : Trace) → vec_items a.events ≡ [] → vec_items a.out ≡ [] →
    Steps input size (record { line = v; fed = []; out = []; events = [] }) (pump v [] a)
begun input size v a d o = subst (λ q. Steps input size (start v) q) (same_pump v [] (sym o) (sym d)) none

-- the next piece, as it is cut off what is left
pub next_cut : (input fed rest piece after : List ℕ) (size : ℕ) → fed ++ rest ≡ input → rest ≡ piece ++ after →
    length piece ≡ min size (length rest) → piece ≡ next_piece input size fed
next_cut input fed rest piece after size e p l =
    sym (take_at piece after (length piece) refl)
    ∙ ap (take (length piece)) (sym p)
    ∙ ap (λ n. take n rest) l
    ∙ take_min size rest
    ∙ ap (take size) (sym (drop_at fed rest (length fed) refl) ∙ ap (drop (length fed)) e)

-- after the last one
pub ended : {v c w : LineView} {a : Trace} {input : List ℕ} (size : ℕ) → c ≡ cleared v →
    Steps input size (record { line = c; fed = []; out = []; events = [] }) (pump w input a) → length w.waiting ≡ 0 →
    Pumped v input size a w
ended {v} {c} {w} {a} {input} size e s z =
    let steps : Steps input size (start (cleared v)) (pump w input a) = subst (λ q. Steps input size (start q) (pump w input a)) e s in
    let empty : w.waiting ≡ [] = nil_from_length w.waiting z in
    record {
      steps = steps;
      whole = sym (append-nil (vec_items a.out)) ∙ ap (λ q. vec_items a.out ++ q) (sym empty) ∙ steps_whole steps refl;
      empty = empty;
    }
