-- The steps of an explainer, each as a run that goes on.
use Rattle.std.proofs.Common.{◌≡◌, ℕ, ◌+◌, ◌-◌, ◌^◌, ◌<◌, min, List, [], ◌∷◌, ◌++◌, length, drop, replicate, Some, None, Ok, Err, Option, Result, sym, refl, ap, ◌∙◌, subst, arith, length-append, length-drop}
use Rattle.std.specs.List.{flat_map}
use Rattle.std.proofs.lemmas.List.{append-nil, take-append-drop, flat_map_more}
use Rattle.std.specs.declared.io.Error.{Error}
use Rattle.wire.specs.declared.faults.Fault.{Fault}
use Rattle.wire.specs.declared.faults.Fault.TheVariants as F
use Rattle.packet.specs.Values.{Value, encode, letter}
use Rattle.packet.specs.Decoding.{decode}
use Rattle.capture.specs.Finding.{Part, PacketAt, FindsFirst}
use Rattle.capture.specs.Runs.{Run, start, came, shown}
use Rattle.packet.specs.LetterCounts.{raised}
use Rattle.capture.specs.declared.endings.Ending.{Ending}
use Rattle.capture.specs.declared.endings.Ending.TheVariants as E
use Rattle.capture.specs.declared.explainers.Explainer.{Explainer}
use Rattle.capture.specs.Explained.{Knows, Went, Turned, More, Ends, Fresh, Reached, Explained, tallied}

found_fault : (held : List ℕ) (fault : Fault) → FindsFirst held (Err fault) → Ends held (E.Fault fault)
found_fault held (F.Packet fault) e = e
found_fault held (F.Log fault) e = e

tallied_push : (counts : List ℕ) (vs : List Value) (v : Value) → tallied counts (vs ++ v ∷ []) ≡ raised (tallied counts vs) (letter v)
tallied_push counts [] v = refl
tallied_push counts (x ∷ xs) v = tallied_push (raised counts (letter x)) xs v

stay : {old new : Explainer} → new.frame ≡ old.frame → new.tally.counts ≡ old.tally.counts → new.offset ≡ old.offset → (bs : List ℕ) (vs : List Value) → Run bs vs old.frame → Knows vs old.tally.counts old.offset → Went bs vs new
stay {old} {new} e c o bs vs r k =
    let r' : Run bs vs new.frame = subst (λ (x : List ℕ). Run bs vs x) (sym e) r in
    record {
      more = [];
      packets = vs;
      run = subst (λ (x : List ℕ). Run x vs new.frame) (sym (append-nil bs)) r';
      knows = record { counted = c ∙ k.counted; reached = o ∙ k.reached };
    }

-- a fault, or an output that takes no more: nothing has changed
pub turned_fault : (e : Explainer) (fault : Fault) → FindsFirst e.frame (Err fault) → Turned e e (Ok (Some (E.Fault fault)))
turned_fault e fault h bs vs r k = (stay refl refl refl bs vs r k, found_fault e.frame fault h)

pub turned_error : (e : Explainer) (error : Error) → Turned e e (Err error)
turned_error e error bs vs r k = (stay refl refl refl bs vs r k, tt)

module _ (old new : Explainer) where
  -- a read leaves the counts and the offset
  pub turned_more : (r : Result (Option Ending) Error) → Part old.frame → new.tally.counts ≡ old.tally.counts → new.offset ≡ old.offset → More old.frame new.frame r → Turned old new r
  turned_more (Ok None) p c o (n, g, h) bs vs r k =
      let m : List ℕ = drop (length old.frame) new.frame in
      let e : old.frame ++ m ≡ new.frame = ap (λ (x : List ℕ). x ++ m) (sym g.kept) ∙ take-append-drop (length old.frame) new.frame in
      let l : 0 < length m = simp length-drop (omega (arith, g.more)) in (
        record {
          more = m;
          packets = vs;
          run = subst (λ (x : List ℕ). Run (bs ++ m) vs x) e (came r m);
          knows = record { counted = c ∙ k.counted; reached = o ∙ k.reached };
        },
        omega (arith, length-append bs m),
      )
  turned_more (Ok (Some E.Clean)) p c o (e, z) bs vs r k = (stay e c o bs vs r k, z)
  turned_more (Ok (Some (E.Part n))) p c o (e, l, h) bs vs r k = (stay e c o bs vs r k, (h, l, ap decode e ∙ p.is))
  turned_more (Ok (Some (E.Fault fault))) p c o h bs vs r k = absurd h
  turned_more (Err error) p c o e bs vs r k = (stay e c o bs vs r k, tt)

  -- a packet
  pub turned_told : (v : Value) (size : ℕ) → PacketAt old.frame v size → new.frame ≡ drop size old.frame → new.tally.counts ≡ raised old.tally.counts (letter v) → new.offset ≡ min (old.offset + size) (2 ^ 64 - 1) → Turned old new (Ok None)
  turned_told v size p e c o bs vs r k =
      let ws : List Value = vs ++ v ∷ [] in
      let w : new.frame ≡ drop (length (encode v)) old.frame = e ∙ ap (λ (i : ℕ). drop i old.frame) p.takes in
      let j : flat_map encode vs ++ encode v ≡ flat_map encode ws = flat_map_more encode [] vs v in
      let l : length (flat_map encode ws) ≡ length (flat_map encode vs) + size = ap length (sym j) ∙ length-append (flat_map encode vs) (encode v) ∙ ap (λ (i : ℕ). length (flat_map encode vs) + i) (sym p.takes) in
      let next : Run bs ws new.frame = subst (λ (x : List ℕ). Run bs ws x) (sym w) (shown r v p.is) in (
        record {
          more = [];
          packets = ws;
          run = subst (λ (x : List ℕ). Run x ws new.frame) (sym (append-nil bs)) next;
          knows = record { counted = c ∙ ap (λ (x : List ℕ). raised x (letter v)) k.counted ∙ sym (tallied_push (replicate 12 0) vs v); reached = o ∙ (omega (arith, k.reached)) };
        },
        omega (arith, length-append bs [], length-append vs (v ∷ [])),
      )

-- a whole capture
pub reached_none : (e : Explainer) → Fresh e → Reached e
reached_none e (h, c, o) =
    record { bytes = []; packets = []; run = subst (λ (x : List ℕ). Run [] [] x) (sym h) start; knows = record { counted = c; reached = o } }

module _ (old new : Explainer) (so_far : Reached old) where
  pub reached_more : (r : Result (Option Ending) Error) → Turned old new r → Reached new
  reached_more r t =
      let w = (t so_far.bytes so_far.packets so_far.run so_far.knows).0 in
      record { bytes = so_far.bytes ++ w.more; packets = w.packets; run = w.run; knows = w.knows }

  pub reached_end : (o : Option Ending) (ending : Ending) → o ≡ Some ending → Turned old new (Ok o) → Explained (record { tally = new.tally; offset = new.offset; ending = ending })
  reached_end o ending e t =
      let u = subst (λ (x : Option Ending). Turned old new (Ok x)) e t in
      record { held = new.frame; reached = reached_more (Ok (Some ending)) u; ends = (u so_far.bytes so_far.packets so_far.run so_far.knows).1 }
