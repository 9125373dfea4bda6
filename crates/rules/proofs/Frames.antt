-- A frame that is a part of a packet, in its buffer.
use Rattle.std.proofs.Common.{◌≡◌, ℕ, ◌+◌, ◌-◌, ◌<◌, ◌≤◌, min, Bool, true, false, ltb, List, [], length, get_or, take, drop, Ok, Err, Result, sym, refl, ◌∙◌, ⊎_elim, arith, length-append, length-drop, length-take}
use Rattle.std.proofs.lemmas.Bool.{cases_lt, cond-true, cond-false, lt-ltb, le-ltb, ltb-true}
use Rattle.wire.specs.declared.faults.PacketFault.{PacketFault}
use Rattle.wire.specs.declared.faults.PacketFault.TheVariants.{WrongLength, WrongContent}
use Rattle.wire.specs.Limits.{length_limit, packet_limit}
use Rattle.wire.proofs.Coded.{cut}
use Rattle.packet.specs.Decoding.{Decoded, part, whole, head_number, counted, bodied, opened, wholly, decode}
use Rattle.packet.proofs.Forth.{counted_forth, took}
use Rattle.packet.proofs.Fronts.{decode_short, decode_head}
use Rattle.line.specs.Lines.{LineView, handed}
use Rattle.wire.specs.Overlay.{laid}
use Rattle.rules.specs.Frames.{lack, given, placed}
use Rattle.rules.specs.Laws.{PartsLack}

-- the length number of a part with a head is a good one, and counts more than is there
part_head : (f : List ℕ) → decode f ≡ Ok part → 2 ≤ length f → (length f < head_number f + 2) × (head_number f ≤ length_limit)
part_head f e two =
    took (counted (head_number f)) (bodied f) part ((length f < head_number f + 2) × (head_number f ≤ length_limit))
    (λ n q. let c = counted_forth (head_number f) n q in
    cut (ltb (length f) (n + 2)) (Ok part) (wholly (opened (get_or f 2 0) (take (n - 1) (drop 3 f)))) (Ok part) ((length f < head_number f + 2) × (head_number f ≤ length_limit))
    (λ t u. (omega (arith, ltb-true (length f) (n + 2) t, c.0), c.2))
    (λ t. took (opened (get_or f 2 0) (take (n - 1) (drop 3 f))) _ part ((length f < head_number f + 2) × (head_number f ≤ length_limit)) (λ v x y. (cc))))
    (sym (decode_head f two) ∙ e)

pub parts_lack : PartsLack
parts_lack f e =
    ⊎_elim
    (λ h. let l : lack f ≡ 2 - length f = cond-true _ _ _ (lt-ltb (length f) 2 h) in (omega arith, omega arith))
    (λ h. let l : lack f ≡ min (head_number f + 2) packet_limit - length f = cond-false _ _ _ (le-ltb (length f) 2 h) in
    let p = part_head f e h in (omega (arith, p.0), omega (arith, p.0, p.1)))
    (cases_lt (length f) 2)

-- whatever letters an end takes, a part is one to it
pub part_placed : (here : Bool) → placed here (Ok part) ≡ Ok part
part_placed true = refl
part_placed false = refl

-- an end that is handed more of a part sees a part where a reader sees one
pub placed_part : (here : Bool) (r : Result Decoded PacketFault) → placed here r ≡ Ok part → r ≡ Ok part
placed_part true r e = e
placed_part false (Ok (whole v)) e = (cc)
placed_part false (Err WrongLength) e = (cc)
placed_part false (Err (WrongContent x)) e = (cc)
placed_part false r e = e

-- a frame f in a buffer b, and later a frame g in c
pub record Filled (f b g c : List ℕ) : Type 0 where
  pub stays : decode f ≡ Ok part → decode g ≡ Ok part
  pub size : decode f ≡ Ok part → packet_limit ≤ length b → length c ≡ length b
  pub longer : length b ≤ length c

pub filled_same : (f b : List ℕ) → Filled f b f b
filled_same f b = record { stays = λ e. e; size = λ e h. refl; longer = omega arith }

pub filled_none : (f b : List ℕ) → Filled f b [] b
filled_none f b = record { stays = λ e. decode_short [] (omega arith); size = λ e h. refl; longer = omega arith }

pub filled_trans : {f b g c h d : List ℕ} → Filled f b g c → Filled g c h d → Filled f b h d
filled_trans p q =
    record {
      stays = λ e. q.stays (p.stays e);
      size = λ e l. q.size (p.stays e) (omega (arith, p.size e l)) ∙ p.size e l;
      longer = omega (arith, p.longer, q.longer);
    }

pub filled_laid : (f b got g : List ℕ) → length got ≤ lack f → decode g ≡ Ok part → Filled f b g (laid b (length f) got)
filled_laid f b got g l e =
    record {
      stays = λ x. e;
      size = λ x h. let k = parts_lack f x in simp (length-append, length-take, length-drop) (omega (arith, k.1));
      longer = simp (length-append, length-take, length-drop) (omega arith);
    }

-- a take of at most n hands over no more
pub given_short : (v : LineView) (n : ℕ) → length (given v n) ≤ n
given_short v n = omega (arith, length-take (handed v n) v.waiting)
