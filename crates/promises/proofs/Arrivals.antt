-- What an end says of its frame, when what comes to it is a list of whole packets.
use Rattle.std.proofs.Common.{◌≡◌, ℕ, ◌<◌, ◌≤◌, Bool, true, false, List, ◌∷◌, ◌++◌, length, get_or, Ok, Err, Result, sym, refl, ap, ◌∙◌}
use Rattle.std.specs.List.{flat_map, AllByRecursion as All}
use Rattle.wire.specs.declared.faults.PacketFault.{PacketFault}
use Rattle.wire.specs.declared.faults.PacketFault.TheVariants.{OutOfPlace}
use Rattle.wire.specs.declared.letters.Letter.{Letter}
use Rattle.wire.specs.Letters.{letter_byte}
use Rattle.packet.specs.Values.{Value, Valid, encode, letter}
use Rattle.packet.specs.Decoding.{Decoded, part, whole}
use Rattle.rules.specs.Frames.{lack, among, placed, judged}
use Rattle.rules.proofs.Frames.{part_placed}
use Rattle.promises.proofs.Frames.{Short, Arrived, not_yet, come, arrives}
use Rattle.promises.proofs.Packets.{sesm}

whole_not_part : (here : Bool) (r : Result Decoded PacketFault) (v : Value) → r ≡ Ok (whole v) → placed here r ≡ Ok part → ⊥
whole_not_part true r v e h = let q : ◌≡◌ {A = Result Decoded PacketFault} (Ok (whole v)) (Ok part) = sym (ap (placed true) e) ∙ h in (cc)
whole_not_part false r v e h = let q : ◌≡◌ {A = Result Decoded PacketFault} (Err OutOfPlace) (Ok part) = sym (ap (placed false) e) ∙ h in (cc)

same_whole : (here : Bool) (r : Result Decoded PacketFault) (v u : Value) → r ≡ Ok (whole v) → placed here r ≡ Ok (whole u) → v ≡ u
same_whole true r v u e h = let q : ◌≡◌ {A = Result Decoded PacketFault} (Ok (whole v)) (Ok (whole u)) = sym (ap (placed true) e) ∙ h in cc
same_whole false r v u e h = let q : ◌≡◌ {A = Result Decoded PacketFault} (Err OutOfPlace) (Ok (whole u)) = sym (ap (placed false) e) ∙ h in (cc)

part_not_whole : (here : Bool) (r : Result Decoded PacketFault) (u : Value) → r ≡ Ok part → placed here r ≡ Ok (whole u) → ⊥
part_not_whole here r u e h = let q : ◌≡◌ {A = Result Decoded PacketFault} (Ok part) (Ok (whole u)) = sym (ap (placed here) e ∙ part_placed here) ∙ h in (cc)

part_no_fault : (here : Bool) (r : Result Decoded PacketFault) (fault : PacketFault) → r ≡ Ok part → placed here r ≡ Err fault → ⊥
part_no_fault here r fault e h = let q : ◌≡◌ {A = Result Decoded PacketFault} (Ok part) (Err fault) = sym (ap (placed here) e ∙ part_placed here) ∙ h in (cc)

whole_no_fault : (here : Bool) (r : Result Decoded PacketFault) (v : Value) (fault : PacketFault) → here ≡ true → r ≡ Ok (whole v) → placed here r ≡ Err fault → ⊥
whole_no_fault here r v fault t e h = let q : ◌≡◌ {A = Result Decoded PacketFault} (Ok (whole v)) (Err fault) = sym (ap (λ b. placed b (Ok (whole v))) t) ∙ sym (ap (placed here) e) ∙ h in (cc)

letter_of_lem : (v : Value) → get_or (encode v) 2 0 ≡ letter_byte (letter v)
unfolding encode
letter_of_lem v = refl

-- the first packet has come whole
pub record Come (v : Value) (w : List ℕ) (ps : List Value) : Type 0 where
  pub rest : List Value
  pub is : ps ≡ v ∷ rest
  pub waits : w ≡ flat_map encode rest

module _ (letters : List Letter) (f got w : List ℕ) (ps : List Value) (st : f ++ (got ++ w) ≡ flat_map encode ps) (sh : Short sesm f ps) (va : All Valid ps) (so : 0 < length got) (le : length got ≤ lack f) where
  pub still_part : judged letters (f ++ got) ≡ Ok part → Short sesm (f ++ got) ps × ((f ++ got) ++ w ≡ flat_map encode ps)
  still_part j = go (arrives sesm f got w ps st sh va so le)
    where
      go : Arrived sesm (f ++ got) w ps → Short sesm (f ++ got) ps × ((f ++ got) ++ w ≡ flat_map encode ps)
      go (not_yet de s t) = (s, t)
      go (come v qs e fe de wa) = absurd (whole_not_part _ _ v de j)

  pub now_whole : (v : Value) → judged letters (f ++ got) ≡ Ok (whole v) → Come v w ps
  now_whole v j = go (arrives sesm f got w ps st sh va so le)
    where
      go : Arrived sesm (f ++ got) w ps → Come v w ps
      go (not_yet de s t) = absurd (part_not_whole _ _ v de j)
      go (come u qs e fe de wa) = record { rest = qs; is = e ∙ ap (λ z. z ∷ qs) (same_whole _ _ u v de j); waits = wa }

  -- a packet whose letter is taken is no fault
  pub no_fault : (v : Value) (qs : List Value) (fault : PacketFault) → ps ≡ v ∷ qs → among letters (letter_byte (letter v)) ≡ true → judged letters (f ++ got) ≡ Err fault → ⊥
  no_fault v qs fault pe ta j = go (arrives sesm f got w ps st sh va so le)
    where
      go : Arrived sesm (f ++ got) w ps → ⊥
      go (not_yet de s t) = part_no_fault _ _ fault de j
      go (come u us e fe de wa) =
          let uv : u ≡ v = cc (e, pe) in
          whole_no_fault _ _ u fault (ap (λ z. among letters (get_or z 2 0)) fe ∙ ap (among letters) (letter_of_lem u) ∙ ap (λ z. among letters (letter_byte (letter z))) uv ∙ ta) de j
