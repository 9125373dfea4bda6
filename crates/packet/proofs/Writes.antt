-- What holds of a writing, granted and refused.
use Rattle.std.proofs.Common.{◌≡◌, ℕ, ◌+◌, ◌/◌, ◌%◌, ◌≤◌, true, List, ◌∷◌, ◌++◌, length, take, drop, Ok, Err, sym, refl, ap, ◌∙◌, arith}
use Rattle.std.proofs.lemmas.List.{take-append-le}
use Rattle.std.proofs.lemmas.Bool.{le-ltb, eq-eqb, and_from, cond-true, cond-false}
use Rattle.wire.specs.declared.faults.PacketFault.{PacketFault}
use Rattle.wire.specs.declared.refusals.Refusal.TheVariants.{BadPacket}
use Rattle.wire.specs.Limits.{length_limit}
use Rattle.wire.specs.Letters.{letter_byte}
use Rattle.wire.specs.Numbers.{little}
use Rattle.packet.specs.Values.{Value, Valid, Fields, login_request, login_response, sequenced, unsequenced, synchronization_complete, retransmission_request, logout_request, good_bye, end_of_session, hub_heartbeat, seat_heartbeat, test, encode, letter, body, length_number}
use Rattle.packet.specs.Decoding.{decode}
use Rattle.wire.specs.Overlay.{laid}
use Rattle.packet.specs.Writing.{Written, widths, writable, granting, writing}
use Rattle.packet.proofs.Framing.{within}
use Rattle.packet.proofs.Back.{reads_back, length_encode}
use Rattle.packet.proofs.Forth.{writes_back}
use Rattle.packet.proofs.Fronts.{beginnings_are_parts}
use Rattle.packet.proofs.Laying.{laid_head}

widths_fit : (v : Value) → Fields v → widths v ≡ true
widths_fit (login_request v u c p s n) h =
    and_from _ _ (eq-eqb (length v) 5 h.0)
    (and_from _ _ (eq-eqb (length u) 5 h.1) (and_from _ _ (eq-eqb (length c) 8 h.2) (eq-eqb (length p) 8 h.3)))
widths_fit (login_response t s n) h = refl
widths_fit (sequenced n m) h = refl
widths_fit (unsequenced m) h = refl
widths_fit synchronization_complete h = refl
widths_fit (retransmission_request a e) h = refl
widths_fit (logout_request r t) h = refl
widths_fit (good_bye r t) h = refl
widths_fit end_of_session h = refl
widths_fit hub_heartbeat h = refl
widths_fit seat_heartbeat h = refl
widths_fit (test t) h = refl

-- what a packet can carry is not refused
pub writable_valid : (v : Value) → Valid v → writable v ≡ Ok (length_number v)
writable_valid v h =
    cond-false _ _ _ (le-ltb length_limit (length_number v) (within (letter v) (length_number v) h.fits).limit)
    ∙ cond-true _ _ _ h.fits
    ∙ cond-true _ _ _ (widths_fit v h.fields)

module _ (v : Value) (old new : List ℕ) where
  answered : length_number v + 2 ≤ length old → writing v (length old) ≡ granting (writable v)
  answered h = cond-false _ _ _ (le-ltb (length old) (length_number v + 2) h)

  pub refused_bad : (fault : PacketFault) → Err fault ≡ writable v → length_number v + 2 ≤ length old → new ≡ old → Written v old new (Err (BadPacket fault))
  refused_bad fault e h q =
      record {
        answer = ap granting e ∙ sym (answered h);
        buffer = q;
        back = tt;
        beginnings = tt;
        unreadable = λ g r rest s d. let w : writable v ≡ Ok (length_number v) = writable_valid v (writes_back (encode v ++ rest) v s d).valid in
            cc;
      }

  pub granted : (n : ℕ) → Ok n ≡ writable v → n ≡ length_number v → Valid v → length_number v + 2 ≤ length old → new ≡ encode v ++ drop (n + 2) old → Written v old new (Ok (n + 2))
  granted n e k valid h q =
      record {
        answer = ap granting e ∙ sym (answered h);
        buffer = q;
        back = ap decode q ∙ reads_back v (drop (n + 2) old) valid;
        beginnings = λ i l. let t : take i new ≡ take i (encode v) = ap (take i) q ∙ take-append-le i (encode v) (drop (n + 2) old) (omega (arith, length_encode v)) in
            ap decode t ∙ beginnings_are_parts v i valid (omega (arith, length_encode v));
        unreadable = λ g r. cc;
      }

-- a head, and then a body behind it
pub wrote : (v : Value) (old o new : List ℕ) (n a : ℕ) → n ≡ length_number v → a ≡ letter_byte (letter v) → o ≡ little 2 n ++ (a ∷ drop 3 old) → new ≡ laid o 3 (body v) → new ≡ encode v ++ drop (n + 2) old
unfolding encode
wrote v old o new n a k l e f =
    let m : ℕ = length_number v in
    let b : List ℕ = body v in
    let g : o ≡ m % 256 ∷ m / 256 % 256 ∷ letter_byte (letter v) ∷ drop 3 old = cc in
    f
    ∙ ap (λ (x : List ℕ). laid x 3 b) g
    ∙ laid_head _ _ _ old b
    ∙ ap (λ (i : ℕ). (m % 256 ∷ m / 256 % 256 ∷ letter_byte (letter v) ∷ b) ++ drop i old) (omega arith)
