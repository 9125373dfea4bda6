-- A written packet reads back as itself.
use Rattle.std.proofs.Common.{◌≡◌, ℕ, ◌+◌, ◌^◌, ◌<◌, List, ◌∷◌, ◌++◌, length, get_or, take, drop, Ok, Result, sym, refl, ap, ◌∙◌, arith}
use Rattle.std.proofs.lemmas.List.{take_at, drop_at, drop-drop, get_or-drop}
use Rattle.wire.specs.declared.faults.PacketFault.{PacketFault}
use Rattle.wire.specs.declared.statuses.Status.{Status}
use Rattle.wire.specs.declared.logouts.LogoutReason.{LogoutReason}
use Rattle.wire.specs.declared.goodbyes.GoodByeReason.{GoodByeReason}
use Rattle.wire.specs.declared.letters.Letter.TheVariants as L
use Rattle.wire.specs.Letters.{letter_byte}
use Rattle.wire.specs.Numbers.{little, number}
use Rattle.wire.proofs.Numbers.{number_little}
use Rattle.wire.proofs.Coded.{status_back, logout_back, good_bye_back}
use Rattle.packet.specs.Values.{Value, Fields, login_request, login_response, sequenced, unsequenced, synchronization_complete, retransmission_request, logout_request, good_bye, end_of_session, hub_heartbeat, seat_heartbeat, test, encode, letter, body, length_number}
use Rattle.packet.specs.Decoding.{content, wholly, next}
use Rattle.packet.specs.Laws.{ReadsBack}
use Rattle.packet.proofs.Framing.{decode_framed, opened_letter, within}

module _ (v u c p : List ℕ) (s n : ℕ) (lv : length v ≡ 5) (lu : length u ≡ 5) (lc : length c ≡ 8) (lp : length p ≡ 8) (hn : n < 256 ^ 8) where
  login_back : content L.LoginRequest (v ++ (u ++ (c ++ (p ++ (s ∷ little 8 n))))) ≡ Ok (login_request v u c p s n)
  login_back =
      let b4 : List ℕ = s ∷ little 8 n in
      let b3 : List ℕ = p ++ b4 in
      let b2 : List ℕ = c ++ b3 in
      let b1 : List ℕ = u ++ b2 in
      let b : List ℕ = v ++ b1 in
      let d1 : drop 5 b ≡ b1 = drop_at v b1 5 lv in
      let d2 : drop 10 b ≡ b2 = sym (drop-drop 5 5 b) ∙ ap (drop 5) d1 ∙ drop_at u b2 5 lu in
      let d3 : drop 18 b ≡ b3 = sym (drop-drop 8 10 b) ∙ ap (drop 8) d2 ∙ drop_at c b3 8 lc in
      let d4 : drop 26 b ≡ b4 = sym (drop-drop 8 18 b) ∙ ap (drop 8) d3 ∙ drop_at p b4 8 lp in
      let d5 : drop 27 b ≡ little 8 n = sym (drop-drop 1 26 b) ∙ ap (drop 1) d4 in
      let f0 : take 5 b ≡ v = take_at v b1 5 lv in
      let f1 : take 5 (drop 5 b) ≡ u = ap (take 5) d1 ∙ take_at u b2 5 lu in
      let f2 : take 8 (drop 10 b) ≡ c = ap (take 8) d2 ∙ take_at c b3 8 lc in
      let f3 : take 8 (drop 18 b) ≡ p = ap (take 8) d3 ∙ take_at p b4 8 lp in
      let f4 : get_or b 26 0 ≡ s = sym (get_or-drop 26 b 0 0) ∙ ap (λ (x : List ℕ). get_or x 0 0) d4 in
      let f5 : number (take 8 (drop 27 b)) ≡ n = ap (λ (x : List ℕ). number (take 8 x)) d5 ∙ number_little 8 n hn in
      ap (λ (x : Value). Ok x) (cc)

pub content_back : (v : Value) → Fields v → content (letter v) (body v) ≡ Ok v
content_back (login_request v u c p s n) h = login_back v u c p s n h.0 h.1 h.2 h.3 h.5
content_back (login_response t s n) h =
    ap (λ (r : Result Status PacketFault). next r (λ x. Ok (login_response x s (number (little 8 n))))) (status_back t)
    ∙ ap (λ (k : ℕ). Ok (login_response t s k)) (number_little 8 n h.1)
content_back (sequenced n m) h = ap (λ (k : ℕ). Ok (sequenced k m)) (number_little 8 n h)
content_back (unsequenced m) h = refl
content_back synchronization_complete h = refl
content_back (retransmission_request a e) h =
    ap (λ (k : ℕ). Ok (retransmission_request k (number (little 8 e)))) (number_little 8 a h.0)
    ∙ ap (λ (k : ℕ). Ok (retransmission_request a k)) (number_little 8 e h.1)
content_back (logout_request r t) h = ap (λ (q : Result LogoutReason PacketFault). next q (λ x. Ok (logout_request x t))) (logout_back r)
content_back (good_bye r t) h = ap (λ (q : Result GoodByeReason PacketFault). next q (λ x. Ok (good_bye x t))) (good_bye_back r)
content_back end_of_session h = refl
content_back hub_heartbeat h = refl
content_back seat_heartbeat h = refl
content_back (test t) h = refl

pub reads_back : ReadsBack
unfolding encode
reads_back v rest h =
    decode_framed (letter_byte (letter v)) (body v) rest (within (letter v) (length_number v) h.fits).limit
    ∙ ap wholly (opened_letter (letter v) (body v) h.fits ∙ content_back v h.fields)

pub length_encode : (v : Value) → length (encode v) ≡ length_number v + 2
unfolding encode
length_encode v = omega arith
