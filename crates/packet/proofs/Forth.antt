-- An accepted packet, written again, gives the same bytes.
use Rattle.std.proofs.Common.{◌≡◌, ℕ, suc, ◌+◌, ◌-◌, ◌/◌, ◌%◌, ◌^◌, ◌<◌, ◌≤◌, eqb, ltb, List, [], ◌∷◌, ◌++◌, length, get_or, take, drop, Ok, Err, Result, sym, refl, ap, ◌∙◌, subst, arith, length-drop}
use Rattle.std.proofs.lemmas.List.{take_all, take-append-drop, drop-drop, drop_more, length-take-le, nil_from_length}
use Rattle.std.proofs.ByRecursion.{All-take, All-drop, All-get_or}
use Rattle.std.proofs.lemmas.Bool.{ltb-false, eqb-false}
use Rattle.wire.specs.declared.faults.Field.TheVariants as Field
use Rattle.wire.specs.declared.faults.PacketFault.{PacketFault}
use Rattle.wire.specs.declared.faults.PacketFault.TheVariants.{WrongContent, UnknownLetter}
use Rattle.wire.specs.declared.letters.Letter.{Letter}
use Rattle.wire.specs.declared.letters.Letter.TheVariants as L
use Rattle.wire.specs.Limits.{length_limit}
use Rattle.wire.specs.Letters.{letter_byte, letter_of, letters, allowed}
use Rattle.wire.specs.Codes.{status_byte, status_of, statuses, logout_byte, logout_reasons, good_bye_byte, good_bye_reasons}
use Rattle.wire.specs.Coded.{coded}
use Rattle.wire.specs.Numbers.{little, number}
use Rattle.wire.proofs.Numbers.{little_number, number_below}
use Rattle.wire.proofs.Coded.{cut, coded_byte}
use Rattle.packet.specs.Values.{Value, Valid, Fields, login_request, login_response, sequenced, unsequenced, synchronization_complete, retransmission_request, logout_request, good_bye, end_of_session, hub_heartbeat, seat_heartbeat, test, encode, letter, body, length_number}
use Rattle.packet.specs.Decoding.{decode, counted, head_number, opened, content, whole, next}
use Rattle.packet.specs.Laws.{Bytes, WritesBack}
use Rattle.packet.proofs.Framing.{Within, within}

-- a step that went on
pub took : {X Y : Type 0} (r : Result X PacketFault) (f : X → Result Y PacketFault) (y : Y) (P : Type 0) → ((x : X) → r ≡ Ok x → f x ≡ Ok y → P) → next r f ≡ Ok y → P
took (Ok x) f y P g e = g x refl e
took (Err q) f y P g e = cc

-- a list from k on: its next w, and what follows them
piece : (b : List ℕ) (k w : ℕ) → drop k b ≡ take w (drop k b) ++ drop (k + w) b
piece b k w = sym (take-append-drop w (drop k b)) ∙ ap (λ (x : List ℕ). take w (drop k b) ++ x) (drop-drop w k b)

-- a letter and a body that are read as v are those of v
record ReadAs (l : Letter) (b : List ℕ) (v : Value) : Type 0 where
  fields : Fields v
  letter_is : l ≡ letter v
  body_is : b ≡ body v

module _ (b : List ℕ) (v : Value) (s : Bytes b) where
  eight : (k : ℕ) → 8 + k ≤ length b → little 8 (number (take 8 (drop k b))) ≡ take 8 (drop k b)
  eight k h =
      let w : List ℕ = take 8 (drop k b) in
      let l : length w ≡ 8 = length-take-le 8 (drop k b) (simp length-drop (omega arith)) in
      ap (λ (i : ℕ). little i (number w)) (sym l) ∙ little_number w (All-take _ 8 (drop k b) (All-drop _ k b s))

  below : (k : ℕ) → 8 + k ≤ length b → number (take 8 (drop k b)) < 256 ^ 8
  below k h =
      let w : List ℕ = take 8 (drop k b) in
      let l : length w ≡ 8 = length-take-le 8 (drop k b) (simp length-drop (omega arith)) in
      subst (λ (i : ℕ). number w < 256 ^ i) l (number_below w (All-take _ 8 (drop k b) (All-drop _ k b s)))

  is : (l : Letter) (w : Value) → ReadAs l b w → ◌≡◌ {A = Result Value PacketFault} (Ok w) (Ok v) → ReadAs l b v
  is l w h e = let q : w ≡ v = cc in subst (λ (x : Value). ReadAs l b x) q h

  bare : (l : Letter) (w : Value) → Fields w → l ≡ letter w → body w ≡ [] → length b ≡ 0 → ◌≡◌ {A = Result Value PacketFault} (Ok w) (Ok v) → ReadAs l b v
  bare l w f q n z e = is l w (record { fields = f; letter_is = q; body_is = nil_from_length b z ∙ sym n }) e

  login_forth : length b ≡ 35 → content L.LoginRequest b ≡ Ok v → ReadAs L.LoginRequest b v
  login_forth l =
      let wide : (k w : ℕ) → k + w ≤ 35 → length (take w (drop k b)) ≡ w = λ k w h. length-take-le w (drop k b) (simp length-drop (omega arith)) in
      let e0 : b ≡ take 5 b ++ drop 5 b = piece b 0 5 in
      let e1 : drop 5 b ≡ take 5 (drop 5 b) ++ drop 10 b = piece b 5 5 in
      let e2 : drop 10 b ≡ take 8 (drop 10 b) ++ drop 18 b = piece b 10 8 in
      let e3 : drop 18 b ≡ take 8 (drop 18 b) ++ drop 26 b = piece b 18 8 in
      let e4 : drop 26 b ≡ get_or b 26 0 ∷ drop 27 b = drop_more b 26 0 (omega arith) in
      let e5 : take 8 (drop 27 b) ≡ drop 27 b = take_all 8 (drop 27 b) (simp length-drop (omega arith)) in
      let e6 : little 8 (number (take 8 (drop 27 b))) ≡ take 8 (drop 27 b) = eight 27 (omega arith) in
      let byte : get_or b 26 0 < 256 = All-get_or _ b 26 0 (omega arith) s in
      let w : Value = login_request (take 5 b) (take 5 (drop 5 b)) (take 8 (drop 10 b)) (take 8 (drop 18 b)) (get_or b 26 0) (number (take 8 (drop 27 b))) in
      let same : b ≡ body w = cc in
      is L.LoginRequest w
      (record {
        fields = (wide 0 5 (omega arith), wide 5 5 (omega arith), wide 10 8 (omega arith), wide 18 8 (omega arith), byte, below 27 (omega arith));
        letter_is = refl;
        body_is = same;
      })

  response_forth : length b ≡ 10 → content L.LoginResponse b ≡ Ok v → ReadAs L.LoginResponse b v
  response_forth l =
      took (status_of (get_or b 0 0)) _ v (ReadAs L.LoginResponse b v)
      (λ t r. let e0 : b ≡ get_or b 0 0 ∷ drop 1 b = drop_more b 0 0 (omega arith) in
      let e1 : drop 1 b ≡ get_or b 1 0 ∷ drop 2 b = drop_more b 1 0 (omega arith) in
      let e2 : take 8 (drop 2 b) ≡ drop 2 b = take_all 8 (drop 2 b) (simp length-drop (omega arith)) in
      let e3 : little 8 (number (take 8 (drop 2 b))) ≡ take 8 (drop 2 b) = eight 2 (omega arith) in
      let e4 : get_or b 0 0 ≡ status_byte t = coded_byte status_byte (WrongContent Field.Status) statuses (get_or b 0 0) t r in
      let w : Value = login_response t (get_or b 1 0) (number (take 8 (drop 2 b))) in
      let same : b ≡ body w = cc in
      is L.LoginResponse w
      (record { fields = (All-get_or _ b 1 0 (omega arith) s, below 2 (omega arith)); letter_is = refl; body_is = same }))

  sequenced_forth : 8 ≤ length b → content L.Sequenced b ≡ Ok v → ReadAs L.Sequenced b v
  sequenced_forth h =
      is L.Sequenced (sequenced (number (take 8 b)) (drop 8 b))
      (record { fields = below 0 (omega arith); letter_is = refl; body_is = piece b 0 8 ∙ sym (ap (λ (x : List ℕ). x ++ drop 8 b) (eight 0 (omega arith))) })

  retransmission_forth : length b ≡ 16 → content L.RetransmissionRequest b ≡ Ok v → ReadAs L.RetransmissionRequest b v
  retransmission_forth l =
      let e0 : b ≡ take 8 b ++ drop 8 b = piece b 0 8 in
      let e1 : take 8 (drop 8 b) ≡ drop 8 b = take_all 8 (drop 8 b) (simp length-drop (omega arith)) in
      let e2 : little 8 (number (take 8 b)) ≡ take 8 b = eight 0 (omega arith) in
      let e3 : little 8 (number (take 8 (drop 8 b))) ≡ take 8 (drop 8 b) = eight 8 (omega arith) in
      let w : Value = retransmission_request (number (take 8 b)) (number (take 8 (drop 8 b))) in
      let same : b ≡ body w = e0 ∙ sym (ap (λ (x : List ℕ). x ++ drop 8 b) e2) ∙ sym (ap (λ (x : List ℕ). little 8 (number (take 8 b)) ++ x) (e3 ∙ e1)) in
      is L.RetransmissionRequest w (record { fields = (below 0 (omega arith), below 8 (omega arith)); letter_is = refl; body_is = same })

  -- a reason and a text
  reasoned : {R : Type 0} (l : Letter) (byte_of : R → ℕ) (reasons : List R) (made : R → List ℕ → Value) → ((r : R) (t : List ℕ) → Fields (made r t) × (l ≡ letter (made r t)) × (body (made r t) ≡ byte_of r ∷ t)) → 0 < length b → next (coded byte_of (WrongContent Field.Reason) reasons (get_or b 0 0)) (λ r. Ok (made r (drop 1 b))) ≡ Ok v → ReadAs l b v
  reasoned l byte_of reasons made shape h =
      took _ _ v (ReadAs l b v)
      (λ r q. let e0 : b ≡ get_or b 0 0 ∷ drop 1 b = drop_more b 0 0 (omega arith) in
      let e1 : get_or b 0 0 ≡ byte_of r = coded_byte byte_of (WrongContent Field.Reason) reasons (get_or b 0 0) r q in
      let k = shape r (drop 1 b) in
      is l (made r (drop 1 b))
      (record { fields = k.0; letter_is = k.1; body_is = e0 ∙ ap (λ (i : ℕ). i ∷ drop 1 b) e1 ∙ sym k.2 }))

  content_forth : (l : Letter) → Within l (length b + 1) → content l b ≡ Ok v → ReadAs l b v
  content_forth L.LoginRequest h = login_forth (omega arith)
  content_forth L.LoginResponse h = response_forth (omega arith)
  content_forth L.Sequenced h = sequenced_forth (omega arith)
  content_forth L.Unsequenced h = is L.Unsequenced (unsequenced b) (record { fields = tt; letter_is = refl; body_is = refl })
  content_forth L.SynchronizationComplete h = bare L.SynchronizationComplete synchronization_complete tt refl refl (omega arith)
  content_forth L.RetransmissionRequest h = retransmission_forth (omega arith)
  content_forth L.LogoutRequest h = reasoned L.LogoutRequest logout_byte logout_reasons logout_request (λ r t. (tt, refl, refl)) (omega arith)
  content_forth L.GoodBye h = reasoned L.GoodBye good_bye_byte good_bye_reasons good_bye (λ r t. (tt, refl, refl)) (omega arith)
  content_forth L.EndOfSession h = bare L.EndOfSession end_of_session tt refl refl (omega arith)
  content_forth L.HubHeartbeat h = bare L.HubHeartbeat hub_heartbeat tt refl refl (omega arith)
  content_forth L.SeatHeartbeat h = bare L.SeatHeartbeat seat_heartbeat tt refl refl (omega arith)
  content_forth L.Test h = is L.Test (test b) (record { fields = tt; letter_is = refl; body_is = refl })

-- a letter's byte and a body that are read as v
record OpenedAs (k : ℕ) (b : List ℕ) (v : Value) : Type 0 where
  letter_is : k ≡ letter_byte (letter v)
  body_is : b ≡ body v
  valid : Valid v

opened_forth : (k : ℕ) (b : List ℕ) (v : Value) → Bytes b → opened k b ≡ Ok v → OpenedAs k b v
opened_forth k b v s =
    took (letter_of k) _ v (OpenedAs k b v)
    (λ l r. cut (allowed l (length b + 1)) _ _ (Ok v) (OpenedAs k b v)
    (λ t e. let q : k ≡ letter_byte l = coded_byte letter_byte UnknownLetter letters k l r in
    let f : ReadAs l b v = content_forth b v s l (within l (length b + 1) t) e in
    let same : l ≡ letter v = f.letter_is in
    let size : length b + 1 ≡ length_number v = ap (λ (x : List ℕ). length x + 1) f.body_is in
    record {
      letter_is = q ∙ ap letter_byte same;
      body_is = f.body_is;
      valid = record { fields = f.fields; fits = ap (λ (i : ℕ). allowed (letter v) i) (sym size) ∙ ap (λ (x : Letter). allowed x (length b + 1)) (sym same) ∙ t };
    })
    (λ t e. cc))

-- what `decode` found before it said that a packet is there
pub record Parts (bs : List ℕ) (v : Value) : Type 0 where
  pub n : ℕ
  pub two : 2 ≤ length bs
  pub is_n : n ≡ head_number bs
  pub low : 0 < n
  pub high : n ≤ length_limit
  pub all : n + 2 ≤ length bs
  pub read : opened (get_or bs 2 0) (take (n - 1) (drop 3 bs)) ≡ Ok v

pub counted_forth : (m n : ℕ) → counted m ≡ Ok n → (n ≡ m) × (0 < m) × (m ≤ length_limit)
counted_forth m n =
    cut (eqb m 0) _ _ (Ok n) _ (λ t e. cc)
    (λ t. cut (ltb length_limit m) _ _ (Ok n) _ (λ u e. cc)
    (λ u e. let q : n ≡ m = cc in (q, omega (arith, eqb-false m 0 t), ltb-false length_limit m u)))

pub parts : (bs : List ℕ) (v : Value) → decode bs ≡ Ok (whole v) → Parts bs v
unfolding decode
parts bs v =
    cut (ltb (length bs) 2) _ _ (Ok (whole v)) (Parts bs v) (λ t q. cc)
    (λ t. took (counted (head_number bs)) _ (whole v) (Parts bs v)
    (λ n r. cut (ltb (length bs) (n + 2)) _ _ (Ok (whole v)) (Parts bs v) (λ u q. cc)
    (λ u. took (opened (get_or bs 2 0) (take (n - 1) (drop 3 bs))) _ (whole v) (Parts bs v)
    (λ w x y. let m = counted_forth (head_number bs) n r in
    let g : w ≡ v = cc in
    record { n = n; two = ltb-false (length bs) 2 t; is_n = m.0; low = omega arith; high = omega arith; all = ltb-false (length bs) (n + 2) u; read = x ∙ ap (λ (k : Value). Ok k) g }))))

pub writes_back : WritesBack
unfolding encode
writes_back bs v s e =
    let p : Parts bs v = parts bs v e in
    let n : ℕ = p.n in
    let b : List ℕ = take (n - 1) (drop 3 bs) in
    let lb : length b ≡ n - 1 = length-take-le (n - 1) (drop 3 bs) (simp length-drop (omega arith)) in
    let f : OpenedAs (get_or bs 2 0) b v = opened_forth (get_or bs 2 0) b v (All-take _ (n - 1) (drop 3 bs) (All-drop _ 3 bs s)) p.read in
    let lv : length b ≡ length (body v) = ap length f.body_is in
    let s0 : get_or bs 0 0 < 256 = All-get_or _ bs 0 0 (omega arith) s in
    let s1 : get_or bs 1 0 < 256 = All-get_or _ bs 1 0 (omega arith) s in
    let a0 : get_or bs 0 0 ≡ (length (body v) + 1) % 256 = omega arith in
    let q1 : (length (body v) + 1) / 256 ≡ get_or bs 1 0 = omega arith in
    let a1 : get_or bs 1 0 ≡ (length (body v) + 1) / 256 % 256 = rw q1 (omega arith) in
    let a2 : 3 + (n - 1) ≡ suc (suc (suc (length (body v)))) = omega arith in
    let e0 : bs ≡ get_or bs 0 0 ∷ drop 1 bs = drop_more bs 0 0 (omega arith) in
    let e1 : drop 1 bs ≡ get_or bs 1 0 ∷ drop 2 bs = drop_more bs 1 0 (omega arith) in
    let e2 : drop 2 bs ≡ get_or bs 2 0 ∷ drop 3 bs = drop_more bs 2 0 (omega arith) in
    let e3 : drop 3 bs ≡ b ++ drop (3 + (n - 1)) bs = piece bs 3 (n - 1) in
    let e4 : get_or bs 2 0 ≡ letter_byte (letter v) = f.letter_is in
    let e5 : b ≡ body v = f.body_is in
    record { valid = f.valid; written = cc }
