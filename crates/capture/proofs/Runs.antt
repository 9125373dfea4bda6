-- Whole captures.
use Rattle.std.proofs.Common.{◌≡◌, ℕ, List, [], ◌∷◌, ◌++◌, length, drop, Ok, sym, refl, ap, ◌∙◌, subst, append_assoc}
use Rattle.std.specs.List.{flat_map, AllByRecursion as All}
use Rattle.std.proofs.lemmas.List.{append_cancel_left, flat_map_more, take_at, drop_at}
use Rattle.std.proofs.ByRecursion.{All-take, All-drop, All-append}
use Rattle.packet.specs.Values.{Value, Valid, encode}
use Rattle.packet.specs.Decoding.{whole, decode}
use Rattle.packet.specs.Laws.{Bytes, Front}
use Rattle.packet.proofs.Back.{reads_back}
use Rattle.packet.proofs.Forth.{writes_back}
use Rattle.capture.specs.Runs.{Run, start, came, shown, Accounted, AccountsForEveryByte, Stopped, Same, PiecesDoNotMatter}

first_bytes : (xs ys : List ℕ) → Bytes (xs ++ ys) → Bytes xs
first_bytes xs ys s = subst Bytes (take_at xs ys (length xs) refl) (All-take _ (length xs) (xs ++ ys) s)

last_bytes : (xs ys : List ℕ) → Bytes (xs ++ ys) → Bytes ys
last_bytes xs ys s = subst Bytes (drop_at xs ys (length xs) refl) (All-drop _ (length xs) (xs ++ ys) s)

accounted : {bs : List ℕ} {vs : List Value} {held : List ℕ} → Bytes bs → Run bs vs held → Accounted bs vs held
accounted s start = record { split = refl; valid = tt }
accounted s (came {bs} {vs} {held} r more) =
    let a : Accounted bs vs held = accounted (first_bytes bs more s) r in
    record { split = ap (λ (x : List ℕ). x ++ more) a.split ∙ append_assoc (flat_map encode vs) held more; valid = a.valid }
accounted s (shown {bs} {vs} {held} r v e) =
    let a : Accounted bs vs held = accounted s r in
    let h : Bytes held = last_bytes (flat_map encode vs) held (subst Bytes a.split s) in
    let f : Front v held = writes_back held v h e in
    let rest : List ℕ = drop (length (encode v)) held in
    let j : flat_map encode vs ++ encode v ≡ flat_map encode (vs ++ v ∷ []) = flat_map_more encode [] vs v in
    record {
      split = a.split ∙ ap (λ (x : List ℕ). flat_map encode vs ++ x) f.written ∙ sym (append_assoc (flat_map encode vs) (encode v) rest) ∙ ap (λ (x : List ℕ). x ++ rest) j;
      valid = All-append Valid vs (v ∷ []) a.valid (f.valid, tt);
    }

pub accounts_for_every_byte : AccountsForEveryByte
accounts_for_every_byte bs vs held s r = accounted s r

-- what begins with a packet reads as that packet
begins : (v : Value) (vs : List Value) (f : List ℕ) → Valid v → decode (flat_map encode (v ∷ vs) ++ f) ≡ Ok (whole v)
begins v vs f h = ap decode (append_assoc (encode v) (flat_map encode vs) f) ∙ reads_back v (flat_map encode vs ++ f) h

unique : (vs ws : List Value) (f g : List ℕ) → All Valid vs → All Valid ws → flat_map encode vs ++ f ≡ flat_map encode ws ++ g → Stopped f → Stopped g → Same vs ws f g
unique [] [] f g p q e s t = record { packets = refl; left = e }
unique [] (w ∷ ws) f g p q e s t = absurd (s w (ap decode e ∙ begins w ws g q.0))
unique (v ∷ vs) [] f g p q e s t = absurd (t v (ap decode (sym e) ∙ begins v vs f p.0))
unique (v ∷ vs) (w ∷ ws) f g p q e s t =
    let a = begins v vs f p.0 in
    let b = ap decode e ∙ begins w ws g q.0 in
    let same : v ≡ w = cc in
    let c : encode v ++ (flat_map encode vs ++ f) ≡ encode w ++ (flat_map encode ws ++ g) = sym (append_assoc (encode v) (flat_map encode vs) f) ∙ e ∙ append_assoc (encode w) (flat_map encode ws) g in
    let d : encode v ++ (flat_map encode vs ++ f) ≡ encode v ++ (flat_map encode ws ++ g) = c ∙ ap (λ (x : Value). encode x ++ (flat_map encode ws ++ g)) (sym same) in
    let r : Same vs ws f g = unique vs ws f g p.1 q.1 (append_cancel_left (encode v) _ _ d) s t in
    let both : vs ≡ ws = r.packets in
    record { packets = cc; left = r.left }

pub pieces_do_not_matter : PiecesDoNotMatter
pieces_do_not_matter bs vs ws f g s r q p t =
    let a = accounted s r in
    let b = accounted s q in
    unique vs ws f g a.valid b.valid (sym a.split ∙ b.split) p t
