-- Framing: a frame and the bytes that wait behind it are a list of whole packets, whatever breaks and takes do.
-- The argument takes the packet family as given: how values are written and read, and what a frame lacks.
use Rattle.std.proofs.Common.{◌≡◌, ℕ, ◌+◌, ◌<◌, ◌≤◌, List, [], ◌∷◌, ◌++◌, length, take, drop, sym, refl, ap, ◌∙◌, ⊎_elim, arith, length-append}
use Rattle.std.specs.List.{flat_map, AllByRecursion as All}
use Rattle.std.proofs.lemmas.List.{append_assoc, flat_map_more, take_at, drop_at, take-append-le}
use Rattle.std.proofs.lemmas.Bool.{cases_lt}

-- A family of packets: what is said of bytes is that they are a part, or a whole packet, or something else.
pub record Family : Type 1 where
  pub Value : Type 0
  pub Said : Type 0
  pub Valid : Value → Type 0
  pub encode : Value → List ℕ
  pub decode : List ℕ → Said
  pub part : Said
  pub whole : Value → Said
  -- how many bytes a frame lacks
  pub lack : List ℕ → ℕ
  pub back : (v : Value) → Valid v → decode (encode v) ≡ whole v
  pub prefixes : (v : Value) (k : ℕ) → Valid v → k < length (encode v) → decode (take k (encode v)) ≡ part
  pub some : (v : Value) → 0 < length (encode v)
  -- a frame that is a proper prefix of a packet lacks something, and not more than the packet has left
  pub lacks : (v : Value) (k : ℕ) → Valid v → k < length (encode v) → (0 < lack (take k (encode v))) × (k + lack (take k (encode v)) ≤ length (encode v))

module _ (F : Family) where
  -- the frame is less than the first packet
  abbrev pub Short : List ℕ → List F.Value → Type 0
  Short f [] = Unit {0}
  Short f (p ∷ ps) = length f < length (F.encode p)

  -- what has come of the packets, once bytes were taken
  pub data Arrived (f w : List ℕ) (ps : List F.Value) : Type 0 where
    not_yet : F.decode f ≡ F.part → Short f ps → f ++ w ≡ flat_map F.encode ps → Arrived f w ps
    come : (v : F.Value) (qs : List F.Value) → ps ≡ v ∷ qs → f ≡ F.encode v → F.decode f ≡ F.whole v → w ≡ flat_map F.encode qs → Arrived f w ps

  front_of : (f w p r : List ℕ) → f ++ w ≡ p ++ r → length f ≤ length p → f ≡ take (length f) p
  front_of f w p r e l = sym (take_at f w (length f) refl) ∙ ap (take (length f)) e ∙ take-append-le (length f) p r l

  same_front : (a b c d : List ℕ) → a ++ b ≡ c ++ d → length a ≡ length c → (a ≡ c) × (b ≡ d)
  same_front a b c d e l = (
    sym (take_at a b (length c) l) ∙ ap (take (length c)) e ∙ take_at c d (length c) refl,
    sym (drop_at a b (length c) l) ∙ ap (drop (length c)) e ∙ drop_at c d (length c) refl,
  )

  pub part_lacks : (p : F.Value) (f w r : List ℕ) → F.Valid p → f ++ w ≡ F.encode p ++ r → length f < length (F.encode p) → (0 < F.lack f) × (length f + F.lack f ≤ length (F.encode p))
  part_lacks p f w r va e l =
      let q : f ≡ take (length f) (F.encode p) = front_of f w (F.encode p) r e (omega arith) in
      let k = F.lacks p (length f) va l in
      let n : F.lack f ≡ F.lack (take (length f) (F.encode p)) = ap F.lack q in
      (omega arith, omega arith)

  pub arrives : (f got w : List ℕ) (ps : List F.Value) → f ++ (got ++ w) ≡ flat_map F.encode ps → Short f ps → All F.Valid ps → 0 < length got → length got ≤ F.lack f → Arrived (f ++ got) w ps
  arrives f got w [] e sh va l k = absurd (omega (arith, ap length e, length-append f (got ++ w), length-append got w))
  arrives f got w (p ∷ ps) e sh va l k =
      let g : List ℕ = f ++ got in
      let r : List ℕ = flat_map F.encode ps in
      let q : g ++ w ≡ F.encode p ++ r = append_assoc f got w ∙ e in
      let h = part_lacks p f (got ++ w) r va.0 e sh in
      let lg : length g ≡ length f + length got = length-append f got in
      ⊎_elim
      (λ a. not_yet (ap F.decode (front_of g w (F.encode p) r q (omega arith)) ∙ F.prefixes p (length g) va.0 a) a q)
      (λ a.
      let same = same_front g w (F.encode p) r q (omega arith) in
      come p ps refl same.0 (ap F.decode same.0 ∙ F.back p va.0) same.1)
      (cases_lt (length g) (length (F.encode p)))

  -- one packet more, behind what waits
  pub short_push : (f w : List ℕ) (v : F.Value) (ps : List F.Value) → f ++ w ≡ flat_map F.encode ps → Short f ps → Short f (ps ++ (v ∷ []))
  short_push f w v [] e s = omega (arith, F.some v, ap length e, length-append f w)
  short_push f w v (q ∷ ps) e s = s

  pub stream_push : (f w : List ℕ) (v : F.Value) (ps : List F.Value) → f ++ w ≡ flat_map F.encode ps → f ++ (w ++ F.encode v) ≡ flat_map F.encode (ps ++ (v ∷ []))
  stream_push f w v ps e = sym (append_assoc f w (F.encode v)) ∙ ap (λ z. z ++ F.encode v) e ∙ flat_map_more F.encode [] ps v

  -- an empty frame is less than any packet
  pub short_nil : (ps : List F.Value) → Short [] ps
  short_nil [] = tt
  short_nil (p ∷ ps) = F.some p
