-- A capture as it is read: bytes come in, and packets are shown.
use Rattle.std.specs.Prelude.{◌≡◌, ℕ, List, [], ◌∷◌, ◌++◌, length, drop, Ok, ◌≢◌}
use Rattle.std.specs.List.{flat_map, AllByRecursion}
use Rattle.packet.specs.Values.{Value, Valid, encode}
use Rattle.packet.specs.Decoding.{whole, decode}
use Rattle.packet.specs.Laws.{Bytes}

-- all bytes that came in, the packets shown so far, and the bytes held
pub data Run : List ℕ → List Value → List ℕ → Type 0 where
  start : Run [] [] []
  -- more bytes come in behind those that are held
  came : {bs : List ℕ} {vs : List Value} {held : List ℕ} → Run bs vs held → (more : List ℕ) →
      Run (bs ++ more) vs (held ++ more)
  -- the packet at the front is shown, and passed over
  shown : {bs : List ℕ} {vs : List Value} {held : List ℕ} → Run bs vs held → (v : Value) →
      decode held ≡ Ok (whole v) → Run bs (vs ++ v ∷ []) (drop (length (encode v)) held)

-- the bytes are the packets shown, as they are written, one after the other, and then those held
pub record Accounted (bs : List ℕ) (vs : List Value) (held : List ℕ) : Type 0 where
  pub split : bs ≡ flat_map encode vs ++ held
  pub valid : AllByRecursion Valid vs

abbrev pub AccountsForEveryByte : Type 0
AccountsForEveryByte =
    (bs : List ℕ) (vs : List Value) (held : List ℕ) → Bytes bs → Run bs vs held →
    Accounted bs vs held

-- no packet stands at the front
abbrev pub Stopped : List ℕ → Type 0
Stopped held = (v : Value) → decode held ≢ Ok (whole v)

-- two runs over the same bytes that have shown all they can
pub record Same (vs ws : List Value) (f g : List ℕ) : Type 0 where
  pub packets : vs ≡ ws
  pub left : f ≡ g

abbrev pub PiecesDoNotMatter : Type 0
PiecesDoNotMatter =
    (bs : List ℕ) (vs ws : List Value) (f g : List ℕ) → Bytes bs → Run bs vs f → Run bs ws g →
    Stopped f → Stopped g → Same vs ws f g
