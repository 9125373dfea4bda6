-- What the parts of a pair are, once they are made as they were asked for.
use Rattle.std.specs.Prelude.{◌≡◌, ℕ, min, true, ◌⊎◌, [], length}
use Rattle.wire.specs.declared.refusals.Refusal.{Refusal}
use Rattle.wire.specs.declared.refusals.Refusal.TheVariants as R
use Rattle.wire.specs.Limits.{packet_limit}
use Rattle.line.specs.Lines.{LineView, fresh}
use Rattle.line.specs.Sizes.{LineSize, PieceLength}
use Rattle.message_log.specs.Meaning.{Meaning}
use Rattle.logs.specs.Format.{saved}
use Rattle.logs.specs.Layout.{makes, journal}
use Rattle.logs.specs.Opening.{Broken, opens}
use Rattle.logs.specs.Pooled.{makes as pools}
use Rattle.any_pair.specs.declared.forms.LogForm.{LogForm}
use Rattle.any_pair.specs.declared.forms.LogForm.TheVariants as G
use Rattle.any_pair.specs.declared.forms.LineForm.{LineForm}
use Rattle.any_pair.specs.declared.forms.LineForm.TheVariants as L

-- an empty indexed log without a session, with a pool of so many bytes and a table of so many ends
abbrev pub indexed : ℕ → ℕ → Meaning
indexed pool table = record { session = 0; messages = []; size = pool; overhead = 0; places = table }

-- a log of this form: an empty one without a session, or the one that was saved
abbrev pub LogMade : LogForm → Meaning → Type 0
LogMade (G.Journal bytes) l = l ≡ journal bytes 0 []
LogMade (G.Indexed pool table) l = l ≡ indexed pool table
LogMade (G.Saved bytes form) l = (l ≡ journal bytes l.session l.messages) × (form.now ≡ saved l.session l.messages)

-- a line of this form, in which nothing waits
abbrev pub LineMade : LineForm → LineView → Type 0
LineMade (L.Ring size) v = v ≡ fresh size packet_limit
LineMade (L.Straight size) v = v ≡ fresh size 1
LineMade (L.PacedRing pace size) v = v ≡ fresh size (min packet_limit pace)
LineMade (L.PacedStraight pace size) v = v ≡ fresh size (min 1 pace)

-- why something is not made: there was no memory for it, or its numbers are not allowed
abbrev pub Denied : Type 0 → Refusal → Type 0
Denied allowed e = (e ≡ R.OutOfMemory) ⊎ ((e ≡ R.SizeOutOfRange) × (allowed → ⊥))

-- why no log of this form is made; a saved one may be broken, too
abbrev pub LogDenied : LogForm → Refusal → Type 0
LogDenied (G.Journal bytes) e = Denied (makes bytes ≡ true) e
LogDenied (G.Indexed pool table) e = Denied (pools pool table ≡ true) e
LogDenied (G.Saved bytes form) e = Denied (opens bytes (length form.now) ≡ true) e ⊎ ((place : ℕ) × (e ≡ R.BrokenLog place) × Broken form.now place)

-- the numbers that a line of this form may have
abbrev pub LineAllowed : LineForm → Type 0
LineAllowed (L.Ring size) = LineSize size
LineAllowed (L.Straight size) = LineSize size
LineAllowed (L.PacedRing pace size) = LineSize size × PieceLength pace
LineAllowed (L.PacedStraight pace size) = LineSize size × PieceLength pace

-- why no line of this form is made
abbrev pub LineDenied : LineForm → Refusal → Type 0
LineDenied form e = Denied (LineAllowed form) e
