-- What set-up grants is a pair of which the promises speak.
use Rattle.std.proofs.Common.{◌≡◌, ℕ, ◌<◌, Bool, true, false, cond, ◌&&◌, ◌||◌, eqb, ◌⊎◌, List, [], ◌∷◌, length, Ok, Err, Result, sym, refl, ap, ◌∙◌, subst, inl, inr, arith}
use Rattle.std.specs.Str.{bytes_eq}
use Rattle.std.proofs.lemmas.List.{nil_from_length}
use Rattle.std.proofs.lemmas.Bool.{cond_both, eqb-true, eqb-false, and_parts}
use Rattle.std.proofs.lemmas.Slice.Eq.{bytes_eq-Decides}
use Rattle.wire.specs.declared.refusals.Refusal.{Refusal}
use Rattle.wire.specs.declared.refusals.Refusal.TheVariants.{ShortBuffer, SizeOutOfRange, BadAccountField}
use Rattle.message_log.specs.Meaning.{Meaning, begun}
use Rattle.message_log.specs.Meaning as Log
use Rattle.account.specs.Fields.{good, good_fields, padded_fields, account_of}
use Rattle.account.proofs.Padding.{judges_fields}
use Rattle.rules.specs.State.{Account, Pair}
use Rattle.rules.specs.Rounds.{too_short}
use Rattle.rules.specs.SetUp.{first_session, started, first_of, follows, made}
use Rattle.rules.specs.Sides.{no_hub, no_seat}
use Rattle.promises.specs.Book.{Message}
use Rattle.promises.specs.Runs.{IsPrefix, SetUp}
use Rattle.promises.specs.Promises.{SetUpBegins}

-- what is granted behind two tests
past : {A : Type 0} (b c : Bool) (x y : Refusal) (r : Result A Refusal) (s : A) → cond b (Err x) (cond c r (Err y)) ≡ Ok s → (c ≡ true) × (r ≡ Ok s)
past true c x y r s e = (cc)
past false true x y r s e = (refl, e)
past false false x y r s e = (cc)

first_of_is_prefix : (xs ys : List Message) → first_of xs ys ≡ true → IsPrefix xs ys
first_of_is_prefix [] ys e = (ys, refl)
first_of_is_prefix (x ∷ xs) [] e = (cc)
first_of_is_prefix (x ∷ xs) (y ∷ ys) e =
    let p = and_parts (bytes_eq x y) (first_of xs ys) e in
    let q : x ≡ y = (bytes_eq-Decides x y).0 p.0 in
    let r = first_of_is_prefix xs ys p.1 in
    (r.0, ap (λ z. z ∷ ys) (sym q) ∙ ap (λ z. x ∷ z) r.1)

follows_begins : (seat hub : Meaning) → follows seat hub ≡ true → ((seat.session ≡ 0) × (seat.messages ≡ [])) ⊎ ((seat.session ≡ hub.session) × IsPrefix seat.messages hub.messages)
follows_begins seat hub =
    cond_both (eqb seat.session 0) (eqb (length seat.messages) 0) (eqb seat.session hub.session && first_of seat.messages hub.messages)
    (λ b. b ≡ true → ((seat.session ≡ 0) × (seat.messages ≡ [])) ⊎ ((seat.session ≡ hub.session) × IsPrefix seat.messages hub.messages))
    (λ t e. inl (eqb-true _ _ t, nil_from_length seat.messages (eqb-true _ _ e)))
    (λ t e. let p = and_parts _ _ e in inr (eqb-true _ _ p.0, first_of_is_prefix seat.messages hub.messages p.1))

begun_sound : (l : Meaning) → Log.Sound l → Log.Sound (begun l first_session)
begun_sound l i = record { fits = omega arith; placed = omega arith; short = λ k. omega arith; bytes = λ k j. omega arith; byte = omega arith; silent = λ e. refl; size_within = i.size_within; overhead_limit = i.overhead_limit; places_within = i.places_within }

started_sound : (l : Meaning) → Log.Sound l → Log.Sound (started l) × (0 < (started l).session)
started_sound l i =
    cond_both (eqb l.session 0) (begun l first_session) l (λ z. Log.Sound z × (0 < z.session))
    (λ t. (begun_sound l i, omega arith))
    (λ t. (i, pos l.session (eqb-false _ _ t)))
  where
    pos : (n : ℕ) → (n ≡ 0 → ⊥) → 0 < n
    pos ℕ.zero h = absurd (h refl)
    pos (ℕ.suc n) h = omega arith

widths : (u c p : List ℕ) (a : Account) → account_of u c p ≡ Ok a → (length a.user ≡ 5) × (length a.computer ≡ 8) × (length a.protocol ≡ 8)
widths u c p a =
    cond_both (good_fields u c p) (Ok (padded_fields u c p)) (Err BadAccountField) (λ r. r ≡ Ok a → (length a.user ≡ 5) × (length a.computer ≡ 8) × (length a.protocol ≡ 8))
    (λ t e.
    let g = and_parts (good 5 u) (good 8 c && good 8 p) t in
    let h = and_parts (good 8 c) (good 8 p) g.1 in
    let q : a ≡ padded_fields u c p = cc in (
      ap (λ (z : Account). length z.user) q ∙ (judges_fields 5 u).fills g.0,
      ap (λ (z : Account). length z.computer) q ∙ (judges_fields 8 c).fills h.0,
      ap (λ (z : Account). length z.protocol) q ∙ (judges_fields 8 p).fills h.1,
    ))
    (λ t e. (cc))

pub set_up_begins : SetUpBegins
set_up_begins g s hs ss us ds e = go (account_of g.user g.computer g.protocol) refl p.1
  where
    p : (follows g.seat_log (started g.hub_log) ≡ true) × (made g (account_of g.user g.computer g.protocol) ≡ Ok s)
    p = past (too_short g.buffers.hub_frame || (too_short g.buffers.seat_frame || too_short g.buffers.out)) (follows g.seat_log (started g.hub_log)) ShortBuffer SizeOutOfRange (made g (account_of g.user g.computer g.protocol)) s e

    go : (r : Result Account Refusal) → account_of g.user g.computer g.protocol ≡ r → made g r ≡ Ok s → SetUp s
    go (Err x) f q = (cc)
    go (Ok a) f q =
        let w = widths g.user g.computer g.protocol a f in
        let l = started_sound g.hub_log hs in
        let b = follows_begins g.seat_log (started g.hub_log) p.0 in
        let t : Pair = record { running = record { log = started g.hub_log; finished = false }; hub = no_hub; seat = no_seat; held = g.seat_log; up = g.up; down = g.down; rows = g.rows; account = a; buffers = g.buffers } in
        let e : t ≡ s = cc in
        subst SetUp e (record { shut = refl; apart = refl; unreported = refl; hub_log_sound = l.0; begun = l.1; seat_log_sound = ss; follows = b; up_line = us; down_line = ds; user = w.0; computer = w.1; protocol = w.2 })
