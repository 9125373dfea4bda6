-- What brings a seat level: an accepted connect, and rounds.
use Rattle.std.proofs.Common.{◌≡◌, ℕ, suc, false, ◌||◌, None, List, [], ◌∷◌, ◌++◌, length, map, Ok, Err, refl, sym, ap, ◌∙◌, subst, append_assoc, append-nil, length-append, add-one}
use Rattle.std.proofs.lemmas.Bool.{or_parts}
use Rattle.std.proofs.lemmas.List.{map-append}
use Rattle.wire.specs.declared.refusals.Refusal.{Refusal}
use Rattle.rules.specs.declared.phases.How.{How}
use Rattle.rules.specs.declared.answers.Report.{Report}
use Rattle.rules.specs.State.{Pair}
use Rattle.rules.specs.Calls.{done, connect, connected}
use Rattle.rules.specs.declared.answers.Answer.{Answer}
use Rattle.rules.specs.Rounds.{Call, Connect, Round, too_short, lent_short, Effect, did, Step, short_buffer, connects, rounds}
use Rattle.promises.specs.Runs.{lent, lends_others, GrantedRounds, no_round, round}
use Rattle.promises.specs.Promises.{Able, Level, rounds_needed}
use Rattle.promises.proofs.Made.{catches_up}
use Rattle.pair.specs.Steps.{Does, GoesRound}
use Rattle.relay.specs.Histories.{Leads, none, one_more}
use Rattle.relay.specs.CallHistory.{CallHistory, followed_by, Happened, PerformsAndNotes, RoundsAndNotes, LevelsAndNotes}
use Rattle.relay.specs.Levels.{how_of, round_with, connect_and_rounds, Levels}
use Rattle.relay.specs.declared.leveling.Way.{Way}
use Rattle.relay.specs.declared.leveling.Way.TheVariants.{Join, Anew}
use Rattle.relay.proofs.Keeping.{keeps_none, keeps_one, keeps_together, leads_keep, same_pair}
use Rattle.relay.proofs.History.{noted_nothing, noted_together, never_shorter}

-- a round that is granted, and one more after others
granted_by : (s : Pair) (d : Effect) (r : Refusal) → lent_short Round s ≡ false → Step s Round d → d.answer ≡ Answer.Round (Err r) → ⊥
granted_by s _ r l (short_buffer _ e) g = (cc)
granted_by s _ r l (rounds q w t e x) g = (cc)

pub never_refused : (s t : Pair) (r : Refusal) → lent_short Round s ≡ false → GoesRound s (Err r) t → ⊥
never_refused s t r l (w, h) = granted_by s _ r l h refl

pub rounds_next : {n : ℕ} {s t u : Pair} {report : Report} → GrantedRounds Step n s t → GoesRound t (Ok report) u → GrantedRounds Step (suc n) s u
rounds_next {report = p} (no_round s) (w, h) = round 0 s _ _ p h refl (no_round _)
rounds_next (round n s t d q h e r) g = round (suc n) s _ d q h e (rounds_next r g)

-- a connect by join or anew to which no short buffer is lent
connects_by : (s : Pair) (how : How) (d : Effect) → lent_short (Connect how) s ≡ false → Step s (Connect how) d → d ≡ did (connect how s)
connects_by s how _ l (short_buffer _ e) = (cc)
connects_by s how _ l (connects _ e) = refl

is_done : (way : Way) (s : Pair) → connect (how_of way) s ≡ done (connected (how_of way) s)
is_done Join s = refl
is_done Anew s = refl

out_long : (s : Pair) → lent_short Round s ≡ false → too_short s.buffers.out ≡ false
out_long s e = (or_parts (too_short s.buffers.seat_frame) (too_short s.buffers.out) (or_parts (too_short s.buffers.hub_frame) (too_short s.buffers.seat_frame || too_short s.buffers.out) e).1).1

pub connected_by : (way : Way) (how : How) (s : Pair) (d : Effect) → how ≡ how_of way → lent_short Round s ≡ false → Step s (Connect how) d → d ≡ did (done (connected (how_of way) s))
connected_by way how s d i l h = connects_by s how d (out_long s l) h ∙ ap (λ x. did (connect x s)) i ∙ ap did (is_done way s)

pub connect_granted : (way : Way) (how : How) (s t : Pair) (r : Refusal) → how ≡ how_of way → lent_short Round s ≡ false → Does (Connect how) s (Err r) t → ⊥
connect_granted way how s t r i l h = let f : Answer.Done (Err r) ≡ Answer.Done (Ok tt) = ap (λ (d : Effect). d.answer) (connected_by way how s _ i l h) in (cc)

-- granted rounds are calls as any others
pub rounds_lead : {n : ℕ} {s t u : Pair} {made : List (Call × Answer)} → Leads s made t → GrantedRounds Step n t u →
    (reports : List Report) × (length reports ≡ n) × Leads s (made ++ map round_with reports) u
rounds_lead {s = s} {t = t} {made = made} k (no_round _) = ([], refl, subst (λ x. Leads s x t) (sym (append-nil made)) k)
rounds_lead {s = s} {u = u} {made = made} k (round n _ _ d q h e r) =
    let next : Leads s (made ++ round_with q ∷ []) d.after = subst (λ x. Leads s (made ++ (Round, x) ∷ []) d.after) e (one_more k Round d h) in
    let m = rounds_lead next r in
    (q ∷ m.0, ap suc m.1, subst (λ x. Leads s x u) (append_assoc made (round_with q ∷ []) (map round_with m.0)) m.2)

-- a connect and rounds with these reports
pub levels_by : (way : Way) (how : How) (s t : Pair) (d : Effect) (n : ℕ) (reports : List Report) → how ≡ how_of way → lent_short Round s ≡ false → Step s (Connect how) d → n ≡ rounds_needed (how_of way) s →
    GrantedRounds Step n d.after t → length reports ≡ n → Leads d.after (map round_with reports) t → (levels : Levels (how_of way) s t) × (levels.reports ≡ reports)
levels_by way how s t d n reports i l h j r k m =
    let is : How = how_of way in
    let e : d ≡ did (done (connected is s)) = connected_by way how s d i l h in
    let rs : GrantedRounds Step (rounds_needed is s) (connected is s) t = subst (λ x. GrantedRounds Step x (connected is s) t) j (subst (λ (x : Effect). GrantedRounds Step n x.after t) e r) in
    let step : Does (Connect is) s (Ok tt) (connected is s) = subst (λ x. Step s (Connect is) x) e (subst (λ x. Step s (Connect x) d) i h) in
    let more : Leads (connected is s) (map round_with reports) t = subst (λ (x : Effect). Leads x.after (map round_with reports) t) e m in (
      record {
        long = l;
        connects = step;
        rounds = rs;
        reports = reports;
        one_each = k ∙ j;
        keeps = keeps_together (keeps_one None (keeps_none s) step) (leads_keep more);
        level = λ o v a e able.
            subst (λ x. Able is x → GrantedRounds Step (rounds_needed is x) (connected is x) t → Level x.running.log t) e
            (λ b q. catches_up o t (lent v s.buffers) is (a.0, lends_others a.1 s.buffers) b q) able rs;
      },
      refl,
    )

pub levels : (way : Way) (how : How) (s t : Pair) (d : Effect) (n : ℕ) → how ≡ how_of way → lent_short Round s ≡ false → Step s (Connect how) d → n ≡ rounds_needed (how_of way) s →
    GrantedRounds Step n d.after t → Levels (how_of way) s t
levels way how s t d n i l h j r = let k = rounds_lead none r in (levels_by way how s t d n k.0 i l h j r k.1 k.2).0

-- rounds of a relay, one by one
granted : (s : Pair) (d : Effect) → lent_short Round s ≡ false → Step s Round d → (report : Report) × (d.answer ≡ Answer.Round (Ok report))
granted s _ l (short_buffer _ e) = absurd (cc)
granted s _ l (rounds q w t e x) = (_, refl)

pub noted_no_round : (h : CallHistory) → RoundsAndNotes 0 h h
noted_no_round h = record { rounds = no_round h.pair; reports = []; one_each = refl; leads = none; noted = noted_nothing h }

pub noted_round : {n : ℕ} {h t : CallHistory} (u : CallHistory) (answer : Answer) → lent_short Round t.pair ≡ false → RoundsAndNotes n h t → PerformsAndNotes t Round answer u → RoundsAndNotes (suc n) h u
noted_round {n} {h} {t} u answer l a p =
    let d : Effect = record { answer = answer; wrote = p.performs.wrote; after = u.pair } in
    let g = granted t.pair d l p.performs.step in
    let step : GoesRound t.pair (Ok g.0) u.pair = (p.performs.wrote, subst (λ x. Step t.pair Round (record { answer = x; wrote = p.performs.wrote; after = u.pair })) g.1 p.performs.step) in
    let same : map round_with a.reports ++ (Round, answer) ∷ [] ≡ map round_with (a.reports ++ g.0 ∷ []) =
    ap (λ x. map round_with a.reports ++ (Round, x) ∷ []) g.1 ∙ sym (map-append round_with a.reports (g.0 ∷ [])) in
    record {
      rounds = rounds_next a.rounds step;
      reports = a.reports ++ g.0 ∷ [];
      one_each = length-append a.reports (g.0 ∷ []) ∙ add-one _ ∙ ap suc a.one_each;
      leads = subst (λ x. Leads h.pair x u.pair) same (one_more a.leads Round d p.performs.step);
      noted = noted_together h (map round_with a.reports) ((Round, answer) ∷ []) a.noted p.noted ∙ ap (λ x. followed_by h x u.pair) same;
    }

pub levels_and_notes : (way : Way) (how : How) (h t u : CallHistory) (answer : Answer) (n : ℕ) → Happened h → lent_short Round h.pair ≡ false → how ≡ how_of way → n ≡ rounds_needed (how_of way) h.pair →
    PerformsAndNotes h (Connect how) answer t → RoundsAndNotes n t u → LevelsAndNotes (how_of way) h u
levels_and_notes way how h t u answer n a l i j p r =
    let d : Effect = record { answer = answer; wrote = p.performs.wrote; after = t.pair } in
    let k = levels_by way how h.pair u.pair d n r.reports i l p.performs.step j r.rounds r.one_each r.leads in
    let same : (Connect how, answer) ∷ map round_with r.reports ≡ connect_and_rounds (how_of way) k.0.reports =
    ap (λ x. (Connect x, answer) ∷ map round_with r.reports) i
    ∙ ap (λ (x : Effect). (Connect (how_of way), x.answer) ∷ map round_with r.reports) (connected_by way how h.pair d i l p.performs.step)
    ∙ ap (connect_and_rounds (how_of way)) (sym k.1) in
    record {
      levels = k.0;
      noted = noted_together h ((Connect how, answer) ∷ []) (map round_with r.reports) p.noted r.noted ∙ ap (λ x. followed_by h x u.pair) same;
      level = k.0.level h.first a.now a.promised.history (same_pair a.now a.stands);
      never_shorter = never_shorter h a k.0.keeps;
    }
