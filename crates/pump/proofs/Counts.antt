-- A tally is three counts over the events.
use Rattle.std.proofs.Common.{◌≡◌, ℕ, ◌+◌, cond, List, [], ◌∷◌, sym, ap, ◌∙◌, arith}
use Rattle.std.proofs.lemmas.List.Sums.{sum_by-cons}
use Rattle.std.specs.List.{count_by}
use Rattle.pump.specs.contracts.traces.ActPartialEq.TheImpl.{ghosts as acts}
use Rattle.pump.specs.declared.traces.Act.{Act}
use Rattle.pump.specs.declared.traces.Act.TheVariants as A
use Rattle.pump.specs.declared.traces.Event.{Event}
use Rattle.pump.specs.declared.tallies.Tally.{Tally}
use Rattle.pump.specs.Tallies.{counted, tallied_from}

abbrev tally : ℕ → ℕ → ℕ → Tally
tally p r k = record { puts = p; refusals = r; takes = k }

pub same_tally : {p q r s k l : ℕ} → p ≡ q → r ≡ s → k ≡ l → tally p r k ≡ tally q s l
same_tally {p} {q} {r} {s} {k} {l} a b c =
    ap (λ i. tally i r k) a ∙ ap (λ i. tally q i k) b ∙ ap (λ i. tally q s i) c

abbrev pub count_of : Act → List Event → ℕ
count_of act events = count_by (λ (d : Event). acts.eq d.act act) events

-- one more of them at the front
count_more : (act : Act) (n : ℕ) (d : Event) (ds : List Event) → n + (cond (acts.eq d.act act) 1 0 + count_of act ds) ≡ n + count_of act (d ∷ ds)
count_more act n d ds = ap (λ q. n + q) (sym (sum_by-cons (λ (e : Event). cond (acts.eq e.act act) 1 0) d ds))

one_more : (t : Tally) (act : Act) (p r k : ℕ) →
    tally ((counted t act).puts + p) ((counted t act).refusals + r) ((counted t act).takes + k)
    ≡ tally (t.puts + (cond (acts.eq act A.Put) 1 0 + p)) (t.refusals + (cond (acts.eq act A.Refused) 1 0 + r)) (t.takes + (cond (acts.eq act A.Take) 1 0 + k))
one_more t A.Put p r k = same_tally (omega arith) (omega arith) (omega arith)
one_more t A.Refused p r k = same_tally (omega arith) (omega arith) (omega arith)
one_more t A.Take p r k = same_tally (omega arith) (omega arith) (omega arith)

pub tallied_is : (t : Tally) (events : List Event) →
    tallied_from t events ≡ tally (t.puts + count_of A.Put events) (t.refusals + count_of A.Refused events) (t.takes + count_of A.Take events)
tallied_is t [] = same_tally (omega arith) (omega arith) (omega arith)
tallied_is t (d ∷ ds) =
    tallied_is (counted t d.act) ds
    ∙ one_more t d.act (count_of A.Put ds) (count_of A.Refused ds) (count_of A.Take ds)
    ∙ same_tally (count_more A.Put t.puts d ds) (count_more A.Refused t.refusals d ds) (count_more A.Take t.takes d ds)
