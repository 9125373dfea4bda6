-- A row that is marked stays so until it is logged out.
use Rattle.std.proofs.Common.{◌≡◌, ℕ, ◌<◌, Bool, true, false, cond, List, [], ◌∷◌, length, Some, None, Ok, Err, Option, Result, sym, ap, ◌∙◌, subst, inl, inr, arith}
use Rattle.std.proofs.lemmas.List.{length-append, get_or_append_left}
use Rattle.std.proofs.lemmas.Bool.{cases_eq, both_ways}
use Rattle.wire.specs.declared.refusals.Refusal.{Refusal}
use Rattle.wire.specs.declared.statuses.Status.{Status}
use Rattle.wire.specs.declared.statuses.Status.TheVariants.{Accepted}
use Rattle.account.specs.declared.rows.Row.{Row}
use Rattle.account.specs.Rows.{found, row_at, no_row, marking}
use Rattle.account.specs.Logins.{Asked, status_for}
use Rattle.account.specs.Table.{joining, joined}
use Rattle.account.proofs.Only.{fits}
use Rattle.account.proofs.Marking.{marks_one_row}
use Rattle.account.proofs.Deciding.{right}
use Rattle.logins.specs.declared.login_states.Reply.TheVariants.{Decided}
use Rattle.logins.specs.Instructions.{Order, account, hub, login, logout}
use Rattle.logins.specs.LoginStates.{LoginView, replied, done, entered, mark_found, is_accepted}
use Rattle.logins.specs.Laws.{after, Spares, Spared, OneAtATime}

-- row i is in use and marked
record Shut (rows : List Row) (i : ℕ) : Type 0 where
  within : i < length rows
  marked : (row_at rows i).marked ≡ true

joined_shut : (rows : List Row) (i : ℕ) (r : Result Row Refusal) → Shut rows i → Shut (joined rows r) i
joined_shut rows i (Err refusal) s = s
joined_shut rows i (Ok row) s = record {
  within = simp length-append (omega (arith, s.within));
  marked = ap (λ (x : Row). x.marked) (get_or_append_left rows (row ∷ []) no_row i s.within) ∙ s.marked;
}

marked_shut : (rows : List Row) (i k : ℕ) → Shut rows i → Shut (marking rows k true) i
marked_shut rows i k s =
    let m = marks_one_row rows k true in
    record {
      within = omega (arith, m.count, s.within);
      marked = elim (cases_eq i k) [
        | inl e ↦ subst (λ (j : ℕ). (row_at (marking rows k true) j).marked ≡ true) (sym e) (ap (λ (x : Row). x.marked) (m.row (omega (arith, s.within))))
        | inr ne ↦ ap (λ (x : Row). x.marked) (m.others i ne) ∙ s.marked
      ];
    }

unmarked_shut : (rows : List Row) (i k : ℕ) → (i ≡ k → ⊥) → Shut rows i → Shut (marking rows k false) i
unmarked_shut rows i k ne s =
    let m = marks_one_row rows k false in
    record { within = omega (arith, m.count, s.within); marked = ap (λ (x : Row). x.marked) (m.others i ne) ∙ s.marked }

entering_shut : (rows : List Row) (i : ℕ) (accepted : Bool) (o : Option ℕ) → Shut rows i → Shut (cond accepted (mark_found rows o true) rows) i
entering_shut rows i false o s = s
entering_shut rows i true None s = s
entering_shut rows i true (Some k) s = marked_shut rows i k s

leaving_shut : (rows : List Row) (i : ℕ) (o : Option ℕ) → (o ≡ Some i → ⊥) → Shut rows i → Shut (mark_found rows o false) i
leaving_shut rows i None h s = s
leaving_shut rows i (Some k) h s = unmarked_shut rows i k (λ e. h (ap Some (sym e))) s

done_shut : (state : LoginView) (order : Order) (i : ℕ) → Spares i state order → Shut state.rows i → Shut (done state order).rows i
done_shut state (account u c p) i h s = joined_shut state.rows i (joining state.rows u c p) s
done_shut state (hub a b) i h s = s
done_shut state (login asked) i h s =
    entering_shut state.rows i (is_accepted (status_for state.rows state.session state.highest asked)) (found state.rows asked.user asked.computer) s
done_shut state (logout u c) i h s = leaving_shut state.rows i (found state.rows u c) h s

after_shut : (state : LoginView) (orders : List Order) (i : ℕ) → Spared i state orders → Shut state.rows i → Shut (after state orders).rows i
after_shut state [] i h s = s
after_shut state (order ∷ orders) i (h, rest) s = after_shut (done state order) orders i rest (done_shut state order i h s)

accepted : (state : LoginView) (asked : Asked) → replied state (login asked) ≡ Decided Accepted → status_for state.rows state.session state.highest asked ≡ Accepted
accepted state asked e = cc

entered_shut : (state : LoginView) (asked : Asked) (i : ℕ) → status_for state.rows state.session state.highest asked ≡ Accepted → found state.rows asked.user asked.computer ≡ Some i → Shut (entered state asked) i
entered_shut state asked i e f =
    let m = marks_one_row state.rows i true in
    let w = (fits state.rows asked.user asked.computer i f).within in
    let is : entered state asked ≡ marking state.rows i true = ap (λ (t : Status). cond (is_accepted t) (mark_found state.rows (found state.rows asked.user asked.computer) true) state.rows) e ∙ ap (λ (o : Option ℕ). mark_found state.rows o true) f in
    subst (λ (rows : List Row). Shut rows i) (sym is) (record { within = omega (arith, m.count, w); marked = ap (λ (x : Row). x.marked) (m.row w) })

pub one_at_a_time : OneAtATime
one_at_a_time state first again orders i let_in here spared there once_more =
    let shut = after_shut (done state (login first)) orders i spared (entered_shut state first i (accepted state first let_in) here) in
    let end = after state (login first ∷ orders) in
    both_ways _ (right end.rows end.session end.highest again (accepted end again once_more) i there).unmarked shut.marked
