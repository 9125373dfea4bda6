use Rattle.std.proofs.Common.{subst}
use Rattle.std.proofs.lemmas.Result.{err_from_is_err_and}
use Rattle.pump.specs.Passing.{PaceAllowed}
use Rattle.pump.proofs.passing.make_line.Goals as goal

pub returns-in_err-new-in-Ring-Some-2-clause-refused : goal.returns-in_err-new-in-Ring-Some-2-clause-refused
returns-in_err-new-in-Ring-Some-2-clause-refused c =
    let p = err_from_is_err_and c.from_residual-in_err-new-in-Ring-Some-2.result c.from_residual-in_err-new-in-Ring-Some-2.ensures.1 in
    rw (p.1, p.2) (λ _ a. c.in_err-new-in-Ring-Some-2.ensures.0 (subst PaceAllowed c.in-Ring-Some.is-1 a))

pub returns-in_err-new-in-Straight-Some-2-clause-refused : goal.returns-in_err-new-in-Straight-Some-2-clause-refused
returns-in_err-new-in-Straight-Some-2-clause-refused c =
    let p = err_from_is_err_and c.from_residual-in_err-new-in-Straight-Some-2.result c.from_residual-in_err-new-in-Straight-Some-2.ensures.1 in
    rw (p.1, p.2) (λ _ a. c.in_err-new-in-Straight-Some-2.ensures.0 (subst PaceAllowed c.in-Straight-Some.is-1 a))
