use Rattle.logins.proofs.Runs.{one_at_a_time}
use Rattle.logins.proofs.laws.one_login_at_a_time.Goals as goal

pub returns : goal.returns
returns c = one_at_a_time
