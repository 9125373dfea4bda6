use Rattle.account.proofs.Padding.{judges_fields, fields_stay_apart}
use Rattle.account.proofs.laws.fields_stay_apart.Goals as goal

pub returns : goal.returns
returns c = record { judged = judges_fields; apart = fields_stay_apart }
