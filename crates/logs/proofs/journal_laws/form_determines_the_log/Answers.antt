use Rattle.logs.proofs.Forms.{saved_once, saved_is_sound, broken_once, broken_has_a_fault}
use Rattle.logs.proofs.journal_laws.form_determines_the_log.Goals as goal

pub returns : goal.returns
returns c = record { once = saved_once; sound = saved_is_sound; place = broken_once; fault = broken_has_a_fault }
