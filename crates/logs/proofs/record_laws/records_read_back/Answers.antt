use Rattle.logs.proofs.Framed.{session_reads_back, message_reads_back, session_was_written, message_was_written}
use Rattle.logs.proofs.record_laws.records_read_back.Goals as goal

pub returns : goal.returns
returns c = record { session = session_reads_back; message = message_reads_back; session_back = session_was_written; message_back = message_was_written }
