use Rattle.packet.proofs.Back.{reads_back}
use Rattle.packet.proofs.Forth.{writes_back}
use Rattle.packet.proofs.laws.reading_undoes_writing.Goals as goal

pub returns : goal.returns
returns c = record { back = reads_back; again = writes_back }
