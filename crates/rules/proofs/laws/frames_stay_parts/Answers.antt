use Rattle.rules.proofs.Frames.{parts_lack}
use Rattle.rules.proofs.Keeps.{frames_stay_parts, frame_buffers_keep}
use Rattle.rules.proofs.laws.frames_stay_parts.Goals as goal

pub returns : goal.returns
returns c = record { parts = frames_stay_parts; lacking = parts_lack; buffers = frame_buffers_keep }
