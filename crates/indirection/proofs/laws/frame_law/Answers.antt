use Rattle.indirection.proofs.Frames.{frame}
use Rattle.indirection.proofs.laws.frame_law.Goals as goal

pub returns : goal.returns
returns c = frame
