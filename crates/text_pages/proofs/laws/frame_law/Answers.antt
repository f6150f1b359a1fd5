use Rattle.text_pages.proofs.Frames.{frame}
use Rattle.text_pages.proofs.laws.frame_law.Goals as goal

pub returns : goal.returns
returns c = frame
