use Rattle.std.proofs.Common.{◌-◌, ◌^◌, vec_len}
use Rattle.page_bytes.proofs.TextWalks.{HasJoined}
use Rattle.page_bytes.proofs.texts.text_at.Given as goal

abbrev pub decreases-loop-at : goal.decreases-loop-at
decreases-loop-at g l = 2 ^ 64 - vec_len l.text

abbrev pub invariant-loop-at : goal.invariant-loop-at
invariant-loop-at g l = HasJoined (g.P.Pages.known l.pages) l.fn.space l.fn.first l.at l.from l.text.items l.mark.at
