-- How the answers of a call's parts make up its own.
use Rattle.std.proofs.Common.{◌≡◌, ℕ, Option, Some, None, Ok}
use Rattle.page_bytes.specs.declared.end.PageEnd.{PageEnd}
use Rattle.page_bytes.specs.declared.ids.Space.{Space}
use Rattle.page_bytes.specs.Refusal.{fresh_refusal}
use Rattle.page_bytes.specs.Work.{Work, next_in}
use Rattle.indirection.specs.Writing.{with_new}
use Rattle.page_bytes.specs.Answers.{unless, Answers}
use Rattle.indirection.specs.Adding.{new_in}

unless_answered : {X : Type 0} (refusal : Option PageEnd) (p : X × Work) (x : X) (w : Work) → Answers (unless refusal p) (Ok x) w → w ≡ p.1
unless_answered (Some e) p x w is = absurd is
unless_answered None p x w is = is.1

-- where a new page was given it is there
pub answered_new : (w : Work) (space : Space) (kind n : ℕ) (w' : Work) → Answers (new_in w space kind) (Ok n) w' → w' ≡ with_new kind w space
answered_new w space kind n w' is = unless_answered (fresh_refusal w.now space) (next_in w space, with_new kind w space) n w' is
