use Rattle.std.proofs.Common.{ℕ, List, Result, subst}
use Rattle.page_bytes.specs.declared.ids.PageId.{PageId}
use Rattle.redo_log.specs.Gives.{Gives}
use Rattle.redo_log.proofs.BySpace.{by_space_is}
use Rattle.redo_log.specs.Reading.{last_in}
use Rattle.redo_log.proofs.pages.id_at.Goals as goal

pub returns-clause-gives : goal.returns-clause-gives
returns-clause-gives c =
    subst (λ (r : Result (PageId × List ℕ) ℕ). Gives (λ x. (x.0, x.1.now)) c.id_by_space.result r)
    (by_space_is (last_in c.args.done.now) c.args.spaces.now c.args.bytes.now) c.id_by_space.ensures.gives
