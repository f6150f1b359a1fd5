use Rattle.std.proofs.Common.{rules, ap, ◌∙◌}
use Rattle.hist_lock.proofs.Steps.{looks_on, splits_pass}
use Rattle.hist_lock.proofs.lock.HistLock.split.Goals as goal

pub load-requires : goal.load-requires
load-requires g c = (
  search rules,
  search rules,
  looks_on g.T.Storied.events g.T.Storied.session g.T.Storied.origin _ _ _ _ c.opener.invariant.live (ap (λ k. k.id) c.opener.view_is ∙ c.requires.opener),
)

pub split_seat-seat-requires : goal.split_seat-seat-requires
split_seat-seat-requires g c = let same = c.load.ensures.2.0 in (
  search rules,
  search rules,
  splits_pass g.T.Storied.events g.T.Storied.session g.T.Storied.origin _ _ _ (ap (λ m. m.0.live) same ∙ c.opener.invariant.live) (ap (λ m. m.0.id) same
      ∙ (ap (λ k. k.id) c.opener.view_is ∙ c.requires.opener))
      (ap (λ m. m.0.inside) same ∙ (ap (λ k. k.inside) c.opener.view_is ∙ c.requires.outside)),
)
