use Rattle.std.proofs.Common.{rules, sym, ap, ◌∙◌}
use Rattle.hist_lock.specs.Passes.{hands}
use Rattle.hist_lock.proofs.Steps.{joins_pass}
use Rattle.hist_lock.proofs.lock.HistLock.join.Goals as goal

pub join_seat-requires : goal.join_seat-requires
join_seat-requires g c = let is = c.into_seat.ensures.known in (
  ap (λ k. k.lock) c.opener.view_is ∙ (c.requires.lock ∙ sym c.self.view_is),
  ap (λ k. k.lock) is ∙ (c.requires.same_lock ∙ sym c.self.view_is),
  c.into_seat.ensures.holding ∙ ap hands (ap (λ k. k.inside) is ∙ c.requires.other),
  search rules,
  joins_pass g.T.Storied.events g.T.Storied.session g.T.Storied.origin _ _ _ _ c.into_seat.result.me.0 g.T.Storied.nowhere c.opener.invariant.live
      c.into_seat.ensures.live (ap (λ k. k.id) c.opener.view_is ∙ c.requires.opener) (ap (λ k. k.inside) c.opener.view_is ∙ c.requires.outside)
      (ap (λ k. k.inside) is ∙ c.requires.other),
)
