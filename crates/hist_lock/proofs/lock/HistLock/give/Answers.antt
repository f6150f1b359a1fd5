use Rattle.std.proofs.Common.{◌≡◌, ◌++◌, Some, List, [], ◌∷◌, rules, sym, ap, ◌∙◌, subst}
use Rattle.atomic_table.specs.Table.{rest}
use Rattle.hist_lock.specs.Story.{AllOf}
use Rattle.hist_lock.specs.Views.{added, left}
use Rattle.hist_lock.proofs.Lists.{same_rest}
use Rattle.hist_lock.proofs.Steps.{raises_count, frees_turn, left_as}
use Rattle.hist_lock.proofs.lock.HistLock.give.Goals as goal

pub fetch_add-requires : goal.fetch_add-requires
fetch_add-requires g c =
    let x = c.args.value in
    let v = c.args.seat.now.me.0 in
    let me_is : c.exchange-empty.new.seat.me ≡ (v, (0, Some x) ∷ []) = c.in-None.ensures.3 ∙ ap (λ cs. (v, (0, Some x) ∷ rest cs)) c.requires.holding.2 in
    let ev = c.requires.events in (
      search rules,
      search rules,
      raises_count g.T.Storied.events g.T.Storied.session g.T.Storied.origin _ _ _ _ x ev.0 _
          (ap (λ m. m.0.live) me_is ∙ c.requires.holding.0)
          (ap (λ m. m.0.inside) me_is ∙ c.requires.holding.1)
          (ap (λ m. m.1) me_is)
          (ev.1 ∙ ap (λ m. m.0.seen ++ ev.0) (sym me_is))
          (subst (λ m. AllOf g.T.Storied.session m.0.id ev.0) (sym me_is) ev.2)
          c.requires.small
          ev.3,
    )

pub swap-requires : goal.swap-requires
swap-requires g c =
    let x = c.args.value in
    let v = c.args.seat.now.me.0 in
    let me_is : c.exchange-empty.new.seat.me ≡ (v, (0, Some x) ∷ []) = c.in-None.ensures.3 ∙ ap (λ cs. (v, (0, Some x) ∷ rest cs)) c.requires.holding.2 in
    let ev = c.requires.events in
    let told = c.fetch_add.ensures.2 x ev.0 (ap (λ m. m.1) me_is) (ev.1 ∙ ap (λ m. m.0.seen ++ ev.0) (sym me_is))
    (subst (λ m. AllOf g.T.Storied.session m.0.id ev.0) (sym me_is) ev.2) in (
      search rules,
      search rules,
      frees_turn g.T.Storied.events g.T.Storied.session g.T.Storied.origin _ _ _ _ x
          (ap (λ m. m.0.live) told ∙ ap (λ m. m.0.live) me_is ∙ c.requires.holding.0)
          (ap (λ m. m.0.inside) told ∙ ap (λ m. m.0.inside) me_is ∙ c.requires.holding.1)
          (ap (λ m. m.1) told ∙ ap (λ m. m.1) me_is)
          (ap (λ m. m.0.seen) (sym told))
          (c.requires.origin ∙ ap (λ m. m.0.origin) (sym me_is) ∙ ap (λ m. m.0.origin) (sym told)),
    )

pub returns-clause-me : goal.returns-clause-me
returns-clause-me g c new list =
    let x = c.args.value in
    let v = c.args.seat.now.me.0 in
    let me_is : c.exchange-empty.new.seat.me ≡ (v, (0, Some x) ∷ []) = c.in-None.ensures.3 ∙ ap (λ cs. (v, (0, Some x) ∷ rest cs)) c.requires.holding.2 in
    let ev = c.requires.events in
    let told = c.fetch_add.ensures.2 x ev.0 (ap (λ m. m.1) me_is) (ev.1 ∙ ap (λ m. m.0.seen ++ ev.0) (sym me_is))
    (subst (λ m. AllOf g.T.Storied.session m.0.id ev.0) (sym me_is) ev.2) in
    let end = left_as g.T.Storied.events g.T.Storied.session g.T.Storied.origin g.T.Storied.nowhere v x ev.0 _ _ _ me_is told c.swap.ensures.2 in
    end ∙ ap (λ (z : List _). (left (added v (g.T.Storied.events x) (v.mine ++ z)), [])) (same_rest v.seen ev.0 new (sym ev.1 ∙ list))
