use Rattle.std.proofs.Common.{◌≡◌, Some, sym, ap, ◌∙◌, subst}
use mathlib.Core.Option.{some-injective}
use Rattle.hist_lock.specs.Passes.{AllJoined, ClosedAs, known_of}
use Rattle.hist_lock.proofs.Steps.{closes_lock}
use Rattle.hist_lock.proofs.lock.HistLock.close.Goals as goal

pub unreachable-requires : goal.unreachable-requires
unreachable-requires g c =
    let is = c.into_seat.ensures.known in
    let t = closes_lock g.T.Storied.events g.T.Storied.session g.T.Storied.origin _ c.into_seat.result.table_id _ c.into_seat.result.me.0 _ _
    c.into_seat.ensures.live (ap (λ k. k.id) is ∙ c.requires.opener)
    (ap (λ k. k.inside) is ∙ c.requires.outside) (subst AllJoined (sym is) c.requires.joined) c.close_with-closed.ensures.values.2 in
    c.in_default.not-Some t.0 (some-injective _ _ (sym c.take-slot.ensures.value ∙ t.1))

pub returns-clause-origin : goal.returns-clause-origin
returns-clause-origin g c =
    let is = c.into_seat.ensures.known in
    let t = closes_lock g.T.Storied.events g.T.Storied.session g.T.Storied.origin _ c.into_seat.result.table_id _ c.into_seat.result.me.0 _ _
    c.into_seat.ensures.live (ap (λ k. k.id) is ∙ c.requires.opener)
    (ap (λ k. k.inside) is ∙ c.requires.outside) (subst AllJoined (sym is) c.requires.joined) c.close_with-closed.ensures.values.2 in
    let came : c.take-slot.result ≡ Some t.0 = some-injective _ _ (sym c.take-slot.ensures.value ∙ t.1) in
    let same : t.0 ≡ c.in-Some.value = cc (came, c.in-Some.is) in
    ap g.T.Storied.origin (sym same) ∙ (t.2 ∙ ap (λ k. k.origin) is)

pub returns-clause-list : goal.returns-clause-list
returns-clause-list g c =
    let is = c.into_seat.ensures.known in
    let t = closes_lock g.T.Storied.events g.T.Storied.session g.T.Storied.origin _ c.into_seat.result.table_id _ c.into_seat.result.me.0 _ _
    c.into_seat.ensures.live (ap (λ k. k.id) is ∙ c.requires.opener)
    (ap (λ k. k.inside) is ∙ c.requires.outside) (subst AllJoined (sym is) c.requires.joined) c.close_with-closed.ensures.values.2 in
    let came : c.take-slot.result ≡ Some t.0 = some-injective _ _ (sym c.take-slot.ensures.value ∙ t.1) in
    let same : t.0 ≡ c.in-Some.value = cc (came, c.in-Some.is) in
    subst (ClosedAs g.T.Storied.session (g.T.Storied.events c.in-Some.value)) is
    (subst (λ x. ClosedAs g.T.Storied.session (g.T.Storied.events x) (known_of c.into_seat.result.table_id c.into_seat.result.me.0)) same t.3)
