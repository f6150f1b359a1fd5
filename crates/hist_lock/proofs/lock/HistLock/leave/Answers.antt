use Rattle.std.proofs.Common.{◌≡◌, ◌++◌, true, true≢false, sym, ap, ◌∙◌, subst}
use Rattle.hist_lock.specs.Story.{AllOf}
use Rattle.hist_lock.specs.Passes.{hands}
use Rattle.hist_lock.proofs.Lists.{more_events}
use Rattle.hist_lock.proofs.Steps.{left_known}
use Rattle.hist_lock.proofs.lock.HistLock.leave.Goals as goal

pub overflow_sub-more : goal.overflow_sub-more
overflow_sub-more g c =
    let ev = c.requires.events in
    let v = c.pass.inside.seat.me.0 in
    let seen_is : v.seen ≡ c.args.pass.now.seen = ap (λ k. k.seen) c.pass.view_is in
    let list : g.T.Storied.events c.args.held.value ≡ v.seen ++ ev.0 = ev.1 ∙ ap (λ s. s ++ ev.0) (sym seen_is) in
    let is_in : v.inside ≡ true = ap (λ k. k.inside) c.pass.view_is ∙ c.requires.inside in
    let many = more_events (g.T.Storied.events c.args.held.value) v.seen ev.0 c.pass.inside.found c.count.result list
    (c.pass.invariant.counted is_in) c.count.ensures in
    many.0

pub give-requires : goal.give-requires
give-requires g c =
    let ev = c.requires.events in
    let v = c.pass.inside.seat.me.0 in
    let seen_is : v.seen ≡ c.args.pass.now.seen = ap (λ k. k.seen) c.pass.view_is in
    let list : g.T.Storied.events c.args.held.value ≡ v.seen ++ ev.0 = ev.1 ∙ ap (λ s. s ++ ev.0) (sym seen_is) in
    let is_in : v.inside ≡ true = ap (λ k. k.inside) c.pass.view_is ∙ c.requires.inside in
    let many = more_events (g.T.Storied.events c.args.held.value) v.seen ev.0 c.pass.inside.found c.count.result list
    (c.pass.invariant.counted is_in) c.count.ensures in
    record {
      lock = ap (λ k. k.lock) c.pass.view_is ∙ c.requires.lock;
      holding = (c.pass.invariant.live, is_in, c.pass.invariant.holding ∙ ap hands is_in);
      events = (ev.0, list, subst (λ n. AllOf g.T.Storied.session n ev.0) (ap (λ k. k.id) (sym c.pass.view_is)) ev.2, many.1);
      origin = c.requires.origin ∙ ap (λ k. k.origin) (sym c.pass.view_is);
      small = c.requires.small;
    }

pub invariant_of-pass : goal.invariant_of-pass
invariant_of-pass g c =
    let ev = c.requires.events in
    let v = c.pass.inside.seat.me.0 in
    let seen_is : v.seen ≡ c.args.pass.now.seen = ap (λ k. k.seen) c.pass.view_is in
    let list : g.T.Storied.events c.args.held.value ≡ v.seen ++ ev.0 = ev.1 ∙ ap (λ s. s ++ ev.0) (sym seen_is) in
    let end = c.give.ensures.me ev.0 list in
    record {
      live = ap (λ m. m.0.live) end ∙ c.pass.invariant.live;
      counts = c.pass.invariant.counts ∙ sym (ap (λ m. m.0.made) end);
      holding = ap (λ m. m.1) end ∙ ap (λ m. hands m.0.inside) (sym end);
      counted = λ e. absurd (true≢false (sym e ∙ ap (λ m. m.0.inside) end));
    }

pub returns-clause-pass : goal.returns-clause-pass
returns-clause-pass g c =
    let ev = c.requires.events in
    let v = c.pass.inside.seat.me.0 in
    let seen_is : v.seen ≡ c.args.pass.now.seen = ap (λ k. k.seen) c.pass.view_is in
    let list : g.T.Storied.events c.args.held.value ≡ v.seen ++ ev.0 = ev.1 ∙ ap (λ s. s ++ ev.0) (sym seen_is) in
    let end = c.give.ensures.me ev.0 list in
    left_known c.pass.inside.seat.table_id c.give.new.seat.table_id c.args.pass.now v c.give.new.seat.me.0
    (g.T.Storied.events c.args.held.value) _ c.pass.view_is c.give.ensures.lock (ap (λ m. m.0) end)

pub returns-clause-mine : goal.returns-clause-mine
returns-clause-mine g c new more =
    let seen_is : c.pass.inside.seat.me.0.seen ≡ c.args.pass.now.seen = ap (λ k. k.seen) c.pass.view_is in
    let end = c.give.ensures.me new (more ∙ ap (λ s. s ++ new) (sym seen_is)) in
    ap (λ m. m.0.mine) end ∙ ap (λ k. k.mine ++ new) c.pass.view_is
