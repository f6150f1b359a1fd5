use Rattle.std.proofs.Common.{◌≡◌, true, sym, ap, ◌∙◌, subst}
use Rattle.std.specs.FinMap as map
use Rattle.page_bytes.specs.Known.{is_unknown}
use Rattle.page_bytes.specs.Work.{Work}
use Rattle.page_bytes.specs.Changes.{change_of, IsChange, IsLongChange}
use Rattle.page_bytes.specs.Inside.{pages_of}
use Rattle.page_bytes.proofs.Listing.{IsChange-pages_of, IsChange-same, unknown_below}
use Rattle.page_bytes.proofs.workspace.Workspace.finish.Goals as goal

pub returns-clause-listed : goal.returns-clause-listed
returns-clause-listed c id =
    let i = c.self.inside in
    subst (λ (w : Work). IsChange (map.get w.below id) (map.get w.now.pages id) (change_of c.of.result id)) c.self.view_is
    (subst (IsChange (map.get i.below id) (map.get (pages_of i.below i.drafts i.gone i.whole) id))
    (sym (ap (λ list. change_of list id) c.of.ensures ∙ c.in_ok-items.ensures.listed id))
    (IsChange-pages_of i.below i.drafts i.gone i.whole id (map.get c.in_ok-found.found id) (c.in_ok-found.ensures.changes id)))

pub returns-clause-unknown : goal.returns-clause-unknown
returns-clause-unknown c id unknown =
    let i = c.self.inside in
    let same = subst (λ (w : Work). is_unknown w.now id ≡ true → map.get w.below id ≡ map.get w.now.pages id) c.self.view_is
    (unknown_below i.below i.drafts i.gone i.whole id) unknown in
    IsChange-same (map.get c.args.self.below id) (map.get c.args.self.now.pages id) (change_of c.of.result id) same
    (subst (λ (w : Work). IsChange (map.get w.below id) (map.get w.now.pages id) (change_of c.of.result id)) c.self.view_is
    (subst (IsChange (map.get i.below id) (map.get (pages_of i.below i.drafts i.gone i.whole) id))
    (sym (ap (λ list. change_of list id) c.of.ensures ∙ c.in_ok-items.ensures.listed id))
    (IsChange-pages_of i.below i.drafts i.gone i.whole id (map.get c.in_ok-found.found id) (c.in_ok-found.ensures.changes id))))

pub returns-clause-long : goal.returns-clause-long
returns-clause-long c id =
    subst IsLongChange (sym (ap (λ list. change_of list id) c.of.ensures ∙ c.in_ok-items.ensures.listed id)) (c.in_ok-found.ensures.long id)
