use Rattle.std.proofs.Common.{◌≡◌, Some, true, false, not, ◌&&◌, sym, ap, ◌∙◌}
use Rattle.std.specs.Option.{option_copied}
use Rattle.std.specs.FinMap as map
use Rattle.page_bytes.specs.Work.{Work}
use Rattle.page_bytes.specs.Inside.{stays}
use Rattle.page_bytes.proofs.Works.{page-drafted, page-hidden, page-below}
use Rattle.page_bytes.proofs.workspace.WorkspacePages.page.Goals as goal

pub returns-in-Some : goal.returns-in-Some
returns-in-Some c =
    let i = c.self.inside in let id = c.args.id in
    ap Some c.bytes.ensures
    ∙ sym (page-drafted i.below i.drafts i.gone i.whole id c.in-Some.draft.now (sym c.get.ensures ∙ ap option_copied c.in-Some.is))
    ∙ ap (λ (w : Work). map.get w.now.pages id) c.self.view_is

pub returns-then-has : goal.returns-then-has
returns-then-has c =
    let i = c.self.inside in let id = c.args.id in
    let whole : map.contains_key i.whole id.space ≡ true = sym c.has.ensures ∙ c.if-has.true in
    let out : stays i.gone i.whole id ≡ false = ap (λ b. not b && not (map.contains_key i.gone id)) whole in
    sym (page-hidden i.below i.drafts i.gone i.whole id (sym c.get.ensures ∙ ap option_copied c.in_default.is) out)
    ∙ ap (λ (w : Work). map.get w.now.pages id) c.self.view_is

pub returns-then-has-2 : goal.returns-then-has-2
returns-then-has-2 c =
    let i = c.self.inside in let id = c.args.id in
    let whole : map.contains_key i.whole id.space ≡ false = sym c.has.ensures ∙ c.if-has.false in
    let gone : map.contains_key i.gone id ≡ true = sym c.has-2.ensures ∙ c.if-has-2.true in
    let out : stays i.gone i.whole id ≡ false = λ j. not (whole j) && not (gone j) in
    sym (page-hidden i.below i.drafts i.gone i.whole id (sym c.get.ensures ∙ ap option_copied c.in_default.is) out)
    ∙ ap (λ (w : Work). map.get w.now.pages id) c.self.view_is

pub returns-in-Some-get : goal.returns-in-Some-get
returns-in-Some-get c =
    let i = c.self.inside in let id = c.args.id in
    let whole : map.contains_key i.whole id.space ≡ false = sym c.has.ensures ∙ c.if-has.false in
    let gone : map.contains_key i.gone id ≡ false = sym c.has-2.ensures ∙ c.if-has-2.false in
    let stay : stays i.gone i.whole id ≡ true = λ j. not (whole j) && not (gone j) in
    ap Some c.bytes-in-Some-get.ensures ∙ sym (ap option_copied c.in-Some-get.is) ∙ c.get-2.ensures
    ∙ sym (page-below i.below i.drafts i.gone i.whole id (sym c.get.ensures ∙ ap option_copied c.in_default.is) stay)
    ∙ ap (λ (w : Work). map.get w.now.pages id) c.self.view_is

pub returns-in-None : goal.returns-in-None
returns-in-None c =
    let i = c.self.inside in let id = c.args.id in
    let whole : map.contains_key i.whole id.space ≡ false = sym c.has.ensures ∙ c.if-has.false in
    let gone : map.contains_key i.gone id ≡ false = sym c.has-2.ensures ∙ c.if-has-2.false in
    let stay : stays i.gone i.whole id ≡ true = λ j. not (whole j) && not (gone j) in
    sym (ap option_copied c.in-None.is) ∙ c.get-2.ensures
    ∙ sym (page-below i.below i.drafts i.gone i.whole id (sym c.get.ensures ∙ ap option_copied c.in_default.is) stay)
    ∙ ap (λ (w : Work). map.get w.now.pages id) c.self.view_is
