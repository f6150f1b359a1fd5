use Rattle.std.proofs.Common.{◌∙◌, ap, sym}
use Rattle.std.specs.Option.{option_map}
use Rattle.std.proofs.lemmas.List.{drop_all}
use Rattle.page_versions.specs.Chains.{version_at}
use Rattle.page_versions.proofs.Chaining.{at_skip, at_found}
use Rattle.page_versions.proofs.chain.Chain.at.Goals as goal

pub returns-then-version-commit : goal.returns-then-version-commit
returns-then-version-commit c =
    ap (option_map (λ v. v.image))
    (sym (at_found c.deref-version-items.result.now c.loop-version.version-index c.version-item.result c.args.commit c.loop-version-test.true c.version-item.is
    c.if-version-commit.true)
    ∙ c.loop-version.invariant ∙ ap (λ xs. version_at xs c.args.commit) (c.deref-version-items.ensures.value ∙ c.self.view_is))

pub loop-version-preserved : goal.loop-version-preserved
loop-version-preserved c =
    at_skip c.deref-version-items.result.now c.loop-version.version-index c.version-item.result c.args.commit c.loop-version-test.true c.version-item.is
    c.if-version-commit.false
    ∙ c.loop-version.invariant

pub returns : goal.returns
returns c =
    ap (option_map (λ v. v.image))
    (ap (λ xs. version_at xs c.args.commit) (sym (drop_all c.loop-version.version-index c.deref-version-items.result.now c.loop-version-test.false))
    ∙ c.loop-version.invariant ∙ ap (λ xs. version_at xs c.args.commit) (c.deref-version-items.ensures.value ∙ c.self.view_is))
