use Rattle.std.proofs.Common.{◌∙◌, ap, sym, refl, drop, add-one, arith, length, ◌≤◌}
use Rattle.std.specs.List.{list_any}
use Rattle.std.proofs.lemmas.List.{drop_all}
use Rattle.page_versions.specs.Purging.{is_between}
use Rattle.page_versions.proofs.Chaining.{any_skip, any_at}
use Rattle.page_versions.proofs.seen.is_seen.Goals as goal

pub loop-key-preserved : goal.loop-key-preserved
loop-key-preserved c =
    let test = is_between c.args.from c.args.to in let slots = c.args.snapshots.now.slots in
    ap (λ k. list_any test (drop k slots)) (add-one c.loop-key.key)
    ∙ any_skip test slots c.loop-key.key refl (sym c.is_open_between.ensures ∙ c.if-is_open_between.false) ∙ c.loop-key.invariant

pub returns-then-is_open_between : goal.returns-then-is_open_between
returns-then-is_open_between c =
    let test = is_between c.args.from c.args.to in let slots = c.args.snapshots.now.slots in
    sym (any_at test slots c.loop-key.key refl (sym c.is_open_between.ensures ∙ c.if-is_open_between.true)) ∙ c.loop-key.invariant

pub returns : goal.returns
returns c =
    let test = is_between c.args.from c.args.to in let slots = c.args.snapshots.now.slots in
    let past : length slots ≤ c.loop-key.key = omega arith in
    ap (list_any test) (sym (drop_all c.loop-key.key slots past)) ∙ c.loop-key.invariant
