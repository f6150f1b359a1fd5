use Rattle.std.proofs.Common.{◌≡◌, ◌++◌, ◌<◌, map, sym, ap, ◌∙◌, subst, rules}
use Rattle.std.specs.Prelude.{OnOk}
use Rattle.slot_store.specs.Spent.{count_residents}
use Rattle.std.proofs.lemmas.List.{append-nil}
use Rattle.std.specs.FinMap as maps
use Rattle.page_versions.specs.Chains.{version_at}
use Rattle.slot_store.specs.Planned.{before_of, written_slots}
use Rattle.slot_store.proofs.Giving.{gives_none, no_version, found_version}
use Rattle.slot_store.proofs.placing.place_newest.Goals as goal

pub returns-in-None-clause-pages : goal.returns-in-None-clause-pages
returns-in-None-clause-pages c =
    let old = map before_of c.args.placed.now.items in
    sym (append-nil old) ∙ ap (λ l. old ++ l) (sym (no_version c.args.id (version_at c.args.chain.now c.args.commit) (search rules)))

pub returns-in-None-clause-slots : goal.returns-in-None-clause-slots
returns-in-None-clause-slots c =
    gives_none (λ s. maps.contains_key c.args.used.now s) c.args.from.now (written_slots c.args.placed.now.items)

pub returns-in-Some-clause-pages : goal.returns-in-Some-clause-pages
returns-in-Some-clause-pages c =
    let found = found_version c.args.id (version_at c.args.chain.now c.args.commit) c.in-Some.image.now (search rules) in
    subst (λ l. OnOk c.place_image.result (map before_of c.place_image.new.placed.items ≡ map before_of c.args.placed.now.items ++ l)) (sym found)
    c.place_image.ensures.pages

pub returns-in-Some-clause-spent : goal.returns-in-Some-clause-spent
returns-in-Some-clause-spent c kind n is =
    let found = found_version c.args.id (version_at c.args.chain.now c.args.commit) c.in-Some.image.now (search rules) in
    let spent = c.place_image.ensures.spent kind n is in (spent.0, spent.1, subst (λ l. 0 < count_residents l) (sym found) spent.2)
