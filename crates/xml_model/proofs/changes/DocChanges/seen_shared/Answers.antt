use Rattle.std.proofs.Common.{ap, sym, subst, ◌∙◌}
use Rattle.std.specs.FinMap as map
use Rattle.xml_model.specs.Changes.{unshared, changes_of_entries}
use Rattle.xml_model.proofs.Laying.{seen_as, get-laid}
use Rattle.xml_model.proofs.Entries.{entry_of, get-entries}
use Rattle.xml_model.proofs.Validity.{IsAt, changed_is_at}
use Rattle.xml_model.proofs.changes.DocChanges.seen_shared.Goals as goal

pub returns-in-Some-clause-document : goal.returns-in-Some-clause-document
returns-in-Some-clause-document c =
    ap unshared c.as_ref.ensures.value
    ∙ ap (λ o. seen_as o (map.get c.args.base.now c.args.name.now)) (ap entry_of c.in-Some.ensures.value
    ∙ sym (get-entries c.self.inside.entries.entries c.as_str.result.now))
    ∙ ap (λ q. seen_as (map.get (changes_of_entries c.self.inside.entries.entries) q) (map.get c.args.base.now c.args.name.now)) c.as_str.ensures
    ∙ ap (λ v. seen_as (map.get v.changes c.args.name.now) (map.get c.args.base.now c.args.name.now)) c.self.view_is
    ∙ sym (get-laid c.args.self.now.changes c.args.base.now c.args.name.now)

pub returns-in-Some-clause-valid : goal.returns-in-Some-clause-valid
returns-in-Some-clause-valid c =
    subst (IsAt c.args.name.now) (sym (ap unshared c.as_ref.ensures.value))
    (changed_is_at (changes_of_entries c.self.inside.entries.entries) c.args.name.now (unshared c.in-Some.after.now) c.self.invariant
    (ap (map.get (changes_of_entries c.self.inside.entries.entries)) (sym c.as_str.ensures)
    ∙ get-entries c.self.inside.entries.entries c.as_str.result.now ∙ ap entry_of (sym c.in-Some.ensures.value)))

pub returns-in-None-clause-document : goal.returns-in-None-clause-document
returns-in-None-clause-document c =
    c.shared.ensures.document
    ∙ ap (λ o. seen_as o (map.get c.args.base.now c.args.name.now)) (ap entry_of c.in-None.ensures.value
    ∙ sym (get-entries c.self.inside.entries.entries c.as_str.result.now))
    ∙ ap (λ q. seen_as (map.get (changes_of_entries c.self.inside.entries.entries) q) (map.get c.args.base.now c.args.name.now)) c.as_str.ensures
    ∙ ap (λ v. seen_as (map.get v.changes c.args.name.now) (map.get c.args.base.now c.args.name.now)) c.self.view_is
    ∙ sym (get-laid c.args.self.now.changes c.args.base.now c.args.name.now)
