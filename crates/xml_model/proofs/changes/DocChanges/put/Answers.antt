use Rattle.std.proofs.Common.{◌<◌, ap, sym, subst, ◌∙◌}
use Rattle.std.specs.FinMap as map
use Rattle.xml_model.specs.Changes.{AreValidChanges, unshared, changes_of_entries}
use Rattle.xml_model.proofs.Entries.{on_ok, entries-insert}
use Rattle.xml_model.proofs.Validity.{put_is_valid}
use Rattle.xml_model.proofs.changes.DocChanges.put.Goals as goal

pub invariant_of-self : goal.invariant_of-self
invariant_of-self c =
    let room = subst (λ v. 0 < v.room) (sym c.self.view_is) c.requires.room in
    subst AreValidChanges
    (sym (entries-insert c.self.inside.entries c.insert.new.self c.into_string.result c.args.after
    (on_ok c.insert.result (c.insert.ensures.succeeds room) c.insert.ensures.updates)
    ∙ ap (λ name. map.insert (changes_of_entries c.self.inside.entries.entries) name (unshared c.args.after)) c.into_string.ensures))
    (put_is_valid (changes_of_entries c.self.inside.entries.entries) c.args.name (unshared c.args.after) c.self.invariant c.requires.named c.requires.valid)

pub returns-clause-changes : goal.returns-clause-changes
returns-clause-changes c =
    let room = subst (λ v. 0 < v.room) (sym c.self.view_is) c.requires.room in
    entries-insert c.self.inside.entries c.insert.new.self c.into_string.result c.args.after
    (on_ok c.insert.result (c.insert.ensures.succeeds room) c.insert.ensures.updates)
    ∙ ap (λ name. map.insert (changes_of_entries c.self.inside.entries.entries) name (unshared c.args.after)) c.into_string.ensures
    ∙ ap (λ v. map.insert v.changes c.args.name (unshared c.args.after)) c.self.view_is
