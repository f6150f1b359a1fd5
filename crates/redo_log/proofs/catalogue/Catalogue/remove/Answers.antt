use Rattle.std.proofs.Common.{sym, ap, ◌∙◌}
use Rattle.std.specs.FinMap as finite
use Rattle.std.specs.BTreeMap as tree
use Rattle.redo_log.specs.Names.{Names}
use Rattle.redo_log.specs.Store.{entry_of}
use Rattle.redo_log.proofs.NameMaps.{names_of, get-names_of, names_of-remove}
use Rattle.redo_log.proofs.catalogue.Catalogue.remove.Goals as goal

pub returns-clause-was : goal.returns-clause-was
returns-clause-was c =
    let m = c.self.inside.names in let name = c.args.name.now in
    c.remove.ensures.value ∙ (ap (tree.get_by_text m) c.as_str.ensures ∙ (sym (get-names_of m name) ∙ ap (entry_of name) c.self.view_is))

pub returns-clause-left : goal.returns-clause-left
returns-clause-left c =
    names_of-remove c.self.inside.names c.remove.new.self c.as_str.result.now c.remove.ensures.updates
    ∙ (ap (finite.remove (names_of c.self.inside.names)) c.as_str.ensures ∙ ap (λ (m : Names). finite.remove m c.args.name.now) c.self.view_is)
