use Rattle.std.proofs.Common.{sym, ap, ◌∙◌}
use Rattle.redo_log.specs.Store.{entry_of}
use Rattle.std.specs.BTreeMap as tree
use Rattle.redo_log.proofs.NameMaps.{get-names_of}
use Rattle.redo_log.proofs.catalogue.Catalogue.get.Goals as goal

pub returns : goal.returns
returns c =
    let m = c.self.inside.names in let name = c.args.name.now in
    c.copied.ensures ∙ (c.get.ensures.value ∙ (ap (tree.get_by_text m) c.as_str.ensures ∙ (sym (get-names_of m name) ∙ ap (entry_of name) c.self.view_is)))
