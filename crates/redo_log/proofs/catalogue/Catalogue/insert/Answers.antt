use Rattle.std.proofs.Common.{List, ℕ, ap, ◌∙◌}
use Rattle.std.specs.Prelude.{string_bytes}
use Rattle.std.specs.FinMap as finite
use Rattle.redo_log.specs.Names.{Names}
use Rattle.redo_log.proofs.NameMaps.{names_of, names_of-insert}
use Rattle.redo_log.proofs.catalogue.Catalogue.insert.Goals as goal
use Rattle.redo_log.proofs.catalogue.Catalogue.insert.Goals.{in-Ok, in-Err}

pub returns : goal.returns
returns c =
    elim c.match-insert.branch [
      | in-Ok w ↦
          rw w.result-is (names_of-insert c.self.inside.names c.insert.new.self (string_bytes c.into_string.result) c.args.entry w.in-Ok.ensures.updates
          ∙ (ap (λ (b : List ℕ). finite.insert (names_of c.self.inside.names) b c.args.entry) c.into_string.ensures
          ∙ ap (λ (m : Names). finite.insert m c.args.name c.args.entry) c.self.view_is))
      | in-Err w ↦ rw w.result-is tt
    ]
