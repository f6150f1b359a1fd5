use Rattle.std.proofs.Common.{ap, sym, ◌∙◌}
use Rattle.std.specs.FinMap as map
use Rattle.doc_locks.proofs.Entries.{get-names}
use Rattle.doc_locks.proofs.held.HeldNames.mode.Goals as goal

pub returns : goal.returns
returns c =
    c.copied.ensures ∙ c.get.ensures.value ∙ sym (get-names c.self.inside.modes.entries c.as_str.result.now)
    ∙ ap (λ m. map.get m c.as_str.result.now) c.self.view_is ∙ ap (map.get c.args.self.now) c.as_str.ensures
