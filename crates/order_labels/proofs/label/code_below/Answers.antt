use Rattle.std.proofs.Common.{◌∙◌, ap, sym, length, take}
use Rattle.std.specs.Prelude.{not}
use Rattle.std.proofs.lemmas.Bool.{true≢false, not-false}
use Rattle.std.proofs.lemmas.Slice.Eq.{bytes_eq-Decides}
use Rattle.order_labels.proofs.LabelLemmas.{begins_with_parent, code_between}
use Rattle.order_labels.proofs.label.code_below.Goals as goal

pub returns-then-ne-clause-none : goal.returns-then-ne-clause-none
returns-then-ne-clause-none c code e =
    let parent = c.args.parent.now in
    let label = c.args.label.now in
    true≢false (c.if-ne.ensures ∙ ap not ((bytes_eq-Decides (take (length parent) label) parent).1 (begins_with_parent parent label code e)))

pub returns-clause-some : goal.returns-clause-some
returns-clause-some c =
    let parent = c.args.parent.now in
    let label = c.args.label.now in
    code_between parent label c.if-label-parent.false
    ((bytes_eq-Decides (take (length parent) label) parent).0 (not-false _ (sym c.if-ne.ensures))) c.if-label-end-ne-END_OF_KEY.false
