use Rattle.std.proofs.Common.{◌≡◌, sym, subst}
use Rattle.order_labels.specs.LabelShape.{child_label, IsLabel, child, IsParent}
use Rattle.order_labels.proofs.LabelLemmas.{parent_is_nearest}
use Rattle.order_labels.proofs.label.child.Goals as goal

label_is : (c : goal.In_ok-push) → c.push.new.self.items ≡ child_label c.args.parent.now c.args.key.now
label_is c =
    rw (c.in_ok-push.ensures.items, c.in_ok-push_code.ensures.code, c.in_ok-bytes.ensures.items, c.as_bytes.ensures)

pub returns-clause-parent : goal.returns-clause-parent
returns-clause-parent c =
    subst (IsParent c.args.parent.now) (sym (label_is c)) (parent_is_nearest c.args.parent.now c.args.key.now c.in_ok-push_code.ensures.key)

pub returns-clause-well_formed : goal.returns-clause-well_formed
returns-clause-well_formed c well =
    subst IsLabel (sym (label_is c)) (child c.args.parent.now c.args.key.now well c.in_ok-push_code.ensures.key)
