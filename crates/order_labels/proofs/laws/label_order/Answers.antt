use Rattle.std.proofs.lemmas.Cmp.{nat_list_cmp_total}
use Rattle.order_labels.proofs.ByteOrder.{same_from_order}
use Rattle.order_labels.proofs.LabelLemmas.{ancestor_below, siblings_in_order}
use Rattle.order_labels.proofs.laws.label_order.Goals as goal

pub returns : goal.returns
returns c = record {
  total = nat_list_cmp_total;
  equal = same_from_order;
  ancestors = ancestor_below;
  siblings = λ parent x y a b q l. siblings_in_order parent a b q l x y;
}
