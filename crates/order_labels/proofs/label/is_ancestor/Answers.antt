use Rattle.order_labels.proofs.LabelLemmas.{ancestor_decides}
use Rattle.order_labels.proofs.label.is_ancestor.Goals as goal

pub returns : goal.returns
returns c =
    rw (← c.as_bytes-above.ensures, ← c.as_bytes-below.ensures)
    (ancestor_decides c.as_bytes-above.result.now c.as_bytes-below.result.now c.eq.result c.if-above-below.false c.eq.ensures)
