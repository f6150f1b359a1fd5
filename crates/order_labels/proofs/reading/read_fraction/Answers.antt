use Rattle.std.proofs.Common.{◌∙◌, sym, ap, length, min}
use Rattle.std.proofs.lemmas.Bool.{eqb-true, eqb-false}
use Rattle.std.proofs.lemmas.List.{nil_from_length}
use Rattle.order_labels.specs.KeyValue.{KeyValue}
use Rattle.order_labels.proofs.ReadingLemmas.{read_key-nil, fraction_read, tail_of}
use Rattle.order_labels.proofs.reading.read_fraction.Goals as goal

pub returns-then-is_empty : goal.returns-then-is_empty
returns-then-is_empty c =
    let none = eqb-true (length c.args.bytes.now) 0 (sym c.if-is_empty.ensures) in
    nil_from_length c.args.bytes.now none ∙ sym (ap (λ (k : KeyValue). k.fraction) (read_key-nil c.args.bytes.now none))

pub returns : goal.returns
returns c =
    fraction_read c.args.bytes.now c.min.result (eqb-false (length c.args.bytes.now) 0 (sym c.if-is_empty.ensures))
    (c.min.ensures ∙ ap (λ n. min n (length (tail_of c.args.bytes.now))) c.count_of.ensures)
