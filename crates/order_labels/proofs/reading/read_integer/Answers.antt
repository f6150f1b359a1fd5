use Rattle.std.proofs.Common.{◌∙◌, sym, ap, length, min, ◌≡◌, arith}
use Rattle.std.proofs.lemmas.Bool.{eqb-true, eqb-false}
use Rattle.std.proofs.lemmas.Int.{ints}
use Rattle.order_labels.specs.KeyValue.{KeyValue}
use Rattle.order_labels.specs.Reading.{read_key}
use Rattle.order_labels.proofs.ReadingLemmas.{read_key-nil, integer_read, tail_of}
use Rattle.order_labels.proofs.reading.read_integer.Goals as goal

pub returns-then-is_empty-clause-value : goal.returns-then-is_empty-clause-value
returns-then-is_empty-clause-value c =
    sym (ap (λ (k : KeyValue). k.integer) (read_key-nil c.args.bytes.now (eqb-true (length c.args.bytes.now) 0 (sym c.if-is_empty.ensures))))

pub returns-clause-value : goal.returns-clause-value
returns-clause-value c =
    let read = integer_read c.args.bytes.now c.min.result (eqb-false (length c.args.bytes.now) 0 (sym c.if-is_empty.ensures))
    (c.min.ensures ∙ ap (λ n. min n (length (tail_of c.args.bytes.now))) c.count_of.ensures) in
    let value : c.integer_of.result ≡ (read_key c.args.bytes.now).integer =
    c.integer_of.ensures.value ∙ rw (c.sign_of.ensures, c.number_of.ensures.value, c.sign_of-2.ensures) read in
    omega (arith, ints, value)
