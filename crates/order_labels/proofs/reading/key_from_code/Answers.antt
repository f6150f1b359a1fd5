use Rattle.std.proofs.Common.{◌≡◌, ◌∙◌, arith, ap, length, sym, subst}
use Rattle.std.proofs.lemmas.Int.{ints}
use Rattle.std.proofs.lemmas.Bool.{true≢false, eqb-true}
use Rattle.std.proofs.lemmas.List.{nil_from_length}
use Rattle.order_labels.specs.KeyValue.{KeyValue, IsFraction}
use Rattle.order_labels.specs.LabelOrder.{code}
use Rattle.order_labels.proofs.ReadingLemmas.{read_key-of}
use Rattle.order_labels.proofs.reading.key_from_code.Goals as goal

pub returns-then-not-is_fraction-clause-none : goal.returns-then-not-is_fraction-clause-none
returns-then-not-is_fraction-clause-none c k p e =
    let same = c.read_fraction-fraction.ensures ∙ ap (λ (k : KeyValue). k.fraction) (read_key-of c.args.bytes.now k p e) in
    true≢false (sym (c.is_fraction.ensures.1 (subst IsFraction (sym same) p.fraction)) ∙ c.if-not-is_fraction.true)

pub returns-then-is_empty-clause-none : goal.returns-then-is_empty-clause-none
returns-then-is_empty-clause-none c k p e =
    let read = read_key-of c.args.bytes.now k p e in
    let integer = ap (λ (k : KeyValue). k.integer) read in
    let none = nil_from_length c.read_fraction-fraction.result.now (eqb-true (length c.read_fraction-fraction.result.now) 0 (sym c.if-is_empty.ensures)) in
    p.room_below (omega (arith, ints, integer, c.read_integer-integer.ensures.value))
    (sym (c.read_fraction-fraction.ensures ∙ ap (λ (k : KeyValue). k.fraction) read) ∙ none)

pub returns-else-branch-clause-none : goal.returns-else-branch-clause-none
returns-else-branch-clause-none c k p e =
    let read = read_key-of c.args.bytes.now k p e in
    let integer = c.read_integer-integer.ensures.value ∙ ap (λ (k : KeyValue). k.integer) read in
    let fraction = c.read_fraction-fraction.ensures ∙ ap (λ (k : KeyValue). k.fraction) read in
    let same_integer : c.in_ok-key.key.integer ≡ k.integer = omega (arith, ints, ap (λ (k : KeyValue). k.integer) c.in_ok-key.ensures, integer) in
    let same_fraction : c.in_ok-key.key.fraction ≡ k.fraction = ap (λ (k : KeyValue). k.fraction) c.in_ok-key.ensures ∙ fraction in
    let same : c.in_ok-key.key ≡ k = λ i. record { integer = same_integer i; fraction = same_fraction i } in
    true≢false (sym (c.in_ok-has_code.ensures.1 (ap code same ∙ e)) ∙ c.if-branch.false)
