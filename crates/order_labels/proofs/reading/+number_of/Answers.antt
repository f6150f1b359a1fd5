use Rattle.std.proofs.Common.{◌≡◌, ℕ, ◌+◌, arith, length, sym}
use Rattle.std.proofs.lemmas.Bool.{eqb-false}
use Rattle.order_labels.proofs.DigitLemmas.{power_fits, power_pos}
use Rattle.order_labels.proofs.ReadingLemmas.{tail_of, length-tail_of, number_fits}
use Rattle.order_labels.proofs.reading.+number_of.Goals as goal

pub pow-requires : goal.pow-requires
pow-requires t c =
    power_fits (length (tail_of c.args.digits.now)) (omega (arith, length-tail_of c.args.digits.now, c.requires))

-- there is a digit before the rest
one_longer : (t : ℕ) (c : goal.After-pow t) → length c.args.digits.now ≡ length (tail_of c.args.digits.now) + 1
one_longer t c =
    let some : length c.args.digits.now ≡ 0 → ⊥ = eqb-false (length c.args.digits.now) 0 (sym c.if-is_empty.ensures) in
    omega (arith, length-tail_of c.args.digits.now, some)

pub overflow_mul-result : goal.overflow_mul-result
overflow_mul-result t c =
    let n = length (tail_of c.args.digits.now) in
    omega (
      arith,
      number_fits c.digit_of.result c.pow.result 0 n (length c.args.digits.now) c.digit_of.ensures.below c.pow.ensures (power_pos n)
          (one_longer t c) c.requires,
    )

pub overflow_add-result : goal.overflow_add-result
overflow_add-result t c =
    let some : length c.args.digits.now ≡ 0 → ⊥ = eqb-false (length c.args.digits.now) 0 (sym c.if-is_empty.ensures) in
    omega (
      arith,
      number_fits c.digit_of.result c.pow.result c.number_of.result (length (tail_of c.args.digits.now))
          (length c.args.digits.now) c.digit_of.ensures.below c.pow.ensures c.number_of.ensures.below
          (omega (arith, length-tail_of c.args.digits.now, some)) c.requires,
    )

pub returns-clause-below : goal.returns-clause-below
returns-clause-below t c =
    let some : length c.args.digits.now ≡ 0 → ⊥ = eqb-false (length c.args.digits.now) 0 (sym c.if-is_empty.ensures) in
    (number_fits c.digit_of.result c.pow.result c.number_of.result (length (tail_of c.args.digits.now))
    (length c.args.digits.now) c.digit_of.ensures.below c.pow.ensures c.number_of.ensures.below
    (omega (arith, length-tail_of c.args.digits.now, some)) c.requires).0

pub returns-clause-bound : goal.returns-clause-bound
returns-clause-bound t c =
    let some : length c.args.digits.now ≡ 0 → ⊥ = eqb-false (length c.args.digits.now) 0 (sym c.if-is_empty.ensures) in
    omega (
      arith,
      number_fits c.digit_of.result c.pow.result c.number_of.result (length (tail_of c.args.digits.now))
          (length c.args.digits.now) c.digit_of.ensures.below c.pow.ensures c.number_of.ensures.below
          (omega (arith, length-tail_of c.args.digits.now, some)) c.requires,
    )
