use Rattle.std.proofs.Common.{◌<◌, ◌/◌, arith}
use Rattle.std.proofs.lemmas.Result.{IfOk-equal}
use Rattle.order_labels.specs.Sign.{digit_byte}
use Rattle.order_labels.proofs.DigitLemmas.{power_fits, power_pos, digit_below, remainder_below, digits_pushed}
use Rattle.order_labels.proofs.digits.+push_digits.Goals as goal

pub pow-power-requires : goal.pow-power-requires
pow-power-requires t c = power_fits _ (omega arith)

pub nonzero_div-number : goal.nonzero_div-number
nonzero_div-number t c = rw c.pow-power.ensures (power_pos _)

pub overflow_cast-number : goal.overflow_cast-number
overflow_cast-number t c =
    let digit : c.args.number / c.pow-power.result < 254 = rw c.pow-power.ensures (digit_below _ _ (omega arith) c.requires.enough) in
    omega arith

pub digit_byte-requires : goal.digit_byte-requires
digit_byte-requires t c = rw c.pow-power.ensures (digit_below _ _ (omega arith) c.requires.enough)

pub nonzero_rem-number : goal.nonzero_rem-number
nonzero_rem-number t c = rw c.pow-power.ensures (power_pos _)

pub push_digits-requires : goal.push_digits-requires
push_digits-requires t c = (omega arith, (omega arith, rw c.pow-power.ensures (remainder_below _ _)))

pub returns : goal.returns
returns t c =
    IfOk-equal _ _ _ _ c.push_digits.ensures
    (rw (c.in_ok-push.ensures.items, c.digit_byte.ensures, c.pow-power.ensures)
    (digits_pushed (digit_byte c.args.sign) c.args.out.now.items c.args.count c.args.number (omega arith)))
