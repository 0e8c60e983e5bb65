use Rattle.decimal.proofs.EachDigit.{digit_small, grows, digits_stop, digits_go}
use Rattle.decimal.proofs.digits.Goals as goal
use Rattle.decimal.specs.Numbers.{digits_on}
use Rattle.std.proofs.lemmas.List.{at_drop_all}
use Rattle.std.proofs.Common.{◌+◌, ◌*◌, get_or, drop, sym, ap, ◌∙◌, arith}

pub returns-then-not-is_ascii_digit-2 : goal.returns-then-not-is_ascii_digit-2
returns-then-not-is_ascii_digit-2 c =
    sym (digits_stop c.loop-digit.value c.args.rest.now c.loop-digit.digit-index c.loop-digit-test.true (sym c.if-not-is_ascii_digit-2.ensures.value))
    ∙ c.loop-digit.invariant.1

pub loop-digit-preserved : goal.loop-digit-preserved
loop-digit-preserved c =
    let y = sym c.if-not-is_ascii_digit-2.ensures.value in
    let small = digit_small (get_or c.args.rest.now c.loop-digit.digit-index 0) y in (
      grows c.loop-digit.value c.from.result c.loop-digit.digit-index c.loop-digit.invariant.0 (omega (arith, small, c.from.ensures)),
      ap (λ d. digits_on (10 * c.loop-digit.value + d) (drop (c.loop-digit.digit-index + 1) c.args.rest.now)) c.from.ensures
          ∙ sym (digits_go c.loop-digit.value c.args.rest.now c.loop-digit.digit-index c.loop-digit-test.true y) ∙ c.loop-digit.invariant.1,
    )

pub returns : goal.returns
returns c = sym (at_drop_all (digits_on c.loop-digit.value) c.args.rest.now c.loop-digit.digit-index (omega arith)) ∙ c.loop-digit.invariant.1
