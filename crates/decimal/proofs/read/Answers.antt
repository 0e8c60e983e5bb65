use Rattle.decimal.proofs.Reading.{empty, lone_zero, leading_zero, too_long, first_with_rest}
use Rattle.decimal.proofs.read.Goals as goal
use Rattle.std.proofs.Common.{rules}

pub returns-then-rest-gt9-clause-value : goal.returns-then-rest-gt9-clause-value
returns-then-rest-gt9-clause-value c = too_long c.args.most c.args.text.now c.if-rest-gt9.true

pub returns-in-empty-clause-value : goal.returns-in-empty-clause-value
returns-in-empty-clause-value c = empty c.args.most c.args.text.now (search rules)

pub returns-in-48-clause-value : goal.returns-in-48-clause-value
returns-in-48-clause-value c = lone_zero c.args.most c.args.text.now (search rules) (search rules)

pub returns-in-48-2-clause-value : goal.returns-in-48-2-clause-value
returns-in-48-2-clause-value c = leading_zero c.args.most c.args.text.now (search rules) (search rules)

pub returns-else-rest-gt9-clause-value : goal.returns-else-rest-gt9-clause-value
returns-else-rest-gt9-clause-value c =
    first_with_rest c.args.most c.args.text.now c.digits.result c.keep.result (search rules) (λ e. search rules)
    c.if-rest-gt9.false c.digits.ensures c.keep.ensures.value
