use Rattle.std.proofs.Common.{ℕ, get_or, ap, ◌∙◌, arith}
use Rattle.tables.specs.Tables.{listed}
use Rattle.join.specs.Starts.{starts_in, at_row, pushed}
use Rattle.join.proofs.Kept.{rows_put, pushed_row, put_known}
use Rattle.join.proofs.starts.Starts.put.Goals as goal

pub returns-then-client-lt8 : goal.returns-then-client-lt8
returns-then-client-lt8 c =
    let x = c.args.self.now in
    let i = c.from.result in
    let d = c.index-self-from.result in
    put_known (starts_in x) _ c.args.client c.args.start c.if-client-lt8.true
    (rows_put x.rows i _ d (pushed c.args.start) (omega (arith, c.from.ensures))
    (pushed_row (listed (get_or x.rows i d)) (listed c.push.new.self) c.args.start c.push.ensures.after)
    ∙ ap (λ (k : ℕ). at_row k (pushed c.args.start) (starts_in x)) c.from.ensures)
