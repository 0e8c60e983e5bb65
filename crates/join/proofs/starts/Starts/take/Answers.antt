use Rattle.std.proofs.Common.{ℕ, drop, ap, ◌∙◌, arith}
use Rattle.join.specs.Starts.{at_row, starts_of}
use Rattle.join.proofs.Kept.{rows_put}
use Rattle.join.proofs.starts.Starts.take.Goals as goal

pub returns-clause-leaves : goal.returns-clause-leaves
returns-clause-leaves c =
    let rs = c.args.self.now.rows in
    let i = c.from-place.result in
    rows_put rs i _ c.index-self-place-2.result (drop 1) (omega (arith, c.from-place.ensures)) c.remove_first.ensures
    ∙ ap (λ (k : ℕ). at_row k (drop 1) (starts_of rs)) c.from-place.ensures
