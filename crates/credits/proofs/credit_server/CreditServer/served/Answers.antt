use Rattle.std.proofs.Common.{◌≤◌, length, ◌∙◌, arith, length-take-le}
use Rattle.tables.specs.Tables.{listed}
use Rattle.clients.specs.Meant.{meaning}
use Rattle.credits.specs.Shares.{by_place, eligible}
use Rattle.credits.specs.Places.{length_by_place}
use Rattle.credits.proofs.Bytes.{lowest_or_none}
use Rattle.credits.proofs.credit_server.CreditServer.served.Goals as goal

pub returns : goal.returns
returns c =
    let x = c.args.self.now in
    let flags = by_place (eligible (meaning x.clients) x.denominator) 0 (listed x.shares) in
    let few : length flags ≤ 8 = omega (arith, length_by_place (eligible (meaning x.clients) x.denominator) 0 (listed x.shares), length-take-le x.shares.count x.shares.items (omega (arith, x.shares.full, x.shares.few)), x.shares.few) in
    c.then_some.ensures ∙ lowest_or_none c.eligible-byte.result flags few c.eligible-byte.ensures
