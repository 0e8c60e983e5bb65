use Rattle.lines.proofs.EachOwner.{sized, stored_all}
use Rattle.lines.proofs.owners.owners.Goals as goal
use Rattle.std.proofs.Common.{◌<◌, length, rules, arith}
use Rattle.tables.specs.Tables.{listed}

pub returns : goal.returns
returns c =
    let some : 0 < length c.args.text.now = search rules in
    let in_size = sized c.args.text.now some (omega arith) in
    let whole = stored_all c.args.text.now c.loop-letter.letter-index (listed c.loop-letter.owners) c.loop-letter-test.false in
    cc
