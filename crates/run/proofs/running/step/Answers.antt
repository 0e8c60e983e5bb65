use Rattle.std.proofs.Common.{sym, ◌∙◌}
use Rattle.lines.proofs.OneMore.{one_more}
use Rattle.run.proofs.Written.{ran_some, ran_none}
use Rattle.run.proofs.running.step.Goals as goal
use Rattle.tables.specs.Tables.{listed}

pub returns-in-Some : goal.returns-in-Some
returns-in-Some g c =
    let e = c.make-event.ensures in
    ran_some g.S.Server g.met.S.Server.lawful c.args.server.now c.make-event.new.server c.args.call c.make-event.result e.of e.takes e.exactly c.now.result c.now.ensures
    c.in-Some.line (sym c.in-Some.is ∙ c.line_of.ensures) _ _
    (c.push.ensures.after ∙ one_more 1208 (listed c.args.journal.now) c.in-Some.line)

pub returns-in_default : goal.returns-in_default
returns-in_default g c =
    let e = c.make-event.ensures in
    ran_none g.S.Server g.met.S.Server.lawful c.args.server.now c.make-event.new.server c.args.call c.make-event.result e.of e.takes e.exactly c.now.result c.now.ensures
    (sym c.in_default.is ∙ c.line_of.ensures) _
