use Rattle.std.proofs.Common.{rules}
use Rattle.std.proofs.iter.runs.Made.{chains}
use Rattle.credits.proofs.Servers.{caps_small}
use Rattle.credits.proofs.credit_server.CreditServer.caps.Goals as goal

pub sum-requires-clause-fits : goal.sum-requires-clause-fits
sum-requires-clause-fits c = let small = caps_small c.args.self.now in search (rules, chains)
