use Rattle.std.proofs.Common.{ap, ◌∙◌, arith}
use Rattle.std.specs.Int.{div_ceil}
use Rattle.server.proofs.Rounded.{rounded_up}
use Rattle.server.proofs.rate.Terms.slots.Goals as goal

pub returns-in_default : goal.returns-in_default
returns-in_default c =
    c.div_ceil.ensures ∙ ap (div_ceil c.args.self.latency) c.from.ensures ∙ rounded_up c.args.self.latency c.args.self.rate.p (omega arith)
