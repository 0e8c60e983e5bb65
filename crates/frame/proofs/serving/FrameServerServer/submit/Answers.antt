use Rattle.std.proofs.Common.{rules}
use Rattle.frame.proofs.OnTime.{submit_paced}
use Rattle.frame.proofs.serving.FrameServerServer.submit.Goals as goal

pub invariant_of-self : goal.invariant_of-self
invariant_of-self c = search (submit_paced, rules)
