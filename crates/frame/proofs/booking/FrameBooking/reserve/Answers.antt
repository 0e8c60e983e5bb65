use Rattle.std.proofs.Common.{rules}
use Rattle.clients.specs.Meant.{meaning}
use Rattle.frame.specs.Frames.{owners_in}
use Rattle.frame.proofs.OnTime.{reserve_paced, reserve_unused}
use Rattle.frame.proofs.booking.FrameBooking.reserve.Goals as goal

pub invariant_of-self : goal.invariant_of-self
invariant_of-self c =
    let x = c.args.self.now.server in
    let paced = reserve_paced (meaning x.clients) (meaning c.admit.new.self) (owners_in x.frame) x.frame.some x.paced c.args.rate c.in_ok-terms.terms c.in_ok-terms.ensures.says c.admit.ensures.leaves in
    ((paced, tt), (search (reserve_unused, rules), tt))
