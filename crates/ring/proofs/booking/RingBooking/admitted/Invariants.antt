use Rattle.std.proofs.Common.{◌≡◌}
use Rattle.clients.specs.Meant.{meaning}
use Rattle.ring.specs.States.{first_clients}
use Rattle.ring.proofs.booking.RingBooking.admitted.Given as goal

-- those so far are in
abbrev pub invariant-loop-share : goal.invariant-loop-share
invariant-loop-share l = meaning l.clients ≡ first_clients l.self.shares l.share-index
