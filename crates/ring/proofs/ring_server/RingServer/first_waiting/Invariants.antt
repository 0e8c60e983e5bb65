use Rattle.std.proofs.Common.{◌≡◌, ◌<◌}
use Rattle.clients.specs.Meant.{meaning}
use Rattle.clients.specs.Serving.{waits}
use Rattle.ring.specs.Turns.{next_of, seek}
use Rattle.ring.proofs.ring_server.RingServer.first_waiting.Given as goal

-- the clients that are left decide the search
abbrev pub invariant-loop-left : goal.invariant-loop-left
invariant-loop-left l = let has = waits (meaning l.self.clients) in (l.client < 8) × (seek l.count has l.left l.client ≡ seek l.count has l.count (next_of l.count l.last))

abbrev pub decreases-loop-left : goal.decreases-loop-left
decreases-loop-left l = l.left
