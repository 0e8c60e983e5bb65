use Rattle.std.proofs.Common.{◌≡◌, true, ◌&&◌, eqb}
use Rattle.join.specs.Fit.{have_same_rate, are_idle, is_in_reach}
use Rattle.join.proofs.Fits.{up_to}
use Rattle.join.proofs.fitting.fit.Given as goal

-- each flag tells of the clients so far
abbrev pub invariant-loop-client : goal.invariant-loop-client
invariant-loop-client g l =
    let m = g.A.Server.means (g.A.Server.state l.first) in
    let n = g.B.Server.means (g.B.Server.state l.second) in
    (l.same ≡ (true && up_to l.client have_same_rate m n)) × (l.idle ≡ ((eqb m.now 0 && eqb n.now 0) && up_to l.client are_idle m n)) × (l.near ≡ (true && up_to l.client is_in_reach m n))
