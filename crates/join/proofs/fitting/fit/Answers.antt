use Rattle.std.proofs.Common.{true, ◌&&◌, eqb}
use Rattle.server.specs.Calls.{view_of}
use Rattle.server.proofs.Grants.{asked_ok}
use Rattle.join.specs.Fit.{have_same_rate, are_idle, is_in_reach}
use Rattle.join.proofs.Fits.{more}
use Rattle.join.proofs.fitting.fit.Goals as goal

pub loop-client-preserved : goal.loop-client-preserved
loop-client-preserved g c =
    let m = g.A.Server.means (g.A.Server.state c.args.first.now) in
    let n = g.B.Server.means (g.B.Server.state c.args.second.now) in
    let i = c.loop-client.client in
    let a = c.in-Ok-Ok.a in
    let b = c.in-Ok-Ok.b in
    let ea = (asked_ok m i a view_of c.in-Ok-Ok.ensures).1 in
    let eb = (asked_ok n i b view_of c.in-Ok-Ok.ensures').1 in
    let h = c.loop-client.invariant in (
      more i have_same_rate m n true c.loop-client.same c.same_rate-same.result a b h.0 ea eb c.same_rate-same.ensures,
      more i are_idle m n (eqb m.now 0 && eqb n.now 0) c.loop-client.idle c.both_idle-idle.result a b h.1 ea eb c.both_idle-idle.ensures,
      more i is_in_reach m n true c.loop-client.near c.in_reach-near.result a b h.2 ea eb c.in_reach-near.ensures,
    )
