use Rattle.std.proofs.Common.{◌≡◌, map, take, drop}
use Rattle.book.specs.Runs.{call_of, Run, history, ending}
use Rattle.book.proofs.driving.drive.Given as goal

-- the events so far are of the calls so far, and a run of the server
abbrev pub invariant-loop-i : goal.invariant-loop-i
invariant-loop-i g l =
    (map call_of (take l.i l.events) ≡ take l.i l.calls)
    × (Run (g.S.Server.means (g.S.Server.state l.initial.server)) (take l.i l.events) (g.S.Server.means (g.S.Server.state l.server)))
    × (g.S.Server.named → (take l.i l.events ≡ history g.S.Server.means g.S.Server.machine (g.S.Server.state l.initial.server) (take l.i l.calls))
    × (g.S.Server.state l.server ≡ ending g.S.Server.means g.S.Server.machine (g.S.Server.state l.initial.server) (take l.i l.calls)))
    × (drop l.i l.events ≡ drop l.i l.initial.events)
