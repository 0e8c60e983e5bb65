use Rattle.std.proofs.Common.{take}
use Rattle.std.specs.List.{FoldsTo}
use Rattle.test_support.specs.Runs.{Submits}
use Rattle.test_support.proofs.playing.submit_all.Given as goal

-- the rows so far are submitted
abbrev pub invariant-loop-row : goal.invariant-loop-row
invariant-loop-row g l =
    g.S.Server.named → FoldsTo (Submits g.S.Server.means g.S.Server.machine l.slot) (g.S.Server.state l.initial.server) (take l.row-index l.submissions) (g.S.Server.state l.server)
