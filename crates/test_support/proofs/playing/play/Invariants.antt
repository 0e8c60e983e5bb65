use Rattle.std.proofs.Common.{take}
use Rattle.test_support.specs.Runs.{Plays}
use Rattle.test_support.proofs.playing.play.Given as goal

-- the letters so far are told
abbrev pub invariant-loop-expected : goal.invariant-loop-expected
invariant-loop-expected g l =
    g.S.Server.named → Plays g.S.Server.means g.S.Server.machine l.submissions (take l.expected-index l.run) (g.S.Server.state l.initial.server) (g.S.Server.state l.server)
