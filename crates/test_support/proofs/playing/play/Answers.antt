use Rattle.std.proofs.Common.{arith}
use Rattle.test_support.specs.Runs.{Turns}
use Rattle.test_support.proofs.Steps.{step_more}
use Rattle.test_support.proofs.playing.play.Goals as goal

pub loop-expected-preserved : goal.loop-expected-preserved
loop-expected-preserved g c = λ n.
    let a = g.S.Server in
    step_more (Turns a.means a.machine c.args.submissions.now) _ c.args.run.now c.loop-expected.expected-index _ _ _ (omega arith) (c.loop-expected.invariant n) (record {
      before = a.state c.submit_all.new.server;
      submits = c.in_ok-submit_all.ensures n;
      tells = c.in_ok-serve_slot.ensures.tells n;
      leaves = c.serve_slot.ensures.leaves n;
    })
