use Rattle.std.proofs.Common.{arith, ap}
use Rattle.test_support.specs.Runs.{Submits}
use Rattle.test_support.proofs.Rows.{submitted, passed_by}
use Rattle.test_support.proofs.Steps.{step_more}
use Rattle.test_support.proofs.playing.submit_all.Goals as goal
use Rattle.test_support.proofs.playing.submit_all.Goals.{then-row-slot+in_ok-submit, else-row-slot}

pub loop-row-preserved : goal.loop-row-preserved
loop-row-preserved g c = λ n.
    let a = g.S.Server in
    step_more (Submits a.means a.machine c.now-slot.result) _ c.args.submissions.now c.loop-row.row-index _ _ _ (omega arith) (c.loop-row.invariant n)
    (elim c.if-row-slot.branch [ then-row-slot+in_ok-submit w ↦ submitted a.means a.machine _ _ _ _ _ w.if-row-slot.true (w.in_ok-submit.ensures n) (ap a.state w.server-is) | else-row-slot w ↦ passed_by a.means a.machine _ _ _ _ w.if-row-slot.false (ap a.state w.server-is) ])
