use Rattle.std.proofs.Common.{ℕ, ◌≤◌, ◌-◌, sym, ap, ◌∙◌, arith}
use mathlib.Core.Logic.{∥∥₁_elim}
use native.Mathlib.Bridge.{le_prop}
use Rattle.clients.specs.Meant.{meaning}
use Rattle.clients.specs.Serving.{waits}
use Rattle.ring.specs.Turns.{next_of, seek}
use Rattle.ring.proofs.Rounds.{next_small, seek_passes, seek_stops}
use Rattle.ring.proofs.ring_server.RingServer.first_waiting.Goals as goal

pub loop-left-preserved : goal.loop-left-preserved
loop-left-preserved c =
    let m = meaning c.args.self.now.clients in
    let has = waits m in
    let few : m.count ≤ 8 = ∥∥₁_elim c.args.self.now.clients.kept le_prop (λ k. k.eight) in
    let count = c.count-count.result in (
      omega (arith, c.after-client-in-loop-left.ensures, next_small count c.loop-left.client (omega (arith, c.count-count.ensures, few))),
      ap (seek count has (c.loop-left.left - 1)) c.after-client-in-loop-left.ensures
          ∙ sym (seek_passes count has c.loop-left.left c.loop-left.client (omega arith) (sym c.if-waits.ensures))
          ∙ c.loop-left.invariant.1,
    )

pub returns-then-waits : goal.returns-then-waits
returns-then-waits c =
    let has = waits (meaning c.args.self.now.clients) in
    sym (seek_stops c.count-count.result has c.loop-left.left c.loop-left.client (omega arith) (sym c.if-waits.ensures))
    ∙ c.loop-left.invariant.1
    ∙ ap (λ (n : ℕ). seek n has n (next_of n c.args.last)) c.count-count.ensures
