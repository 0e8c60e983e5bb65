use Rattle.std.proofs.Common.{arith}
use Rattle.tables.specs.Tables.{listed}
use Rattle.clients.specs.Meant.{meaning}
use Rattle.credits.specs.Balancing.{balanced_room, balanced_capped}
use Rattle.credits.proofs.Servers.{counted, shares_small}
use Rattle.credits.proofs.Slots.{slot_balanced}
use Rattle.credits.proofs.serving.CreditServerServer.slot.Goals as goal

pub earn-requires-clause-small : goal.earn-requires-clause-small
earn-requires-clause-small c = shares_small c.args.self.now

pub invariant_of-self : goal.invariant_of-self
invariant_of-self c =
    let x = c.args.self.now in
    let m' = meaning c.slot.new.self in
    let b = slot_balanced (meaning x.clients) m' c.served-who.result c.slot.ensures.leaves
    x.denominator (listed x.shares) (listed c.earn.new.shares) c.served-who.ensures c.earn.ensures (omega (arith, counted x)) x.some x.clients.kept x.balanced in
    record { some = x.some; most = x.most; room = balanced_room m' x.denominator _ b; capped = balanced_capped m' x.denominator _ b; balanced = b }
