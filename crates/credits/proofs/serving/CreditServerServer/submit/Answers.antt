use Rattle.tables.specs.Tables.{listed}
use Rattle.clients.specs.Meant.{meaning}
use Rattle.credits.specs.Balancing.{balanced_room, balanced_capped}
use Rattle.credits.proofs.Slots.{submitted_balanced}
use Rattle.credits.proofs.serving.CreditServerServer.submit.Goals as goal

pub invariant_of-self : goal.invariant_of-self
invariant_of-self c =
    let x = c.args.self.now in
    let m' = meaning c.submit.new.self in
    let b = submitted_balanced (meaning x.clients) m' x.denominator (listed x.shares) c.args.client _ c.args.length x.some c.submit.ensures.leaves x.balanced in
    record { some = x.some; most = x.most; room = balanced_room m' x.denominator _ b; capped = balanced_capped m' x.denominator _ b; balanced = b }
