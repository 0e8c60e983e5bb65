use Rattle.std.proofs.Common.{◌<◌, sym, subst, rules}
use mathlib.Core.Logic.{∥∥₁_map}
use Rattle.clients.specs.Held.{Kept}
use Rattle.clients.specs.View.{viewed}
use Rattle.clients.proofs.Kept.{kept_admitted}
use Rattle.clients.proofs.Places.{added_is}
use Rattle.clients.proofs.table.Clients.admit.Goals as goal

pub invariant_of-self-2 : goal.invariant_of-self-2
invariant_of-self-2 c =
    let x = c.args.self.now in
    let room : x.lanes.count < 8 = search rules in
    let e = (added_is x.slots c.args.terms c.if-not-in_range.ensures x.lanes c.new.result room c.new.ensures).1 in
    record { kept = ∥∥₁_map x.kept (λ g. subst Kept (sym e) (kept_admitted (viewed x.slots x.lanes) c.args.terms g)) }

pub returns-clause-leaves : goal.returns-clause-leaves
returns-clause-leaves c =
    let x = c.args.self.now in
    let room : x.lanes.count < 8 = search rules in
    (added_is x.slots c.args.terms c.if-not-in_range.ensures x.lanes c.new.result room c.new.ensures).1
