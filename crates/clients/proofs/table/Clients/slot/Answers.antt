use Rattle.std.proofs.Common.{◌≡◌, ◌<◌, ◌+◌, ℕ, Some, get_or, sym, ap, ◌∙◌, subst, rules}
use mathlib.Core.Logic.{∥∥₁_map}
use Rattle.server.specs.Calls.{gone}
use Rattle.clients.specs.Held.{Kept}
use Rattle.clients.specs.View.{viewed, client_of}
use Rattle.clients.proofs.Kept.{kept_slot}
use Rattle.clients.proofs.Places.{with_item, slot_is, slot_idle}
use Rattle.clients.proofs.table.Clients.slot.Goals as goal

pub invariant_of-self : goal.invariant_of-self
invariant_of-self c =
    let x = c.args.self.now in
    let i = c.from.result in
    let d = c.index-lanes-from.result in
    let early : x.slots < 4294967295 = search rules in
    let next : c.in_ok-next.next ≡ x.slots + 1 = search rules in
    let w = with_item x.lanes i c.serve.new.self in
    let says = c.serve.ensures.answers ∙ ap (λ (k : ℕ). gone k (client_of (get_or x.lanes.items i d)).waiting) (sym c.from.ensures) in
    let e = slot_is x.slots c.args.who early x.lanes i d c.serve.new.self c.serve.result (ap Some c.from.ensures ∙ c.in-Some.ensures) says c.serve.ensures.leaves in
    let now = ap (λ (t : ℕ). viewed t w) next ∙ e.1 in
    ((w.full, (w.few, tt)), (∥∥₁_map x.kept (λ g. subst Kept (sym now) (kept_slot (viewed x.slots x.lanes) c.args.who g)), tt))

pub invariant_of-self-in-None : goal.invariant_of-self-in-None
invariant_of-self-in-None c =
    let x = c.args.self.now in
    let early : x.slots < 4294967295 = search rules in
    let next : c.in_ok-next.next ≡ x.slots + 1 = search rules in
    let e = ap (λ (t : ℕ). viewed t x.lanes) next ∙ slot_idle x.slots c.args.who early x.lanes c.in-None.ensures in
    record { kept = ∥∥₁_map x.kept (λ g. subst Kept (sym e) (kept_slot (viewed x.slots x.lanes) c.args.who g)) }

pub returns-in-Some : goal.returns-in-Some
returns-in-Some c =
    let x = c.args.self.now in
    let i = c.from.result in
    let d = c.index-lanes-from.result in
    let early : x.slots < 4294967295 = search rules in
    let next : c.in_ok-next.next ≡ x.slots + 1 = search rules in
    let w = with_item x.lanes i c.serve.new.self in
    let says = c.serve.ensures.answers ∙ ap (λ (k : ℕ). gone k (client_of (get_or x.lanes.items i d)).waiting) (sym c.from.ensures) in
    let e = slot_is x.slots c.args.who early x.lanes i d c.serve.new.self c.serve.result (ap Some c.from.ensures ∙ c.in-Some.ensures) says c.serve.ensures.leaves in
    record { answers = e.0; leaves = ap (λ (t : ℕ). viewed t w) next ∙ e.1 }
