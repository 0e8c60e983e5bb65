use Rattle.std.proofs.Common.{ℕ, sym, ap, ◌∙◌, subst, arith}
use mathlib.Core.Logic.{∥∥₁_map}
use Rattle.server.specs.Calls.{asked, view_of, granting, submitted}
use Rattle.clients.specs.Held.{Kept}
use Rattle.clients.specs.View.{viewed}
use Rattle.clients.proofs.Kept.{kept_submitted}
use Rattle.clients.proofs.Places.{with_item, let_in, enter_small, submit_says, submit_leaves}
use Rattle.clients.proofs.table.Clients.submit.Goals as goal

pub enter-requires-clause-small : goal.enter-requires-clause-small
enter-requires-clause-small c =
    let x = c.args.self.now in
    let m = viewed x.slots x.lanes in
    let i = c.from.result in
    let told = c.in_ok-view.ensures ∙ ap (λ (k : ℕ). asked m k view_of) (sym c.from.ensures) in
    let g = let_in x.slots x.lanes i c.args.units c.in_ok-view.field-0 told c.in_ok-accept.ensures in
    omega (arith, enter_small x.slots x.lanes i c.index-lanes-from.result g.0 x.kept c.args.units g.2)

pub invariant_of-self : goal.invariant_of-self
invariant_of-self c =
    let x = c.args.self.now in
    let m = viewed x.slots x.lanes in
    let i = c.from.result in
    let told = c.in_ok-view.ensures ∙ ap (λ (k : ℕ). asked m k view_of) (sym c.from.ensures) in
    let g = let_in x.slots x.lanes i c.args.units c.in_ok-view.field-0 told c.in_ok-accept.ensures in
    let w = with_item x.lanes i c.enter.new.self in
    let e = submit_leaves x.slots x.lanes i c.index-lanes-from.result g.0 c.args.units g.1 g.2 g.3 c.args.label c.enter.new.self c.enter.ensures.leaves in
    ((w.full, (w.few, tt)), (∥∥₁_map x.kept (λ h. subst Kept (sym e) (kept_submitted m i c.args.label c.args.units h)), tt))

pub returns : goal.returns
returns c =
    let x = c.args.self.now in
    let m = viewed x.slots x.lanes in
    let i = c.from.result in
    let told = c.in_ok-view.ensures ∙ ap (λ (k : ℕ). asked m k view_of) (sym c.from.ensures) in
    let g = let_in x.slots x.lanes i c.args.units c.in_ok-view.field-0 told c.in_ok-accept.ensures in
    let due = submit_says x.slots x.lanes i c.index-lanes-from.result g.0 c.args.units g.1 g.2 g.3 x.kept c.enter.result c.enter.ensures.answers
    ∙ ap (λ (k : ℕ). granting m k c.args.units) c.from.ensures in
    record {
      answers = grind (arith, due);
      leaves = submit_leaves x.slots x.lanes i c.index-lanes-from.result g.0 c.args.units g.1 g.2 g.3 c.args.label c.enter.new.self c.enter.ensures.leaves
          ∙ ap (λ (k : ℕ). submitted m k c.args.label c.args.units) c.from.ensures;
    }
