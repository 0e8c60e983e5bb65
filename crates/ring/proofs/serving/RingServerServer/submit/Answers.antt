use Rattle.std.proofs.Common.{◌≡◌, ℕ, ◌≤◌, sym, ap, ◌∙◌, subst}
use mathlib.Core.Logic.{∥∥₁_map}
use Rattle.server.specs.Meaning.{Meaning}
use Rattle.clients.specs.Meant.{meaning}
use Rattle.ring.specs.Sums.{sum}
use Rattle.ring.specs.Turns.{quantum_of}
use Rattle.ring.specs.Search.{Sound}
use Rattle.ring.proofs.Rounds.{sound_submitted}
use Rattle.ring.proofs.Slots.{submitted_count}
use Rattle.ring.proofs.serving.RingServerServer.submit.Goals as goal

pub invariant_of-self : goal.invariant_of-self
invariant_of-self c =
    let x = c.args.self.now in
    let m = meaning x.clients in
    let after = c.submit.ensures.leaves in
    let count : (meaning c.submit.new.self).count ≡ m.count = ap (λ (n : Meaning). n.count) after ∙ submitted_count m c.args.client c.args.label c.args.length in
    record {
      full = x.full;
      placed = x.placed;
      within = subst (λ (k : ℕ). sum k (quantum_of x.ring) ≤ x.ring.total) (sym count) x.within;
      sound = ∥∥₁_map x.sound (λ h. subst (λ (n : Meaning). Sound n x.ring) (sym after) (sound_submitted m x.ring c.args.client c.args.label c.args.length h));
    }
