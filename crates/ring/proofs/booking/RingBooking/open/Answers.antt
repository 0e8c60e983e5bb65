use Rattle.std.proofs.Common.{◌≡◌, ℕ, ◌-◌, ◌≤◌, length, sym, ap, ◌∙◌, subst, arith}
use Rattle.std.proofs.lemmas.List.{length-map}
use Rattle.server.specs.Meaning.{Meaning}
use Rattle.server.specs.Laws.{Unused}
use Rattle.clients.specs.Meant.{meaning}
use Rattle.ring.specs.declared.turns.Ring.{Ring}
use Rattle.ring.specs.Sums.{sum}
use Rattle.ring.specs.Shares.{count_in}
use Rattle.ring.specs.Turns.{quantum_of, client_of}
use Rattle.ring.specs.Search.{Sound}
use Rattle.ring.specs.States.{fresh_place, fresh_ring}
use Rattle.ring.proofs.Reservations.{within_first, sound_first, unused_first}
use Rattle.ring.proofs.booking.RingBooking.open.Goals as goal

pub invariant_of-result : goal.invariant_of-result
invariant_of-result c =
    let b = c.args.self in
    let s = b.shares in
    let clients = c.admitted.ensures in
    let ring = c.fresh_ring.ensures in
    let count = sym (ap (λ (m : Meaning). m.count) clients) in
    let turn : client_of c.fresh_ring.result.turn ≡ count_in s - 1 = ap (λ (r : Ring). client_of r.turn) ring in
    record {
      full = ap (λ (r : Ring). length r.places) ring ∙ length-map s.reserved fresh_place ∙ b.full;
      placed = omega (arith, turn, b.few);
      within = subst (λ (r : Ring). sum (meaning c.admitted.result).count (quantum_of r) ≤ r.total) (sym ring)
          (subst (λ (n : ℕ). sum n (quantum_of (fresh_ring s)) ≤ s.total) count (within_first s b.within b.carried));
      sound = ∣ subst (λ (r : Ring). Sound (meaning c.admitted.result) r) (sym ring) (subst (λ (m : Meaning). Sound m (fresh_ring s)) (sym clients) (sound_first s b.within b.carried)) ∣₁;
    }

pub returns-clause-unused : goal.returns-clause-unused
returns-clause-unused c = let b = c.args.self in ∣ subst Unused (sym c.admitted.ensures) (unused_first b.shares b.within b.carried) ∣₁
