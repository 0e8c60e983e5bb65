use Rattle.std.proofs.Common.{◌≡◌, ℕ, ◌+◌, ◌*◌, ◌<◌, ◌≤◌, true, set, sym, ◌∙◌, subst, arith, length-set, le-leb}
use Rattle.ring.specs.declared.shares.Share.{Share}
use Rattle.ring.specs.declared.shares.Shares.{Shares}
use Rattle.ring.specs.Sums.{sum}
use Rattle.ring.specs.Shares.{quantum_in, carries, Carried}
use Rattle.ring.proofs.Reservations.{within_more, carried_more}
use Rattle.ring.proofs.booking.RingBooking.reserve.Goals as goal

pub invariant_of-self : goal.invariant_of-self
invariant_of-self c =
    let b = c.args.self.now in
    let s = b.shares in
    let x = c.args.rate in
    let φ = c.args.quantum in
    let share : Share = record { rate = x; quantum = φ } in
    let after : ℕ → Shares = λ n. record { total = s.total; count = s.count + 1; reserved = set s.reserved n share } in
    let place : s.count ≡ c.from-5.result = sym c.from-5.ensures in
    let low : c.from.result * c.from-2.result ≡ x.p * s.total = cc in
    let high : c.from-3.result * c.from-4.result ≡ φ * x.q = cc in
    let carried : carries s.total x φ ≡ true = le-leb (x.p * s.total) (φ * x.q) (omega (arith, low, high)) in
    record {
      full = length-set s.reserved c.from-5.result share ∙ b.full;
      few = omega arith;
      least = b.least;
      most = b.most;
      within = subst (λ (n : ℕ). sum (s.count + 1) (quantum_in (after n)) ≤ s.total) place (within_more s x φ b.full (omega arith) (omega (arith, c.used.ensures)));
      carried = subst (λ (n : ℕ). (k : ℕ) → k < s.count + 1 → Carried (after n) k) place
          (carried_more s x φ b.full (omega arith) (sym c.if-not-rate_in_range.ensures) (sym c.if-not-quantum_in_range.ensures) carried b.carried);
    }
