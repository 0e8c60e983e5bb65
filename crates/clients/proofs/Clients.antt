-- One client through the calls: what is kept whoever is served, and the laws of a client that is on time.
use Rattle.std.proofs.Common.{◌≡◌, ℕ, ◌+◌, ◌*◌, ◌^◌, ◌<◌, ◌≤◌, [], ◌∷◌, ◌++◌, length, sym, ap, subst, mul-le-mul, mul-le-mul_left, arith, length-append}
use native.Mathlib.Nat.{le-max_right}
use Rattle.server.specs.declared.block.Block.{Block}
use Rattle.server.specs.declared.rate.Terms.{Terms}
use Rattle.server.specs.Meaning.{Client, units_left}
use Rattle.server.specs.Calls.{served, serve, entered, new_block}
use Rattle.server.specs.Laws.{Each, Shaped, Ranged, ClientLaws}
use Rattle.clients.specs.Held.{Held, OnTime, reach, latency_for}
use Rattle.clients.specs.View.{new_client}
use Rattle.server.proofs.Rows.{order_push, each_push, left_push, left_small, order_served, shaped_served, left_served, length_served}
use Rattle.clients.proofs.Reach.{reach_served, reach_later, reach_idle, reach_push, debts}

pub held_new : (t : ℕ) (x : Terms) → Ranged x → Held t (new_client x)
held_new t x h = record { ranged = h; eight = omega arith; shaped = tt; order = omega arith; clocked = omega arith }

pub held_ticked : (t : ℕ) (x : Client) → Held t x → Held (t + 1) x
held_ticked t x h = record { ranged = h.ranged; eight = h.eight; shaped = h.shaped; order = h.order; clocked = omega (arith, h.clocked) }

pub held_served : (t : ℕ) (x : Client) → Held t x → Held (t + 1) (serve x)
held_served t x h =
    let q = x.terms.rate.q in
    record {
      ranged = h.ranged;
      eight = omega (arith, length_served q x.waiting, h.eight);
      shaped = shaped_served q x.waiting h.shaped;
      order = order_served q 0 x.clock x.waiting h.order;
      clocked = omega (arith, h.clocked, mul-le-mul_left {m = units_left x.waiting} {n = units_left (served x.waiting) + 1} q (left_served q x.waiting));
    }

pub held_entered : (t label len : ℕ) (x : Client) → 0 < len → len ≤ 16 → length x.waiting < 8 → Held t x → Held t (entered t label len x)
held_entered t label len x some few room h =
    let b : Block = new_block t x label len in
    let q = x.terms.rate.q in
    let z : q * units_left (x.waiting ++ (b ∷ [])) ≡ q * (units_left x.waiting + len) = ap (λ k. q * k) (left_push x.waiting b) in
    record {
      ranged = h.ranged;
      eight = omega (arith, length-append x.waiting (b ∷ []), room);
      shaped = each_push Shaped x.waiting b h.shaped (record { some = some; within = omega arith; few = few });
      order = order_push q 0 x.clock x.waiting b (le-max_right (x.terms.rate.p * t) x.clock) h.order;
      clocked = omega (arith, h.clocked, z);
    }

-- the law of the clock keeps every sum within 64 bits
pub clock_small : (t : ℕ) (x : Client) → t < 4294967296 → Held t x → x.clock < 2 ^ 50
clock_small t x l h =
    let p = x.terms.rate.p in
    let q = x.terms.rate.q in
    let a : (p + q) * t ≤ 2048 * 4294967296 = mul-le-mul {n₂ = 2048} {m₂ = 4294967296} (omega (arith, h.ranged.rate, h.ranged.small)) (omega arith) in
    let b : q * units_left x.waiting ≤ 1024 * 128 = mul-le-mul {n₂ = 1024} {m₂ = 128} h.ranged.small (omega (arith, left_small x.waiting h.shaped, h.eight)) in
    omega (arith, a, b, h.clocked)

-- ## How far it has been served

pub reach_entered : (t label len : ℕ) (x : Client) → reach t (entered t label len x) ≡ reach t x
reach_entered t label len x = reach_push x.terms.rate.q t x.terms.rate.p x.clock label len x.waiting

pub reach_ticked : (t : ℕ) (x : Client) → reach t x ≤ reach (t + 1) x
reach_ticked t x = reach_later x.terms.rate.q t x.terms.rate.p x.clock x.waiting

pub reach_gone : (t : ℕ) (x : Client) → 0 < length x.waiting → Held t x → reach t x + x.terms.rate.q ≤ reach (t + 1) (serve x)
reach_gone t x some h = reach_served x.terms.rate.q t x.terms.rate.p 0 x.clock x.waiting some h.shaped h.order

pub reach_empty : (t : ℕ) (x : Client) → length x.waiting ≡ 0 → x.terms.rate.p * t ≤ reach t x
reach_empty t x e = reach_idle x.terms.rate.q t x.terms.rate.p x.clock x.waiting e

-- a client that is on time with θ keeps the laws with the latency p·θ + q·16
pub laws_on_time : (θ t : ℕ) (x : Client) → Held t x → x.terms.latency ≡ latency_for x.terms.rate.p x.terms.rate.q θ → OnTime θ t x → ClientLaws t x
laws_on_time θ t x h late on =
    let p = x.terms.rate.p in
    record {
      ranged = h.ranged;
      eight = h.eight;
      shaped = h.shaped;
      debt = subst (λ (n : ℕ). Each (λ b. p * (t + 1) ≤ b.start + n) x.waiting) (sym late)
          (debts x.terms.rate.q t p θ x.clock x.waiting h.ranged.rate h.shaped h.order on);
      clocked = h.clocked;
    }
