-- How far a client has been served, and why a client on time keeps the law of debt.
use Rattle.std.proofs.Common.{◌≡◌, ℕ, ◌+◌, ◌-◌, ◌*◌, ◌<◌, ◌≤◌, max, Bool, true, false, cond, leb, List, [], ◌∷◌, ◌++◌, length, refl, ap, mul-le-mul_left, mul-add, arith, leb-false, leb-true}
use native.Mathlib.Nat.{le-max_left, le-max_right}
use Rattle.server.specs.declared.block.Block.{Block}
use Rattle.server.specs.Calls.{served, one_less}
use Rattle.server.specs.Laws.{Each, Shaped}
use Rattle.server.specs.Order.{InOrder}
use Rattle.server.proofs.Rows.{order_each}
use Rattle.clients.specs.Held.{reach_of}

module _ (q : ℕ) where
  reach-from : (t p a c : ℕ) (bs : List Block) → InOrder q a c bs → a ≤ reach_of t p q c bs
  reach-from t p a c [] h = omega (arith, h, le-max_right (p * t) c)
  reach-from t p a c (b ∷ bs) h = omega (arith, h.0)

  -- a unit is worth q ticks
  pub reach_served : (t p a c : ℕ) (bs : List Block) → 0 < length bs → Each Shaped bs → InOrder q a c bs
      → reach_of t p q c bs + q ≤ reach_of (t + 1) p q c (served bs)
  reach_served t p a c [] some s h = absurd (omega (arith, some))
  reach_served t p a c (b ∷ bs) some s h = by (leb b.left 1) refl
    where
      by : (d : Bool) → leb b.left 1 ≡ d → b.start + q * (b.length - b.left) + q ≤ reach_of (t + 1) p q c (cond d bs (one_less b ∷ bs))
      by true e =
          let u : b.length ≡ (b.length - b.left) + 1 = omega (arith, leb-true b.left 1 e, s.0.some, s.0.within) in
          omega (arith, reach-from (t + 1) p (b.start + q * b.length) c bs h.1, ap (λ k. q * k) u, mul-add q (b.length - b.left) 1)
      by false e =
          let u : b.length - (b.left - 1) ≡ (b.length - b.left) + 1 = omega (arith, leb-false b.left 1 e, s.0.within) in
          omega (arith, ap (λ k. q * k) u, mul-add q (b.length - b.left) 1)

  -- a slot takes nothing back
  pub reach_later : (t p c : ℕ) (bs : List Block) → reach_of t p q c bs ≤ reach_of (t + 1) p q c bs
  reach_later t p c [] = omega (arith, mul-le-mul_left {m = t} {n = t + 1} p (omega arith))
  reach_later t p c (b ∷ bs) = omega arith

  -- with nothing waiting a client is never late
  pub reach_idle : (t p c : ℕ) (bs : List Block) → length bs ≡ 0 → p * t ≤ reach_of t p q c bs
  reach_idle t p c [] e = le-max_left (p * t) c
  reach_idle t p c (b ∷ bs) e = absurd (omega (arith, e))

  -- a submission leaves it
  pub reach_push : (t p c n u : ℕ) (bs : List Block)
      → reach_of t p q (max (p * t) c + q * u) (bs ++ (record { label = n; length = u; left = u; start = max (p * t) c } ∷ [])) ≡ reach_of t p q c bs
  reach_push t p c n u [] = let z : u - u ≡ 0 = omega arith in omega (arith, ap (λ k. q * k) z)
  reach_push t p c n u (b ∷ bs) = refl

  -- on time with θ, so each block that waits can still leave in time
  pub debts : (t p θ c : ℕ) (bs : List Block) → p ≤ q → Each Shaped bs → InOrder q 0 c bs → p * t ≤ reach_of t p q c bs + p * θ
      → Each (λ b. p * (t + 1) ≤ b.start + (p * θ + q * 16)) bs
  debts t p θ c [] rate s h on = tt
  debts t p θ c (b ∷ bs) rate s h on =
      let v : b.length - b.left ≤ 15 = omega (arith, s.0.some, s.0.within, s.0.few) in
      let g = mul-le-mul_left {m = b.length - b.left} {n = 15} q v in
      order_each q b.start c (λ x. p * (t + 1) ≤ x.start + (p * θ + q * 16)) (b ∷ bs) (λ x l. omega (arith, l, on, g, rate)) (omega arith, h.1)
