-- One client in one slot, over plain numbers: D is the denominator, n its step, s its cap, e its credit, f how far
-- it has been served; R is what the higher clients' steps leave, H and C are their credits and caps.
use Rattle.std.specs.Prelude.{◌≡◌, ℕ, ◌+◌, ◌-◌, ◌*◌, ◌<◌, ◌≤◌, min}
use Rattle.std.proofs.Common.{sym, ap, ◌∙◌, ⊎_elim, arith, mul-le-mul, mul-le-mul_left, mul-le-mul_right, div-mul-le_self, mul-add, sub-add_cancel}
use Rattle.std.proofs.Math.Nat.{le_of_mul-le-mul_left, lt-mul-div-succ, min-eq_left, min-eq_right}
use Rattle.std.proofs.lemmas.Bool.{cases_lt}
use Rattle.server.proofs.Rounded.{rounded_up}
use Rattle.std.specs.Int.{div_ceil}
use Rattle.credits.specs.Shares.{theta}

-- ## Credit keeps up with the clock

pub saved_waits : (D p q n s e t f f' : ℕ) → p * D ≤ n * q → f ≤ f' → D * p * t + q * s ≤ D * f + q * e → D * p * (t + 1) + q * s ≤ D * f' + q * (e + n)
saved_waits D p q n s e t f f' pays up h = omega (arith, mul-le-mul_left {m = f} {n = f'} D up)

pub saved_idle : (D p q n s e t f f' : ℕ) → p * D ≤ n * q → f ≤ f' → p * (t + 1) ≤ f' → D * p * t + q * s ≤ D * f + q * e → D * p * (t + 1) + q * s ≤ D * f' + q * min (e + n) s
saved_idle D p q n s e t f f' pays up now h =
    ⊎_elim
    (λ (l : e + n < s). let g : e + n ≤ s = omega arith in rw (min-eq_left g) (saved_waits D p q n s e t f f' pays up h))
    (λ (l : s ≤ e + n). rw (min-eq_right l) (omega (arith, mul-le-mul_left {m = p * (t + 1)} {n = f'} D now)))
    (cases_lt (e + n) s)

pub saved_served : (D p q n s e t f f' : ℕ) → p * D ≤ n * q → D ≤ e + n → f + q ≤ f' → D * p * t + q * s ≤ D * f + q * e → D * p * (t + 1) + q * s ≤ D * f' + q * (e + n - D)
saved_served D p q n s e t f f' pays can up h =
    let a : q * (e + n - D) + q * D ≡ q * (e + n) = sym (mul-add q (e + n - D) D) ∙ ap (λ k. q * k) (sub-add_cancel can) in
    omega (arith, a, mul-le-mul_left {m = f + q} {n = f'} D up)

-- a client whose credit is within its cap is not late
pub early : (D p q s e t f : ℕ) → 1 ≤ D → e ≤ s → D * p * t + q * s ≤ D * f + q * e → p * t ≤ f
early D p q s e t f some low h =
    let a : D * (p * t) ≤ D * f = omega (arith, mul-le-mul_left {m = e} {n = s} q low) in
    le_of_mul-le-mul_left {m = p * t} {n = f} {k = D} a (omega arith)

-- ## The potential

-- a higher client is served
pub ahead_higher : (p t R H C H' f f' : ℕ) → H' + R ≤ H → f ≤ f' → R * p * t + p * H ≤ R * f + p * C → R * p * (t + 1) + p * H' ≤ R * f' + p * C
ahead_higher p t R H C H' f f' fell up h = omega (arith, mul-le-mul_left {m = f} {n = f'} R up, mul-le-mul_left {m = H' + R} {n = H} p fell)

-- this client is served
pub ahead_served : (D p q n t R H C H' f f' : ℕ) → p * D ≤ n * q → n ≤ R → H' + R ≤ H + D → f + q ≤ f' → R * p * t + p * H ≤ R * f + p * C → R * p * (t + 1) + p * H' ≤ R * f' + p * C
ahead_served D p q n t R H C H' f f' pays room rose up h =
    omega (arith, mul-le-mul_left {m = f + q} {n = f'} R up, mul-le-mul_left {m = H' + R} {n = H + D} p rose, mul-le-mul_right {m = n} {n = R} q room)

-- it is not late at all
pub ahead_early : (p t R H C f : ℕ) → H ≤ C → p * t ≤ f → R * p * t + p * H ≤ R * f + p * C
ahead_early p t R H C f within early = omega (arith, mul-le-mul_left {m = p * t} {n = f} R early, mul-le-mul_left {m = H} {n = C} p within)

-- ## The latency

-- a quotient rounded up is what the latency counts by
pub theta_ceil : (R C : ℕ) → 1 ≤ R → theta R C ≡ div_ceil C R
theta_ceil R C some = sym (rounded_up C R some)

theta_covers : (R C : ℕ) → 1 ≤ R → C ≤ R * theta R C
theta_covers R C some = omega (arith, lt-mul-div-succ (C + (R - 1)) {b = R} some)

pub on_time : (p t R H C f : ℕ) → 1 ≤ R → R * p * t + p * H ≤ R * f + p * C → p * t ≤ f + p * theta R C
on_time p t R H C f some h =
    let a : R * (p * t) ≤ R * (f + p * theta R C) = omega (arith, mul-le-mul_left {m = C} {n = R * theta R C} p (theta_covers R C some)) in
    le_of_mul-le-mul_left {m = p * t} {n = f + p * theta R C} {k = R} a (omega arith)

-- p·θ is at most 512·q + p where the caps are at most 512·D, so a latency is always within its range
pub latency_small : (D p q n R C : ℕ) → 1 ≤ D → 1 ≤ n → n ≤ R → p ≤ q → q ≤ 1024 → p * D ≤ n * q → C ≤ 512 * D → p * theta R C + q * 16 ≤ 4194304
latency_small D p q n R C some step room rate small pays caps =
    let θ = theta R C in
    let a : R * θ ≤ C + R = omega (arith, div-mul-le_self (C + (R - 1)) R) in
    let b : p * D ≤ R * q = omega (arith, mul-le-mul_right {m = n} {n = R} q room) in
    let d : (D * R) * (p * θ) ≤ (D * R) * (512 * q + p) =
    omega (arith, mul-le-mul_left {m = R * θ} {n = C + R} (p * D) a, mul-le-mul_right {m = p * D} {n = R * q} C b, mul-le-mul_left {m = C} {n = 512 * D} (R * q) caps) in
    let pos : 0 < D * R = omega (arith, mul-le-mul {n₁ = 1} {m₁ = 1} {n₂ = D} {m₂ = R} some (omega arith)) in
    let e = le_of_mul-le-mul_left {m = p * θ} {n = 512 * q + p} {k = D * R} d pos in
    omega (arith, e)
