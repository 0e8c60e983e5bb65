-- Sums over the clients below k, and over those but one.
use Rattle.std.specs.Prelude.{◌≡◌, ℕ, zero, suc, ◌+◌, ◌*◌, ◌<◌, ◌≤◌, Bool, true, false, cond, ◌≢◌, ◌==◌, refl}
use Rattle.std.proofs.Common.{sym, ap, ◌∙◌, arith, add-one, eqb-true, ne_eqb}
use Rattle.std.proofs.lemmas.Bool.{eqb-false}
use Rattle.ring.specs.Sums.{sum, others}

-- by the outcome of a test, which each case knows
pub by_test : (t : Bool) (P : Bool → Type 0) → (t ≡ true → P true) → (t ≡ false → P false) → P t
by_test true P a b = a refl
by_test false P a b = b refl

-- ## All

pub sum_le : (k : ℕ) (f g : ℕ → ℕ) → ((j : ℕ) → j < k → f j ≤ g j) → sum k f ≤ sum k g
sum_le zero f g h = omega arith
sum_le (suc k) f g h = omega (arith, sum_le k f g (λ j l. h j (omega arith)), h k (omega arith))

pub sum_more : (k : ℕ) (f : ℕ → ℕ) → sum (k + 1) f ≡ sum k f + f k
sum_more k f = rw (add-one)

-- g is at most f but at i, where it loses d and gains u
sum_at : (k : ℕ) (f g : ℕ → ℕ) (i d u : ℕ) → i < k → g i + d ≤ f i + u → ((j : ℕ) → j < k → j ≢ i → g j ≤ f j) → sum k g + d ≤ sum k f + u
sum_at zero f g i d u l a h = absurd (omega arith)
sum_at (suc k) f g i d u l a h =
    by_test (i == k) (λ t. sum (suc k) g + d ≤ sum (suc k) f + u)
    (λ e. let z : i ≡ k = eqb-true i k e in let b : g k + d ≤ f k + u = rw z at a in
    omega (arith, sum_le k g f (λ j m. h j (omega arith) (λ q. omega arith)), b))
    (λ e. let n = eqb-false i k e in omega (arith, sum_at k f g i d u (omega (arith, n)) a (λ j m. h j (omega arith)), h k (omega arith) (λ q. n (sym q))))

sum_const : (k n : ℕ) → sum k (λ j. n) ≡ n * k
sum_const zero n = omega arith
sum_const (suc k) n = omega (arith, sum_const k n)

-- ## All but one

other_same : (c j : ℕ) (f : ℕ → ℕ) → j ≢ c → cond (j == c) 0 (f j) ≡ f j
other_same c j f n = rw (ne_eqb j c n)

pub others_le : (k c : ℕ) (f g : ℕ → ℕ) → ((j : ℕ) → j < k → j ≢ c → f j ≤ g j) → others k c f ≤ others k c g
others_le k c f g h = sum_le k (λ j. cond (j == c) 0 (f j)) (λ j. cond (j == c) 0 (g j))
    (λ j l. by_test (j == c) (λ t. cond t 0 (f j) ≤ cond t 0 (g j)) (λ e. omega arith) (λ e. h j l (eqb-false j c e)))

-- g is at most f but at i, where it loses d and gains u
pub others_at : (k c : ℕ) (f g : ℕ → ℕ) (i d u : ℕ) → i < k → i ≢ c → g i + d ≤ f i + u → ((j : ℕ) → j < k → j ≢ c → j ≢ i → g j ≤ f j)
    → others k c g + d ≤ others k c f + u
others_at k c f g i d u l n a h = sum_at k (λ j. cond (j == c) 0 (f j)) (λ j. cond (j == c) 0 (g j)) i d u l
    (omega (arith, other_same c i f n, other_same c i g n, a))
    (λ j m q. by_test (j == c) (λ t. cond t 0 (g j) ≤ cond t 0 (f j)) (λ e. omega arith) (λ e. h j m (eqb-false j c e) q))

others_past : (k c : ℕ) (f : ℕ → ℕ) → k ≤ c → others k c f ≡ sum k f
others_past zero c f h = refl
others_past (suc k) c f h = omega (arith, others_past k c f (omega arith), other_same c k f (λ e. omega arith))

-- the one and the others
pub others_split : (k c : ℕ) (f : ℕ → ℕ) → c < k → others k c f + f c ≡ sum k f
others_split zero c f h = absurd (omega arith)
others_split (suc k) c f h =
    by_test (k == c) (λ t. (sum k (λ j. cond (j == c) 0 (f j)) + cond t 0 (f k)) + f c ≡ sum k f + f k)
    (λ e. let z : k ≡ c = eqb-true k c e in let b : f k ≡ f c = ap f z in omega (arith, others_past k c f (omega (arith, z)), b))
    (λ e. let n = eqb-false k c e in omega (arith, others_split k c f (omega (arith, n))))

pub others_const : (k c n : ℕ) → c < k → others k c (λ j. n) + n ≡ n * k
others_const k c n h = others_split k c (λ j. n) h ∙ sum_const k n

pub others_add : (k c : ℕ) (f g : ℕ → ℕ) → others k c (λ j. f j + g j) ≡ others k c f + others k c g
others_add zero c f g = refl
others_add (suc k) c f g =
    by_test (k == c) (λ t. others k c (λ j. f j + g j) + cond t 0 (f k + g k) ≡ (others k c f + cond t 0 (f k)) + (others k c g + cond t 0 (g k)))
    (λ e. omega (arith, others_add k c f g)) (λ e. omega (arith, others_add k c f g))

pub others_none : (k c : ℕ) (f : ℕ → ℕ) → ((j : ℕ) → j < k → j ≢ c → f j ≡ 0) → others k c f ≡ 0
others_none zero c f h = refl
others_none (suc k) c f h = by_test (k == c) (λ t. others k c f + cond t 0 (f k) ≡ 0)
    (λ e. omega (arith, others_none k c f (λ j m. h j (omega arith))))
    (λ e. omega (arith, others_none k c f (λ j m. h j (omega arith)), h k (omega arith) (eqb-false k c e)))
