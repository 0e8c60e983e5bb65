-- Sums over the clients, by their numbers. Assumes nothing.
use Rattle.std.specs.Prelude.{ℕ, zero, suc, ◌+◌, cond, ◌==◌}

-- the sum of f over the numbers below k
abbrev pub sum : ℕ → (ℕ → ℕ) → ℕ
sum zero f = 0
sum (suc k) f = sum k f + f k

-- the same without c
abbrev pub others : ℕ → ℕ → (ℕ → ℕ) → ℕ
others k c f = sum k (λ j. cond (j == c) 0 (f j))
