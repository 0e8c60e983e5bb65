-- An array turned by one place, as the list of its first elements.
use Rattle.std.proofs.Common.{◌≡◌, ℕ, zero, suc, ◌-◌, ◌<◌, ◌≤◌, List, [], ◌∷◌, ◌++◌, length, take, drop, sub-one, arith}
use lib.Seq.{take-append-le}

pub turned_take : {X : Type 0} (n : ℕ) (xs : List X) → 0 < n → n ≤ length xs → take (n - 1) (drop 1 xs ++ take 1 xs) ≡ drop 1 (take n xs)
turned_take zero xs some few = absurd (omega arith)
turned_take (suc n) [] some few = absurd (omega arith)
turned_take (suc n) (x ∷ xs) some few = let l : n ≤ length xs = omega arith in rw (sub-one, take-append-le n xs (x ∷ []))
