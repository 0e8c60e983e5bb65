-- The rows of blocks of a chain: their shape, their debts and their lengths.
use Rattle.std.specs.Prelude.{◌≡◌, ℕ, suc, ◌+◌, ◌≤◌, List, [], ◌∷◌, ◌++◌, length, refl}
use Rattle.std.proofs.Common.{ap, arith}
use Rattle.server.specs.declared.block.Block.{Block}
use Rattle.server.specs.Meaning.{units_left}
use Rattle.server.specs.Laws.{Each, Shaped}
use Rattle.server.specs.Order.{InOrder}
use Rattle.join.specs.Link.{restarted, as_whole, whole, next_start, Behind}

pub each_append : (P : Block → Type 0) (xs ys : List Block) → Each P xs → Each P ys → Each P (xs ++ ys)
each_append P [] ys a b = b
each_append P (x ∷ xs) ys a b = (a.0, each_append P xs ys a.1 b)

-- ## Blocks still in the first

pub whole_shaped : (xs : List Block) → Each Shaped xs → Each Shaped (whole xs)
whole_shaped [] a = tt
whole_shaped (x ∷ xs) a = let h = a.0 in (record { some = omega arith; within = omega arith; few = h.few }, whole_shaped xs a.1)

pub whole_debt : (c l m : ℕ) (xs : List Block) → Each (λ b. c ≤ b.start + l) xs → Each (λ b. c ≤ b.start + (l + m)) (whole xs)
whole_debt c l m [] a = tt
whole_debt c l m (x ∷ xs) a = let h = a.0 in (omega arith, whole_debt c l m xs a.1)

pub whole_length : (xs : List Block) → length (whole xs) ≡ length xs
whole_length [] = refl
whole_length (x ∷ xs) = ap suc (whole_length xs)

pub whole_append : (xs ys : List Block) → whole (xs ++ ys) ≡ whole xs ++ whole ys
whole_append [] ys = refl
whole_append (x ∷ xs) ys = ap (λ (l : List Block). as_whole x ∷ l) (whole_append xs ys)

whole_left : (xs : List Block) → Each Shaped xs → units_left xs ≤ units_left (whole xs)
whole_left [] a = omega arith
whole_left (x ∷ xs) a = let h = whole_left xs a.1 in let e = a.0 in omega arith

left_append : (xs ys : List Block) → units_left (xs ++ ys) ≡ units_left xs + units_left ys
left_append [] ys = omega arith
left_append (x ∷ xs) ys = let h = left_append xs ys in omega arith

-- what the first has left is left in the chain
pub left_joined : (r xs : List Block) → Each Shaped xs → units_left xs ≤ units_left (r ++ whole xs)
left_joined r xs a = omega (arith, left_append r (whole xs), whole_left xs a)

-- the first's blocks start no sooner than its order tells
pub order_next : (q a clock : ℕ) (bs : List Block) → InOrder q a clock bs → a ≤ next_start bs clock
order_next q a clock [] h = h
order_next q a clock (b ∷ bs) h = h.0

-- ## Blocks in the second

pub restarted_shaped : (late : ℕ) (ss : List ℕ) (xs : List Block) → Behind late ss xs → Each Shaped xs → Each Shaped (restarted ss xs)
restarted_shaped late [] [] h a = tt
restarted_shaped late [] (x ∷ xs) h a = absurd h
restarted_shaped late (s ∷ ss) [] h a = absurd h
restarted_shaped late (s ∷ ss) (x ∷ xs) h a =
    let e = a.0 in
    (record { some = e.some; within = e.within; few = e.few }, restarted_shaped late ss xs h.1 a.1)

pub restarted_debt : (c l m : ℕ) (ss : List ℕ) (xs : List Block) → Behind l ss xs → Each (λ b. c ≤ b.start + m) xs → Each (λ b. c ≤ b.start + (l + m)) (restarted ss xs)
restarted_debt c l m [] [] h a = tt
restarted_debt c l m [] (x ∷ xs) h a = absurd h
restarted_debt c l m (s ∷ ss) [] h a = absurd h
restarted_debt c l m (s ∷ ss) (x ∷ xs) h a = let d = a.0 in let e = h.0 in (omega arith, restarted_debt c l m ss xs h.1 a.1)

pub restarted_length : (l : ℕ) (ss : List ℕ) (xs : List Block) → Behind l ss xs → length (restarted ss xs) ≡ length xs
restarted_length l [] [] h = refl
restarted_length l [] (x ∷ xs) h = absurd h
restarted_length l (s ∷ ss) [] h = absurd h
restarted_length l (s ∷ ss) (x ∷ xs) h = ap suc (restarted_length l ss xs h.1)

pub behind_length : (l : ℕ) (ss : List ℕ) (xs : List Block) → Behind l ss xs → length ss ≡ length xs
behind_length l [] [] h = refl
behind_length l [] (x ∷ xs) h = absurd h
behind_length l (s ∷ ss) [] h = absurd h
behind_length l (s ∷ ss) (x ∷ xs) h = ap suc (behind_length l ss xs h.1)
