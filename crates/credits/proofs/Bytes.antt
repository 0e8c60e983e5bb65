-- The lowest set bit of the byte is the first flag that is set.
use Rattle.std.proofs.Common.{◌≡◌, ℕ, zero, suc, ◌+◌, ◌*◌, ◌/◌, ◌%◌, ◌^◌, ◌<◌, ◌≤◌, Bool, true, false, cond, not, eqb, eqb-true, List, [], ◌∷◌, ◌++◌, length, Some, None, sym, refl, ap, ◌∙◌, subst, one-mul, arith}
use native.Mathlib.Nat.{pow-succ'}
use borrow.Author.Tests.{eqb-false}
use lib.Bits.{bit_or, or_shifted_r}
use lib.Count.{count_trailing_zeros}
use Rattle.std.specs.Bool.{then_some}
use Rattle.std.proofs.lemmas.Nat.{one_shl}
use Rattle.credits.specs.Shares.{byte_of, lowest}

-- ## One flag more

byte_push : (bs : List Bool) (b : Bool) → byte_of (bs ++ (b ∷ [])) ≡ byte_of bs + cond b 1 0 * 2 ^ length bs
byte_push [] true = refl
byte_push [] false = refl
byte_push (x ∷ bs) true = omega (arith, byte_push bs true, pow-succ' 2 (length bs))
byte_push (x ∷ bs) false = omega (arith, byte_push bs false)

byte_fits : (bs : List Bool) → byte_of bs < 2 ^ length bs
byte_fits [] = omega arith
byte_fits (true ∷ bs) = omega (arith, byte_fits bs, pow-succ' 2 (length bs))
byte_fits (false ∷ bs) = omega (arith, byte_fits bs, pow-succ' 2 (length bs))

module _ (bs : List Bool) (i : ℕ) (long : length bs ≡ i) where
  pub byte_set : i < 8 → bit_or (byte_of bs) ((1 * 2 ^ i) % 2 ^ 8) ≡ byte_of (bs ++ (true ∷ []))
  byte_set l =
      let under-i : byte_of bs < 2 ^ i = subst (λ (k : ℕ). byte_of bs < 2 ^ k) long (byte_fits bs) in
      let a : bit_or (byte_of bs) (1 * 2 ^ i) ≡ 1 * 2 ^ i + byte_of bs = or_shifted_r 1 i (byte_of bs) under-i in
      let o : 1 * 2 ^ i ≡ 2 ^ i = one-mul (2 ^ i) in
      let c : bit_or (byte_of bs) ((1 * 2 ^ i) % 2 ^ 8) ≡ bit_or (byte_of bs) (1 * 2 ^ i) = ap (bit_or (byte_of bs)) (one_shl i 8 l ∙ sym o) in
      let d : byte_of (bs ++ (true ∷ [])) ≡ byte_of bs + 1 * 2 ^ i = byte_push bs true ∙ ap (λ (k : ℕ). byte_of bs + 1 * 2 ^ k) long in
      omega (arith, a, c, d)

  pub byte_clear : byte_of bs ≡ byte_of (bs ++ (false ∷ []))
  byte_clear = let d = byte_push bs false in omega (arith, d)

-- ## The lowest bit

bit_mod : (b : Bool) (m : ℕ) → (cond b 1 0 + 2 * m) % 2 ≡ cond b 1 0
bit_mod true m = omega arith
bit_mod false m = omega arith

bit_div : (b : Bool) (m : ℕ) → (cond b 1 0 + 2 * m) / 2 ≡ m
bit_div true m = omega arith
bit_div false m = omega arith

-- no bit is set, so no flag is
pub lowest_none : (k : ℕ) (bs : List Bool) → byte_of bs ≡ 0 → lowest k bs ≡ None
lowest_none k [] e = refl
lowest_none k (true ∷ bs) e = absurd (omega (arith, e))
lowest_none k (false ∷ bs) e = lowest_none (suc k) bs (omega (arith, e))

trailing_lowest : (w k : ℕ) (bs : List Bool) → length bs ≤ w → 0 < byte_of bs → lowest k bs ≡ Some (k + count_trailing_zeros w (byte_of bs))
unfolding count_trailing_zeros
trailing_lowest w k [] h some = absurd (omega (arith, some))
trailing_lowest zero k (b ∷ bs) h some = absurd (omega (arith, h))
trailing_lowest (suc w) k (true ∷ bs) h some =
    let z : k ≡ k + 0 = omega arith in
    rw (bit_mod true (byte_of bs)) (ap (λ (j : ℕ). Some j) z)
trailing_lowest (suc w) k (false ∷ bs) h some =
    let ih = trailing_lowest w (suc k) bs (omega (arith, h)) (omega (arith, some)) in
    let z : suc k + count_trailing_zeros w (byte_of bs) ≡ k + suc (count_trailing_zeros w (byte_of bs)) = omega arith in
    rw (bit_mod false (byte_of bs), bit_div false (byte_of bs)) (ih ∙ ap (λ (j : ℕ). Some j) z)

-- the count of trailing zeros is the first flag
pub lowest_bit : (byte : ℕ) (bs : List Bool) → length bs ≤ 8 → byte ≡ byte_of bs → (byte ≡ 0 → ⊥) → Some (count_trailing_zeros 8 byte) ≡ lowest 0 bs
lowest_bit byte bs few e some =
    let z : count_trailing_zeros 8 byte ≡ 0 + count_trailing_zeros 8 (byte_of bs) = (let y : count_trailing_zeros 8 byte ≡ count_trailing_zeros 8 (byte_of bs) = ap (count_trailing_zeros 8) e in omega (arith, y)) in
    ap (λ (j : ℕ). Some j) z ∙ sym (trailing_lowest 8 0 bs few (omega (arith, e, some)))

-- the count of trailing zeros, where a bit is set
pub lowest_or_none : (byte : ℕ) (bs : List Bool) → length bs ≤ 8 → byte ≡ byte_of bs → then_some (not (eqb byte 0)) (count_trailing_zeros 8 byte) ≡ lowest 0 bs
lowest_or_none byte bs few e = by (eqb byte 0) refl
  where
    by : (t : Bool) → eqb byte 0 ≡ t → then_some (not t) (count_trailing_zeros 8 byte) ≡ lowest 0 bs
    by true h = sym (lowest_none 0 bs (sym e ∙ eqb-true byte 0 h))
    by false h = lowest_bit byte bs few e (eqb-false byte 0 h)
