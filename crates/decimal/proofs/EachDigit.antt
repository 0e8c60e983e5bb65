-- The loop over the digits: each digit moves the number on, and another byte ends it.
use Rattle.std.proofs.Common.{◌≡◌, ℕ, ◌+◌, ◌-◌, ◌*◌, ◌^◌, ◌<◌, true, false, cond, ◌&&◌, List, ◌∷◌, length, get_or, drop, Some, None, ap, ◌∙◌, add-one, arith}
use Rattle.decimal.specs.Numbers.{read_on, digits_on}
use Rattle.std.proofs.lemmas.List.{at_drop_more}
use Rattle.std.proofs.lemmas.Bool.Decides.{nat_tests}
use Rattle.std.specs.Char.{is_ascii_digit}
use Rattle.std.specs.Str.{all_ascii_digits}
use native.Mathlib.Nat.{pow-succ'}

pub digit_small : (b : ℕ) → is_ascii_digit b ≡ true → b - 48 < 10
digit_small b e = grind (arith, nat_tests)

pub grows : (v d i : ℕ) → v < 10 ^ (i + 1) → d < 10 → 10 * v + d < 10 ^ (i + 1 + 1)
grows v d i h l = rw (add-one (i + 1), pow-succ' 10 (i + 1)) (omega arith)

pub stop : (v b : ℕ) (bs : List ℕ) → is_ascii_digit b ≡ false → digits_on v (b ∷ bs) ≡ None
stop v b bs e = ap (λ t. cond (t && all_ascii_digits bs) (Some (read_on v (b ∷ bs))) None) e

pub go : (v b : ℕ) (bs : List ℕ) → is_ascii_digit b ≡ true → digits_on v (b ∷ bs) ≡ digits_on (10 * v + (b - 48)) bs
go v b bs e = ap (λ t. cond (t && all_ascii_digits bs) (Some (read_on v (b ∷ bs))) None) e

module _ (v : ℕ) (xs : List ℕ) (i : ℕ) (h : i < length xs) where
  pub digits_stop : is_ascii_digit (get_or xs i 0) ≡ false → digits_on v (drop i xs) ≡ None
  digits_stop e = at_drop_more (digits_on v) xs i 0 h ∙ stop v (get_or xs i 0) (drop (i + 1) xs) e

  pub digits_go : is_ascii_digit (get_or xs i 0) ≡ true → digits_on v (drop i xs) ≡ digits_on (10 * v + (get_or xs i 0 - 48)) (drop (i + 1) xs)
  digits_go e = at_drop_more (digits_on v) xs i 0 h ∙ go v (get_or xs i 0) (drop (i + 1) xs) e
