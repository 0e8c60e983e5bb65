-- Writing the number of a text gives that text, and reading a written number gives that number.
use Rattle.std.proofs.Common.{◌≡◌, ℕ, zero, suc, ◌^◌, ◌<◌, ◌≤◌, true, List, length, get_or, Some, decimal, sym, ap, ◌∙◌, arith, rules}
use Rattle.decimal.specs.Numbers.{read_on, number_of}
use Rattle.std.proofs.lemmas.Fmt.{decimal_digit, digits_decimal, digits_value-decimal, decimal-digits_value, length-decimal-le, decimal_nonempty, first_decimal}
use Rattle.std.proofs.lemmas.Str.Parse.{IsNumeralModel, numerals_by_fold}
use Rattle.std.proofs.lemmas.Bool.Decides.{nat_tests}
use Rattle.std.specs.Str.{all_ascii_digits}

-- what it means to be the digits of a number
pub own : IsNumeralModel (λ ds. all_ascii_digits ds ≡ true) (read_on 0)
own = numerals_by_fold _ (search rules) read_on (search rules)

-- what is known of a text that has a number
pub record Numeral (most : ℕ) (ds : List ℕ) (n : ℕ) : Type 0 where
  pub digits : all_ascii_digits ds ≡ true
  pub some : 0 < length ds
  pub few : length ds ≤ 10
  pub first : get_or ds 0 0 ≡ 48 → length ds ≡ 1
  pub value : read_on 0 ds ≡ n
  pub bound : n ≤ most

pub numeral : (most : ℕ) (ds : List ℕ) (n : ℕ) → number_of most ds ≡ Some n → Numeral most ds n
unfolding number_of
numeral most ds n e =
    record {
      digits = grind (arith, nat_tests);
      some = grind (arith, nat_tests);
      few = grind (arith, nat_tests);
      first = λ z. grind (arith, nat_tests);
      value = grind (arith, nat_tests);
      bound = grind (arith, nat_tests);
    }

number_from : (most : ℕ) (ds : List ℕ) (n : ℕ) → Numeral most ds n → number_of most ds ≡ Some n
unfolding number_of
number_from most ds n h = grind (arith, nat_tests)

first_alone : (n : ℕ) → n < 2 ^ 64 → get_or (decimal n) 0 0 ≡ 48 → length (decimal n) ≡ 1
first_alone zero s z = ap length (decimal_digit 0 (omega arith))
first_alone (suc n) s z = absurd (omega (arith, first_decimal (suc n) (omega arith) s, z))

-- reading what was written
pub number_decimal : (most n : ℕ) → most < 10 ^ 10 → n ≤ most → number_of most (decimal n) ≡ Some n
number_decimal most n s h =
    let l : n < 2 ^ 64 = omega arith in
    number_from most (decimal n) n
    (record {
      digits = digits_decimal own n l;
      some = decimal_nonempty n l;
      few = length-decimal-le 10 n (omega arith) (omega arith) l;
      first = first_alone n l;
      value = digits_value-decimal own n l;
      bound = h;
    })

-- writing what was read
pub decimal_number : (most : ℕ) (ds : List ℕ) (n : ℕ) → most < 2 ^ 64 → number_of most ds ≡ Some n → decimal n ≡ ds
decimal_number most ds n s e =
    let h = numeral most ds n e in
    ap decimal (sym h.value) ∙ decimal-digits_value own ds h.digits h.some h.first (omega (arith, h.value, h.bound))
