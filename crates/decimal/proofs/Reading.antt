-- Each case of a text's first bytes gives its number: none for an empty text, a leading zero and a long text.
use Rattle.std.proofs.Common.{◌≡◌, ℕ, ◌-◌, ◌<◌, ◌≤◌, true, false, cond, List, [], ◌∷◌, length, get_or, take, drop, Some, None, Option, sym, ap, ◌∙◌, arith, length-drop}
use Rattle.decimal.specs.Numbers.{digits_on, shaped, kept, number_of}
use Rattle.std.proofs.lemmas.List.{take_rest}
use Rattle.std.proofs.lemmas.Bool.Decides.{nat_tests}

unshaped : (most : ℕ) (ds : List ℕ) → shaped ds ≡ false → None ≡ number_of most ds
unfolding number_of
unshaped most ds e = sym (ap (λ t. cond t (kept most (digits_on 0 ds)) None) e)

pub empty : (most : ℕ) (ds : List ℕ) → length ds ≡ 0 → None ≡ number_of most ds
empty most ds e = unshaped most ds (grind (arith, nat_tests))

pub leading_zero : (most : ℕ) (ds : List ℕ) → 1 < length ds → get_or ds 0 0 ≡ 48 → None ≡ number_of most ds
leading_zero most ds l e = unshaped most ds (grind (arith, nat_tests))

-- the rest as the code takes it
pub too_long : (most : ℕ) (ds : List ℕ) → 9 < length (take (length ds - 1) (drop 1 ds)) → None ≡ number_of most ds
too_long most ds l =
    let t = ap length (take_rest ds 1) ∙ length-drop 1 ds in
    let long : 10 < length ds = omega arith in
    unshaped most ds (grind (arith, nat_tests))

one_zero : (most b : ℕ) → b ≡ 48 → Some 0 ≡ number_of most (b ∷ [])
unfolding number_of
one_zero most b e = grind (arith, nat_tests)

pub lone_zero : (most : ℕ) (ds : List ℕ) → length ds ≡ 1 → get_or ds 0 0 ≡ 48 → Some 0 ≡ number_of most ds
lone_zero most [] l e = absurd (omega arith)
lone_zero most (b ∷ []) l e = one_zero most b e
lone_zero most (b ∷ c ∷ ds) l e = absurd (omega arith)

short : (most : ℕ) (ds : List ℕ) → shaped ds ≡ true → kept most (digits_on 0 ds) ≡ number_of most ds
unfolding number_of
short most ds e = sym (ap (λ t. cond t (kept most (digits_on 0 ds)) None) e)

fits_shape : (b : ℕ) (bs : List ℕ) → (b ≡ 48 → ⊥) → length bs ≤ 9 → shaped (b ∷ bs) ≡ true
fits_shape b bs z l = grind (arith, nat_tests)

-- a first digit with the rest, as the code takes the rest
pub first_with_rest : (most : ℕ) (xs : List ℕ) (d r : Option ℕ) → 0 < length xs → (get_or xs 0 0 ≡ 48 → ⊥)
    → length (take (length xs - 1) (drop 1 xs)) ≤ 9
    → d ≡ digits_on 0 (get_or xs 0 0 ∷ take (length xs - 1) (drop 1 xs)) → r ≡ kept most d → r ≡ number_of most xs
first_with_rest most [] d r p z s e f = absurd (omega arith)
first_with_rest most (b ∷ bs) d r p z s e f =
    let t = take_rest (b ∷ bs) 1 in
    let y : length bs ≤ 9 = omega (arith, s, ap length t) in
    f ∙ ap (kept most) (e ∙ ap (λ ys. digits_on 0 (b ∷ ys)) t) ∙ short most (b ∷ bs) (fits_shape b bs z y)
