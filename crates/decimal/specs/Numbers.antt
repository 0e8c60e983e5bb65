-- Which number a text of digits stands for.
use Rattle.std.specs.Prelude.{ℕ, ◌+◌, ◌-◌, ◌*◌, Bool, cond, not, ◌&&◌, ◌||◌, List, [], ◌∷◌, length, Some, None, Option, ◌==◌, nat_le, nat_lt, slice_index}
use Rattle.std.specs.Str.{all_ascii_digits}

-- the number that digits stand for, read from the left after n
abbrev pub read_on : ℕ → List ℕ → ℕ
read_on n [] = n
read_on n (c ∷ cs) = read_on (10 * n + (c - 48)) cs

-- the same, of a text that has nothing but digits
abbrev pub digits_on : ℕ → List ℕ → Option ℕ
digits_on n ds = cond (all_ascii_digits ds) (Some (read_on n ds)) None

-- 1 to 10 bytes, and in front no zero unless it stands alone
abbrev pub shaped : List ℕ → Bool
shaped ds = nat_lt 0 (length ds) && (nat_le (length ds) 10 && (not (slice_index ds 0 == 48) || length ds == 1))

-- a number that is at most `most`
abbrev pub kept : ℕ → Option ℕ → Option ℕ
kept most None = None
kept most (Some n) = cond (nat_le n most) (Some n) None

-- the number of a text of 1 to 10 digits with no leading zero, at most `most`
unfoldable pub number_of : ℕ → List ℕ → Option ℕ
number_of most ds = cond (shaped ds) (kept most (digits_on 0 ds)) None
