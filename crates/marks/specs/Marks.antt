-- The parts into which a mark cuts a text, in the library's words.
use Rattle.std.specs.Prelude.{ℕ, List, count_by, ◌==◌}
use Rattle.std.specs.List.{position_or_len, before_first, after_first, slice_split}

-- how many bytes stand before the first mark, all where there is none
abbrev pub span_to : ℕ → List ℕ → ℕ
span_to m bs = position_or_len (λ b. b == m) bs

-- the bytes before the first mark, all where there is none
abbrev pub before : ℕ → List ℕ → List ℕ
before m bs = before_first (λ b. b == m) bs

-- the bytes behind the first mark, none where there is no mark
abbrev pub behind : ℕ → List ℕ → List ℕ
behind m bs = after_first (λ b. b == m) bs

-- how many marks there are
abbrev pub marks_in : ℕ → List ℕ → ℕ
marks_in m bs = count_by (λ b. b == m) bs

-- all the parts, one more than there are marks
abbrev pub parts : ℕ → List ℕ → List (List ℕ)
parts m bs = slice_split (λ b. b == m) bs
