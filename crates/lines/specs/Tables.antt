-- What one item more leaves of a table of at most so many items.
use Rattle.std.specs.Prelude.{ℕ, cond, List, [], ◌∷◌, ◌++◌, length, nat_lt}

-- the items with one more behind, or as they were where there is no room
abbrev pub pushed : {T : Type 0} → ℕ → List T → T → List T
pushed most was item = cond (nat_lt (length was) most) (was ++ item ∷ []) was
