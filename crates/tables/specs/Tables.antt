-- The items of a table, and what more of them leave. Assumes nothing.
use Rattle.std.specs.Prelude.{ℕ, ◌+◌, Bool, cond, List, [], ◌∷◌, ◌++◌, length, take, nat_le}
use Rattle.tables.specs.declared.table.Table.{Table}

-- the items of a table, in the order in which they came
abbrev pub listed : {T : Type 0} {N : ℕ} → Table T N → List T
listed t = take t.count t.items

-- whether there is room for more
abbrev pub fits : {T : Type 0} → (most : ℕ) (was more : List T) → Bool
fits most was more = nat_le (length was + length more) most

-- the items with more behind, or as they were where there is no room
abbrev pub extended : {T : Type 0} → (most : ℕ) (was more : List T) → List T
extended most was more = cond (fits most was more) (was ++ more) was
