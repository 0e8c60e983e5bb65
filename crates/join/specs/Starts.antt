-- The starts that a chain keeps, and what its two servers' answers make of them. Assumes nothing.
use Rattle.std.specs.Prelude.{ℕ, cond, List, [], ◌∷◌, ◌++◌, map, length, drop, Ok, Err, ◌==◌, nat_lt, slice_index, slice_index_or}
use Rattle.tables.specs.declared.table.Table.{Table}
use Rattle.tables.specs.Tables.{listed}
use Rattle.server.specs.declared.block.Served.{Served}
use Rattle.server.specs.declared.block.Served.TheVariants.{Nothing, Unit as OneUnit, Departed}
use Rattle.server.specs.declared.block.Departure.{Departure}
use Rattle.server.specs.Calls.{SlotAnswer}
use Rattle.join.specs.declared.starts.Starts.{Starts}

-- the starts of each client, oldest first
abbrev pub starts_of : {N : ℕ} → List (Table ℕ N) → ℕ → List ℕ
starts_of rows k = slice_index_or (map listed rows) k []

abbrev pub starts_in : Starts → ℕ → List ℕ
starts_in s = starts_of s.rows

-- the rows, with client c's changed
abbrev pub at_row : ℕ → (List ℕ → List ℕ) → (ℕ → List ℕ) → ℕ → List ℕ
at_row c f ss k = cond (k == c) (f (ss k)) (ss k)

-- one more start, where there is room
abbrev pub pushed : ℕ → List ℕ → List ℕ
pushed s r = cond (nat_lt (length r) 8) (r ++ (s ∷ [])) r

-- one more start of client c, one of eight
abbrev pub put_in : ℕ → ℕ → (ℕ → List ℕ) → ℕ → List ℕ
put_in c s ss = cond (nat_lt c 8) (at_row c (pushed s) ss) ss

-- a departure with the start that its block had in the first
abbrev pub started_at : ℕ → Departure → Departure
started_at s d = record { client = d.client; label = d.label; length = d.length; start = s }

-- the second has answered: what the chain answers, and the starts that stay
abbrev pub told : SlotAnswer → (ℕ → List ℕ) → Served
told (Ok Nothing) ss = Nothing
told (Ok (OneUnit c)) ss = OneUnit c
told (Ok (Departed d)) ss = Departed (started_at (slice_index (ss d.client) 0) d)
told (Err e) ss = Nothing

abbrev pub staying : SlotAnswer → (ℕ → List ℕ) → ℕ → List ℕ
staying (Ok Nothing) ss = ss
staying (Ok (OneUnit c)) ss = ss
staying (Ok (Departed d)) ss = at_row d.client (drop 1) ss
staying (Err e) ss = ss

-- the first has answered: the start of a departed block is kept
abbrev pub noted : SlotAnswer → (ℕ → List ℕ) → ℕ → List ℕ
noted (Ok Nothing) ss = ss
noted (Ok (OneUnit c)) ss = ss
noted (Ok (Departed d)) ss = put_in d.client d.start ss
noted (Err e) ss = ss
