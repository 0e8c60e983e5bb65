-- What is left of a table after one item more is what more items leave, where that one is all of them.
use Rattle.std.proofs.Common.{◌≡◌, ℕ, List, [], ◌∷◌, arith}
use Rattle.lines.specs.Tables.{pushed}
use Rattle.std.proofs.lemmas.Bool.Decides.{nat_tests}
use Rattle.tables.specs.Tables.{extended}

pub one_more : {T : Type 0} (most : ℕ) (was : List T) (item : T) → extended most was (item ∷ []) ≡ pushed most was item
one_more most was item = grind (arith, nat_tests)
