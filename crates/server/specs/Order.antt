-- The order of starts in a row of waiting blocks. Assumes nothing.
use Rattle.std.specs.Prelude.{ℕ, ◌+◌, ◌*◌, ◌≤◌, List, [], ◌∷◌}
use Rattle.server.specs.declared.block.Block.{Block}

-- starts in order, from tick `from` on: each at least the end of the one before, the clock at least the last end
abbrev pub InOrder : (q from clock : ℕ) → List Block → Type 0
InOrder q from clock [] = from ≤ clock
InOrder q from clock (b ∷ bs) = (from ≤ b.start) × InOrder q (b.start + q * b.length) clock bs
