-- What a server means: its clients, its slot counter, and what waits. Assumes nothing.
use Rattle.std.specs.Prelude.{ℕ, ◌+◌, List, [], ◌∷◌}
use Rattle.server.specs.declared.block.Block.{Block}
use Rattle.server.specs.declared.rate.Terms.{Terms}

-- a client: what it reserved, its clock in ticks, and its waiting blocks, oldest first
pub record Client : Type 0 where
  pub terms : Terms
  pub clock : ℕ
  pub waiting : List Block

-- a server: the number of its clients, the slots counted so far, and each client by its number
pub record Meaning : Type 0 where
  pub count : ℕ
  pub now : ℕ
  pub client : ℕ → Client

-- the units left of a row of blocks
abbrev pub units_left : List Block → ℕ
units_left [] = 0
units_left (b ∷ bs) = b.left + units_left bs
