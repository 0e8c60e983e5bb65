-- The laws that a server's meaning keeps in every state that opening, joining and the calls lead to.
use Rattle.std.specs.Prelude.{◌≡◌, ℕ, ◌+◌, ◌*◌, ◌<◌, ◌≤◌, List, [], ◌∷◌, length}
use Rattle.server.specs.declared.block.Block.{Block}
use Rattle.server.specs.declared.rate.Terms.{Terms}
use Rattle.server.specs.Meaning.{Client, Meaning, units_left}

-- of each block of a row
abbrev pub Each : (Block → Type 0) → List Block → Type 0
Each P [] = Unit {0}
Each P (b ∷ bs) = P b × Each P bs

-- a waiting block has 1 to 16 units, and at least one of them is left
pub record Shaped (b : Block) : Type 0 where
  pub some : 0 < b.left
  pub within : b.left ≤ b.length
  pub few : b.length ≤ 16

-- 1 ≤ p ≤ q ≤ 1,024, and a latency from p to 4,194,304 ticks
pub record Ranged (x : Terms) : Type 0 where
  pub slow : 1 ≤ x.rate.p
  pub rate : x.rate.p ≤ x.rate.q
  pub small : x.rate.q ≤ 1024
  pub least : x.rate.p ≤ x.latency
  pub most : x.latency ≤ 4194304

-- the law of debt: a block that still waits can leave in the next slot and be in time
abbrev pub Debt : ℕ → Client → Type 0
Debt t x = Each (λ b. x.terms.rate.p * (t + 1) ≤ b.start + x.terms.latency) x.waiting

-- the law of the clock: it runs ahead by no more than what waits
abbrev pub Clocked : ℕ → Client → Type 0
Clocked t x = x.clock ≤ (x.terms.rate.p + x.terms.rate.q) * t + x.terms.rate.q * units_left x.waiting

-- a client at slot t
pub record ClientLaws (t : ℕ) (x : Client) : Type 0 where
  pub ranged : Ranged x.terms
  pub eight : length x.waiting ≤ 8
  pub shaped : Each Shaped x.waiting
  pub debt : Debt t x
  pub clocked : Clocked t x

-- a server
pub record Lawful (m : Meaning) : Type 0 where
  pub eight : m.count ≤ 8
  pub counted : m.now < 4294967296
  pub each : (k : ℕ) → k < m.count → ClientLaws m.now (m.client k)

-- a server that no call has moved yet
pub record Unused (m : Meaning) : Type 0 where
  pub start : m.now ≡ 0
  pub clocks : (k : ℕ) → k < m.count → (m.client k).clock ≡ 0
  pub empty : (k : ℕ) → k < m.count → (m.client k).waiting ≡ []
