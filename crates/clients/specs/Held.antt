-- What every scheduler's clients keep, whoever is served. Assumes nothing.
use Rattle.std.specs.Prelude.{ℕ, ◌+◌, ◌-◌, ◌*◌, ◌<◌, ◌≤◌, max, List, [], ◌∷◌, length}
use Rattle.server.specs.declared.block.Block.{Block}
use Rattle.server.specs.Meaning.{Client, Meaning}
use Rattle.server.specs.Laws.{Each, Shaped, Ranged, Clocked}
use Rattle.server.specs.Order.{InOrder}

-- one client at slot t
pub record Held (t : ℕ) (x : Client) : Type 0 where
  pub ranged : Ranged x.terms
  pub eight : length x.waiting ≤ 8
  pub shaped : Each Shaped x.waiting
  pub order : InOrder x.terms.rate.q 0 x.clock x.waiting
  pub clocked : Clocked t x

-- all clients
pub record Kept (m : Meaning) : Type 0 where
  pub eight : m.count ≤ 8
  pub counted : m.now < 4294967296
  pub each : (k : ℕ) → k < m.count → Held m.now (m.client k)

-- the tick up to which a client has been served: its front's start and units gone, or where the next start would be
abbrev pub reach_of : (t p q clock : ℕ) → List Block → ℕ
reach_of t p q clock [] = max (p * t) clock
reach_of t p q clock (b ∷ bs) = b.start + q * (b.length - b.left)

abbrev pub reach : ℕ → Client → ℕ
reach t x = reach_of t x.terms.rate.p x.terms.rate.q x.clock x.waiting

-- late by at most θ slots
abbrev pub OnTime : (θ t : ℕ) → Client → Type 0
OnTime θ t x = x.terms.rate.p * t ≤ reach t x + x.terms.rate.p * θ

-- the latency of a client that is on time with θ: p·θ + q·16
abbrev pub latency_for : (p q θ : ℕ) → ℕ
latency_for p q θ = p * θ + q * 16
