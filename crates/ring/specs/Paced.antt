-- What keeps a ring's clients on time, whatever order the turns come in. Assumes nothing.
use Rattle.std.specs.Prelude.{◌≡◌, ℕ, ◌+◌, ◌-◌, ◌*◌, ◌<◌, ◌≤◌, Bool, true, false, cond, ◌&&◌, ◌≢◌, List, [], ◌∷◌, length, ◌==◌}
use Rattle.server.specs.declared.block.Block.{Block}
use Rattle.server.specs.Meaning.{Client, Meaning}
use Rattle.server.specs.Laws.{Each}
use Rattle.clients.specs.Held.{reach, latency_for}
use Rattle.ring.specs.declared.turns.Ring.{Ring}
use Rattle.ring.specs.Sums.{others}
use Rattle.ring.specs.Shares.{theta}
use Rattle.ring.specs.Turns.{quantum_of, deficit_of, stands_open, client_of}

-- ## One client

-- blocks of which nothing has gone
abbrev pub Whole : List Block → Type 0
Whole bs = Each (λ b. b.left ≡ b.length) bs

-- nothing has gone of the blocks behind the front
abbrev pub WholeBehind : List Block → Type 0
WholeBehind [] = Unit {0}
WholeBehind (b ∷ bs) = Whole bs

-- the units left of the front
abbrev pub front_left : List Block → ℕ
front_left [] = 0
front_left (b ∷ bs) = b.left

-- the units that the client may still give in this turn: its deficit d, and what is left of the block in service
abbrev pub allowance_in : Bool → ℕ → List Block → ℕ
allowance_in mine d bs = d + cond mine (front_left bs) 0

-- one of `count` clients, with its quantum and deficit; `mine` says that its turn is open
pub record Share (count total quantum deficit : ℕ) (mine : Bool) (x : Client) : Type 0 where
  pub least : 16 ≤ quantum
  pub most : quantum ≤ 1024
  pub enough : x.terms.rate.p * total ≤ quantum * x.terms.rate.q
  pub late : x.terms.latency ≡ latency_for x.terms.rate.p x.terms.rate.q (theta count total quantum)
  pub behind : WholeBehind x.waiting
  pub outside : mine ≡ false → (deficit ≤ 15) × Whole x.waiting
  pub inside : mine ≡ true → (0 < length x.waiting) × (allowance_in true deficit x.waiting ≤ quantum + 15)

-- ## The potential

-- p, φ and the rest r of the ring total, 15 units for each other client, slot t, what the others may still give, how far
-- the client has been served, the quanta of those that have had their turn, and what the client itself may still give
pub record Within (p φ r spare t given reached gone own : ℕ) : Type 0 where
  pub holds : φ * p * t + p * φ * given ≤ φ * reached + p * φ * (gone + spare) + p * r * own

-- ## All clients

-- whether client k's turn is open
abbrev pub mine : Ring → ℕ → Bool
mine r k = stands_open r.turn && k == client_of r.turn

-- what client k may still give in its turn
abbrev pub allowance : Meaning → Ring → ℕ → ℕ
allowance m r k = allowance_in (mine r k) (deficit_of r k) (m.client k).waiting

-- the quanta of the marked
abbrev pub marked : (ℕ → Bool) → Ring → ℕ → ℕ
marked gone r k = cond (gone k) (quantum_of r k) 0

-- the potential of client c
abbrev pub Bounded : Meaning → Ring → (ℕ → Bool) → ℕ → Type 0
Bounded m r gone c =
    Within (m.client c).terms.rate.p (quantum_of r c) (r.total - quantum_of r c) (15 * (m.count - 1)) m.now
    (others m.count c (allowance m r)) (reach m.now (m.client c)) (others m.count c (marked gone r)) (allowance m r c)

-- `gone c j` marks the j that have no turn before c's next one
pub record Paced (m : Meaning) (r : Ring) (gone : ℕ → ℕ → Bool) : Type 0 where
  pub each : (k : ℕ) → k < m.count → Share m.count r.total (quantum_of r k) (deficit_of r k) (mine r k) (m.client k)
  pub there : stands_open r.turn ≡ true → client_of r.turn < m.count
  pub own : stands_open r.turn ≡ true → (j : ℕ) → j < m.count → j ≢ client_of r.turn → gone (client_of r.turn) j ≡ false
  pub seen : stands_open r.turn ≡ true → (c : ℕ) → c < m.count → c ≢ client_of r.turn → gone c (client_of r.turn) ≡ true
  pub bound : (c : ℕ) → c < m.count → Bounded m r (gone c) c
