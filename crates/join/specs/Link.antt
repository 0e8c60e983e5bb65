-- What a chain means, and what holds between its two servers. Assumes nothing.
use Rattle.std.specs.Prelude.{◌≡◌, ℕ, ◌+◌, ◌<◌, ◌≤◌, List, [], ◌∷◌, ◌++◌, length, Ok, Err}
use Rattle.server.specs.declared.block.Block.{Block}
use Rattle.server.specs.declared.block.Served.TheVariants.{Nothing, Unit as OneUnit, Departed}
use Rattle.server.specs.Meaning.{Client, Meaning}
use Rattle.server.specs.Calls.{SlotAnswer, submitted}
use Rattle.server.specs.Order.{InOrder}

-- a block of the second, with the start that it had in the first
abbrev pub start_from : ℕ → Block → Block
start_from s b = record { label = b.label; length = b.length; left = b.left; start = s }

abbrev pub restarted : List ℕ → List Block → List Block
restarted [] bs = []
restarted (s ∷ ss) [] = []
restarted (s ∷ ss) (b ∷ bs) = start_from s b ∷ restarted ss bs

-- a block still in the first counts as whole
abbrev pub as_whole : Block → Block
as_whole b = record { label = b.label; length = b.length; left = b.length; start = b.start }

abbrev pub whole : List Block → List Block
whole [] = []
whole (b ∷ bs) = as_whole b ∷ whole bs

-- one client of a chain: the first's rate and clock, both latencies, the second's blocks and behind them the first's
abbrev pub joined : Client → Client → List ℕ → Client
joined x y ss = record {
  terms = record { rate = x.terms.rate; latency = x.terms.latency + y.terms.latency };
  clock = x.clock;
  waiting = restarted ss y.waiting ++ whole x.waiting;
}

-- a chain of so many clients at slot t
abbrev pub chained : (count t : ℕ) → (ℕ → List ℕ) → Meaning → Meaning → Meaning
chained count t ss m n = record { count = count; now = t; client = λ k. joined (m.client k) (n.client k) (ss k) }

-- the start of the oldest block, or else the clock
abbrev pub next_start : List Block → ℕ → ℕ
next_start [] clock = clock
next_start (b ∷ bs) clock = b.start

-- a block of the second starts there at most the first's latency after its start in the first
abbrev pub Behind : ℕ → List ℕ → List Block → Type 0
Behind late [] [] = Unit {0}
Behind late [] (b ∷ bs) = ⊥
Behind late (s ∷ ss) [] = ⊥
Behind late (s ∷ ss) (b ∷ bs) = (b.start ≤ s + late) × Behind late ss bs

-- a client in both servers
pub record Linked (x y : Client) (ss : List ℕ) : Type 0 where
  pub same : y.terms.rate ≡ x.terms.rate
  pub sum : x.terms.latency + y.terms.latency ≤ 4194304
  pub few : length x.waiting + length y.waiting ≤ 8
  pub order : InOrder x.terms.rate.q 0 x.clock x.waiting
  pub follows : y.clock ≤ x.terms.latency + next_start x.waiting x.clock
  pub behind : Behind x.terms.latency ss y.waiting

-- both servers stand at the chain's slot, with its clients; two that do not fit make a chain of no clients
pub record Stands (count t : ℕ) (ss : ℕ → List ℕ) (m n : Meaning) : Type 0 where
  pub eight : count ≤ 8
  pub counted : t < 4294967296
  pub counts : 0 < count → (m.count ≡ count) × (n.count ≡ count)
  pub times : 0 < count → (m.now ≡ t) × (n.now ≡ t)
  pub links : (k : ℕ) → k < count → Linked (m.client k) (n.client k) (ss k)

-- what departed from the first is submitted to the second
abbrev pub handed : SlotAnswer → Meaning → Meaning
handed (Ok Nothing) n = n
handed (Ok (OneUnit c)) n = n
handed (Ok (Departed d)) n = submitted n d.client d.label d.length
handed (Err e) n = n
