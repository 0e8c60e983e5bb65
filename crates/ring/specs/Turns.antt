-- One slot of a ring: whose turn it is, and what is left of the turn when a unit went. Assumes nothing.
use Rattle.std.specs.Prelude.{ℕ, zero, suc, ◌+◌, ◌-◌, Bool, true, false, cond, List, [], ◌∷◌, Some, None, Option, nat_le, nat_lt, slice_index_or, slice_set}
use Rattle.server.specs.declared.block.Block.{Block}
use Rattle.server.specs.declared.block.Served.{Served}
use Rattle.server.specs.declared.block.Served.TheVariants.{Nothing, Unit as OneUnit, Departed}
use Rattle.server.specs.Meaning.{Meaning}
use Rattle.clients.specs.Serving.{waits, front_of}
use Rattle.ring.specs.declared.turns.Place.{Place}
use Rattle.ring.specs.declared.turns.Ring.{Ring}
use Rattle.ring.specs.declared.turns.Rest.{Rest}
use Rattle.ring.specs.declared.turns.Turn.{Turn}
use Rattle.ring.specs.declared.turns.Turn.TheVariants.{Open, Closed}

-- the place of nobody
abbrev pub no_place : Place
no_place = record { quantum = 0; deficit = 0 }

-- the place of client k
abbrev pub place_of : Ring → ℕ → Place
place_of r k = slice_index_or r.places k no_place

-- the quantum and the deficit of client k
abbrev pub quantum_of : Ring → ℕ → ℕ
quantum_of r k = (place_of r k).quantum

abbrev pub deficit_of : Ring → ℕ → ℕ
deficit_of r k = (place_of r k).deficit

-- ## Whose turn it is

-- whether a turn stands open
abbrev pub stands_open : Turn → Bool
stands_open (Open c) = true
stands_open (Closed c) = false

-- whose turn it is, or was last
abbrev pub client_of : Turn → ℕ
client_of (Open c) = c
client_of (Closed c) = c

-- the client after c, round the ring
abbrev pub next_of : ℕ → ℕ → ℕ
next_of count c = cond (nat_lt (c + 1) count) (c + 1) 0

-- of n clients from c on, round the ring, the first that has a block
abbrev pub seek : ℕ → (ℕ → Bool) → ℕ → ℕ → Option ℕ
seek count has zero c = None
seek count has (suc n) c = cond (has c) (Some c) (seek count has n (next_of count c))

-- the open turn's client, or else the first after the turn that has a block
abbrev pub turn_in : Meaning → Ring → Option ℕ
turn_in m r = cond (stands_open r.turn) (Some (client_of r.turn)) (seek m.count (waits m) m.count (next_of m.count (client_of r.turn)))

-- ## What a unit leaves of the turn

-- the units of a block, if there is one
abbrev pub length_of : Option Block → ℕ
length_of None = 0
length_of (Some b) = b.length

-- client c's deficit once its front block has begun: a turn that opens in this slot adds the quantum and takes off the block's length
abbrev pub begun_with : Meaning → Ring → ℕ → ℕ
begun_with m r c = cond (stands_open r.turn) (deficit_of r c) (deficit_of r c + quantum_of r c - length_of (front_of (m.client c).waiting))

-- after the last unit of client c's block, by the block behind it: none clears the deficit, one that is longer than the deficit waits, and another begins
abbrev pub next_rest : ℕ → ℕ → Option Block → Rest
next_rest c d None = record { deficit = 0; turn = Closed c }
next_rest c d (Some b) = cond (nat_le b.length d) (record { deficit = d - b.length; turn = Open c }) (record { deficit = d; turn = Closed c })

-- after a unit of the front of client c's row, with the deficit d
abbrev pub rest_of : ℕ → ℕ → List Block → Rest
rest_of c d [] = record { deficit = d; turn = Closed c }
rest_of c d (b ∷ bs) = cond (nat_le b.left 1) (next_rest c d (front_of bs)) (record { deficit = d; turn = Open c })

-- the same, read off what the slot let go and the block that is front then
abbrev pub rest_read : ℕ → ℕ → Served → Option Block → Rest
rest_read c d (Departed x) next = next_rest c d next
rest_read c d (OneUnit k) next = record { deficit = d; turn = Open c }
rest_read c d Nothing next = record { deficit = d; turn = Closed c }

-- the turn is client c's, with this left of it
abbrev pub turn_to : Ring → ℕ → Rest → Ring
turn_to r c x = record {
  total = r.total;
  places = slice_set r.places c (record { quantum = quantum_of r c; deficit = x.deficit });
  turn = x.turn;
}

-- the ring after a slot that served this client; if nobody was served the turn stays
abbrev pub ring_after : Meaning → Ring → Option ℕ → Ring
ring_after m r None = r
ring_after m r (Some c) = turn_to r c (rest_of c (begun_with m r c) (m.client c).waiting)
