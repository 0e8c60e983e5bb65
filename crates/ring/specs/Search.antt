-- Who has had a turn before whom, when the next turn is sought round the ring. Assumes nothing.
use Rattle.std.specs.Prelude.{ℕ, ◌+◌, ◌-◌, ◌<◌, Bool, cond, nat_le, nat_lt}
use Rattle.server.specs.Meaning.{Meaning}
use Rattle.ring.specs.declared.turns.Ring.{Ring}
use Rattle.ring.specs.Turns.{client_of}
use Rattle.ring.specs.Paced.{Paced}

-- how many clients the search passes before it comes to j, from the one after t on
abbrev pub ahead : (count t j : ℕ) → ℕ
ahead count t j = cond (nat_lt t j) (j - t - 1) (j + count - t - 1)

-- j comes no sooner than c
abbrev pub gone_round : (count t c j : ℕ) → Bool
gone_round count t c j = nat_le (ahead count t c) (ahead count t j)

-- a ring whose turns go round
pub record Sound (m : Meaning) (r : Ring) : Type 0 where
  pub within : 0 < m.count → client_of r.turn < m.count
  pub paced : Paced m r (gone_round m.count (client_of r.turn))
