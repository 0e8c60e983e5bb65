-- A named server as functions of its state: what its calls answer and leave, wholly. Assumes nothing.
use Rattle.std.specs.Prelude.{ℕ}
use Rattle.server.specs.Calls.{SlotAnswer}

-- the answer of a slot, the state after it, and the state after a submission of client, label and length
pub record Machine (S : Type 0) : Type 0 where
  pub says : S → SlotAnswer
  pub next : S → S
  pub enter : S → ℕ → ℕ → ℕ → S
