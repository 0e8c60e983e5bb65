-- The calls that a run makes of its server. Assumes nothing.
use Rattle.std.specs.Prelude.{ℕ, zero, suc, ◌-◌, max, List, [], ◌∷◌, ◌++◌}
use Rattle.lines.specs.declared.records.Request.{Request}
use Rattle.book.specs.declared.calls.Call.{Call}
use Rattle.book.specs.declared.calls.Call.TheVariants.{Submit, Slot}
use Rattle.book.specs.declared.calls.Order.{Order}

-- the block that a request asks to submit
abbrev pub order_of : Request → Order
order_of r = record { client = r.client; label = r.label; length = r.length }

-- n slots
abbrev pub slots : ℕ → List Call
slots zero = []
slots (suc n) = Slot ∷ slots n

-- from slot t on: for each request slots up to its slot, then its submission; at last slots up to the end
abbrev pub calls_from : ℕ → List Request → ℕ → List Call
calls_from t [] end = slots (end - t)
calls_from t (r ∷ rs) end = slots (r.slot - t) ++ (Submit (order_of r) ∷ calls_from (max t r.slot) rs end)
