-- Which source a client number names. Assumes nothing.
use Rattle.std.specs.Prelude.{ℕ, cond, ◌==◌}
use Rattle.ledger.specs.declared.sources.Source.{Source}
use Rattle.ledger.specs.declared.sources.Source.TheVariants.{Telemetry, Science, Stranger}

-- the source that is booked as this client; a stranger from 2 on
abbrev pub source_of : ℕ → Source
source_of n = cond (n == 0) Telemetry (cond (n == 1) Science Stranger)
