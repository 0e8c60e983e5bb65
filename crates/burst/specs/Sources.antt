-- Which source a client number names. Assumes nothing.
use Rattle.std.specs.Prelude.{ℕ, cond, ◌==◌}
use Rattle.burst.specs.declared.sources.Source.{Source}
use Rattle.burst.specs.declared.sources.Source.TheVariants.{Housekeeping, Ranging, Payload, Stranger}

-- the source that is booked as this client; a stranger from 3 on
abbrev pub source_of : ℕ → Source
source_of n = cond (n == 0) Housekeeping (cond (n == 1) Ranging (cond (n == 2) Payload Stranger))
