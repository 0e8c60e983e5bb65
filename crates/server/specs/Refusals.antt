-- The numbers of a server's refusals. Assumes nothing.
use Rattle.std.specs.Prelude.{ℕ}
use Rattle.server.specs.declared.refusal.Refusal.{Refusal}
use Rattle.server.specs.declared.refusal.Refusal.TheVariants.{NoClient, BadLength, Full, Ended}

-- the number by which each cause is known
abbrev pub number_of : Refusal → ℕ
number_of NoClient = 1
number_of BadLength = 2
number_of Full = 3
number_of Ended = 4
