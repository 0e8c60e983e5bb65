-- The numbers of the causes for which two servers do not fit. Assumes nothing.
use Rattle.std.specs.Prelude.{ℕ}
use Rattle.join.specs.declared.fit.Misfit.{Misfit}
use Rattle.join.specs.declared.fit.Misfit.TheVariants.{Differ, Used, Late}

-- the number by which each cause is known
abbrev pub number_of : Misfit → ℕ
number_of Differ = 10
number_of Used = 11
number_of Late = 12
