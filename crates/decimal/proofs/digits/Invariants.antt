use Rattle.std.proofs.Common.{◌≡◌, ◌+◌, ◌^◌, ◌<◌, ◌∷◌, drop}
use Rattle.decimal.proofs.digits.Given as goal
use Rattle.decimal.specs.Numbers.{digits_on}

abbrev pub invariant-loop-digit : goal.invariant-loop-digit
invariant-loop-digit l =
    (l.value < 10 ^ (l.digit-index + 1)) × (digits_on l.value (drop l.digit-index l.rest) ≡ digits_on 0 (l.fn.first ∷ l.rest))
