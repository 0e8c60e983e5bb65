-- A quotient rounded up, as `div_ceil` answers it and as the rules write it.
use Rattle.std.proofs.Common.{◌≡◌, ℕ, ◌+◌, ◌-◌, ◌/◌, ◌%◌, ◌<◌, min, sym, arith}
use Rattle.std.proofs.Math.Nat.{div-eq_of_lt-le}
use Rattle.std.proofs.lemmas.Grind.{div_ceil_times}

pub rounded_up : (n d : ℕ) → 0 < d → n / d + min 1 (n % d) ≡ (n + (d - 1)) / d
rounded_up n d some =
    let times = div_ceil_times n d some in
    sym (div-eq_of_lt-le d {m = n + (d - 1)} (omega (arith, times.1)) (omega (arith, times.0)))
