-- A serial number's text and code give each other.
use Rattle.std.specs.Prelude.{◌≡◌, ℕ, ◌≤◌, cond, List, length, Some, None, decimal, nat_le}
use Rattle.decimal.proofs.TwoWays.{numeral, number_decimal, decimal_number}
use Rattle.labels.specs.Labels.{serial_reads, serial_writes}
use Rattle.std.proofs.lemmas.Bool.{le-leb}
use Rattle.std.proofs.lemmas.Bool.Decides.{nat_tests}
use Rattle.std.proofs.Common.{sym, ap, ◌∙◌, arith}

-- what is written up to a bound
pub written_up_to : (most code : ℕ) (text was : List ℕ) → cond (nat_le code most) (Some was) None ≡ Some text → (code ≤ most) × (was ≡ text)
written_up_to most code text was e = grind (arith, nat_tests)

pub serial_sized : (text : List ℕ) (code : ℕ) → serial_reads text ≡ Some code → (1 ≤ length text) × (length text ≤ 10)
serial_sized text code e = let n = numeral 4294967295 text code e in (n.some, n.few)

pub serial_returned : (text : List ℕ) (code : ℕ) → serial_reads text ≡ Some code → serial_writes code ≡ Some text
serial_returned text code e =
    ap (λ t. cond t (Some (decimal code)) None) (le-leb code 4294967295 (numeral 4294967295 text code e).bound)
    ∙ ap Some (decimal_number 4294967295 text code (omega arith) e)

pub serial_reread : (code : ℕ) (text : List ℕ) → serial_writes code ≡ Some text → serial_reads text ≡ Some code
serial_reread code text e =
    let w = written_up_to 4294967295 code text (decimal code) e in
    ap serial_reads (sym w.1) ∙ number_decimal 4294967295 code (omega arith) w.0
