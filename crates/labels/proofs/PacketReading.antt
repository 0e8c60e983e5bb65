-- A text without a full stop is no packet identity.
use Rattle.std.proofs.Common.{◌≡◌, ℕ, ◌+◌, ◌≤◌, List, length, Some, None, Option, sym, refl, ap, ◌∙◌, arith}
use Rattle.std.proofs.lemmas.List.{drop_all}
use Rattle.decimal.specs.Numbers.{number_of}
use Rattle.decimal.proofs.TwoWays.{numeral}
use Rattle.labels.specs.Labels.{packet_code, packet_reads}
use Rattle.marks.specs.Marks.{span_to, before, behind}

no_count : (x : Option ℕ) → packet_code x None ≡ None
no_count None = refl
no_count (Some a) = refl

empty_none : (ds : List ℕ) (n : Option ℕ) → length ds ≡ 0 → number_of 16383 ds ≡ n → n ≡ None
empty_none ds None z e = refl
empty_none ds (Some n) z e = absurd (omega (arith, (numeral 16383 ds n e).some))

pub no_stop : (text : List ℕ) → length text ≤ span_to 46 text → None ≡ packet_reads text
no_stop text h =
    let z = empty_none (behind 46 text) (number_of 16383 (behind 46 text)) (ap length (drop_all (span_to 46 text + 1) text (omega arith))) refl in
    sym (ap (packet_code (number_of 2047 (before 46 text))) z ∙ no_count (number_of 2047 (before 46 text)))
