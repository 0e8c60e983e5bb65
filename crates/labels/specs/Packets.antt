-- A packet identity's text and code give each other.
use Rattle.std.specs.Prelude.{◌≡◌, ℕ, ◌+◌, ◌*◌, ◌/◌, ◌%◌, ◌^◌, ◌<◌, ◌≤◌, true, false, not, cond, List, [], ◌∷◌, ◌++◌, length, take, drop, Some, None, decimal, Option, ◌==◌, refl}
use Rattle.decimal.proofs.TwoWays.{own, Numeral, numeral, number_decimal, decimal_number}
use Rattle.decimal.specs.Numbers.{number_of}
use Rattle.labels.specs.Serials.{written_up_to}
use Rattle.labels.specs.Labels.{packet_code, packet_reads, packet_text, packet_writes}
use Rattle.marks.proofs.Parted.{whole}
use Rattle.marks.specs.Marks.{span_to, before, behind}
use Rattle.std.proofs.lemmas.Nat.{div-mul-add, mod-mul-add, div-add-mod'}
use Rattle.std.proofs.lemmas.Fmt.{digits_decimal, length-decimal-le}
use Rattle.std.proofs.lemmas.Bool.{le-leb}
use Rattle.std.proofs.lemmas.Bool.Decides.{nat_tests}
use Rattle.std.specs.Str.{all_ascii_digits}
use Rattle.std.proofs.Common.{length-append, length-drop, take_at, sym, ap, ◌∙◌, arith}
use Rattle.std.proofs.Math.Seq.{drop-append-add}

-- the two numbers of a code
record Pair (x y : Option ℕ) (code : ℕ) : Type 0 where
  apid : ℕ
  count : ℕ
  left : x ≡ Some apid
  right : y ≡ Some count
  both : code ≡ apid * 16384 + count

pair : (x y : Option ℕ) (code : ℕ) → packet_code x y ≡ Some code → Pair x y code
pair None y code e = absurd (let z : ◌≡◌ {A = ℕ} 0 1 = cc in omega arith)
pair (Some a) None code e = absurd (let z : ◌≡◌ {A = ℕ} 0 1 = cc in omega arith)
pair (Some a) (Some b) code e = record { apid = a; count = b; left = refl; right = refl; both = cc }

-- digits hold no full stop
digits_more : (d : ℕ) (ds : List ℕ) → all_ascii_digits (d ∷ ds) ≡ true → ((d == 46) ≡ false) × (all_ascii_digits ds ≡ true)
digits_more d ds e = (grind (arith, nat_tests), grind (arith, nat_tests))

span_digits : (ds rest : List ℕ) → all_ascii_digits ds ≡ true → span_to 46 (ds ++ 46 ∷ rest) ≡ length ds
span_digits [] rest e = refl
span_digits (d ∷ ds) rest e =
    let p = digits_more d ds e in
    omega (arith, ap (λ t. cond (not t) (1 + span_to 46 (ds ++ 46 ∷ rest)) 0) p.0, span_digits ds rest p.1)

-- the text of a code, cut at its full stop
module _ (code : ℕ) (small : code ≤ 33554431) where
  stop : span_to 46 (packet_text code) ≡ length (decimal (code / 16384))
  stop = span_digits (decimal (code / 16384)) (decimal (code % 16384)) (digits_decimal own (code / 16384) (omega arith))

  before-stop : before 46 (packet_text code) ≡ decimal (code / 16384)
  before-stop =
      ap (λ k. take k (packet_text code)) stop
      ∙ take_at (decimal (code / 16384)) (46 ∷ decimal (code % 16384)) (length (decimal (code / 16384))) refl

  behind-stop : behind 46 (packet_text code) ≡ decimal (code % 16384)
  behind-stop = ap (λ k. drop (k + 1) (packet_text code)) stop ∙ drop-append-add (decimal (code / 16384)) (46 ∷ decimal (code % 16384)) 1

  pub packet_length : (length (decimal (code / 16384)) ≤ 4) × (length (decimal (code % 16384)) ≤ 5)
  packet_length =
      let a : code / 16384 < 10 ^ 4 = omega arith in
      let b : code % 16384 < 10 ^ 5 = omega arith in
      (length-decimal-le 4 (code / 16384) (omega arith) a (omega arith), length-decimal-le 5 (code % 16384) (omega arith) b (omega arith))

pub packet_reread : (code : ℕ) (text : List ℕ) → packet_writes code ≡ Some text → packet_reads text ≡ Some code
packet_reread code text e =
    let w = written_up_to 33554431 code text (packet_text code) e in
    ap packet_reads (sym w.1)
    ∙ ap (λ ds. packet_code (number_of 2047 ds) (number_of 16383 (behind 46 (packet_text code)))) (before-stop code w.0)
    ∙ ap (λ ds. packet_code (number_of 2047 (decimal (code / 16384))) (number_of 16383 ds)) (behind-stop code w.0)
    ∙ ap (λ n. packet_code n (number_of 16383 (decimal (code % 16384)))) (number_decimal 2047 (code / 16384) (omega arith) (omega (arith, w.0)))
    ∙ ap (λ n. packet_code (Some (code / 16384)) n) (number_decimal 16383 (code % 16384) (omega arith) (omega arith))
    ∙ ap Some (div-add-mod' code 16384)

-- what is known of a text that was read
module _ (text : List ℕ) (code : ℕ) (e : packet_reads text ≡ Some code) where
  read-pair : Pair (number_of 2047 (before 46 text)) (number_of 16383 (behind 46 text)) code
  read-pair = pair (number_of 2047 (before 46 text)) (number_of 16383 (behind 46 text)) code e

  apid-known : Numeral 2047 (before 46 text) read-pair.apid
  apid-known = numeral 2047 (before 46 text) read-pair.apid read-pair.left

  count-known : Numeral 16383 (behind 46 text) read-pair.count
  count-known = numeral 16383 (behind 46 text) read-pair.count read-pair.right

  has-stop : span_to 46 text < length text
  has-stop = omega (arith, count-known.some, length-drop (span_to 46 text + 1) text)

  quotient : code / 16384 ≡ read-pair.apid
  quotient =
      ap (λ n. n / 16384) read-pair.both ∙ div-mul-add read-pair.apid 16384 read-pair.count (omega (arith, count-known.bound))

  remainder : code % 16384 ≡ read-pair.count
  remainder =
      ap (λ n. n % 16384) read-pair.both ∙ mod-mul-add read-pair.apid 16384 read-pair.count (omega (arith, count-known.bound))

  code-small : code ≤ 33554431
  code-small = omega (arith, read-pair.both, apid-known.bound, count-known.bound)

  text-again : packet_text code ≡ text
  text-again =
      ap (λ n. decimal n ++ 46 ∷ decimal (code % 16384)) quotient
      ∙ ap (λ n. decimal read-pair.apid ++ 46 ∷ decimal n) remainder
      ∙ ap (λ ds. ds ++ 46 ∷ decimal read-pair.count) (decimal_number 2047 (before 46 text) read-pair.apid (omega arith) read-pair.left)
      ∙ ap (λ ds. before 46 text ++ 46 ∷ ds) (decimal_number 16383 (behind 46 text) read-pair.count (omega arith) read-pair.right)
      ∙ sym (whole 46 text has-stop)

  pub packet_sized : (1 ≤ length text) × (length text ≤ 10)
  packet_sized =
      let l = packet_length code code-small in (
        omega (arith, has-stop),
        omega (arith, ap length text-again, length-append (decimal (code / 16384)) (46 ∷ decimal (code % 16384)), l.0, l.1),
      )

  pub packet_returned : packet_writes code ≡ Some text
  packet_returned = ap (λ t. cond t (Some (packet_text code)) None) (le-leb code 33554431 code-small) ∙ ap Some text-again
