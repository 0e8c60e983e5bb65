-- A part that the code cuts off at a mark, and what it leaves, are those before and behind the mark.
use Rattle.std.proofs.Common.{◌≡◌, ℕ, ◌+◌, ◌-◌, ◌<◌, ◌≤◌, true, false, cond, ltb, List, length, take, drop, Some, None, sym, ap, ◌∙◌, arith, length-drop}
use Rattle.marks.specs.Marks.{span_to, before, behind}
use Rattle.std.proofs.lemmas.List.{take_all, drop_all, drop-drop}
use Rattle.std.proofs.lemmas.Bool.{lt-ltb, le-ltb}
use Rattle.reader.specs.Parts.{next_line, after_line}

-- what is left ends where all the bytes end
pub left_length : (all bytes : List ℕ) (place : ℕ) → bytes ≡ drop place all → place ≤ length all → place + length bytes ≡ length all
left_length all bytes place e h = omega (arith, ap length e, length-drop place all)

-- `bytes` is what is left from `place` on, and `span` how far the first mark is
module _ (mark : ℕ) (all bytes : List ℕ) (place span : ℕ) (is-left : bytes ≡ drop place all) (is-span : span ≡ span_to mark bytes) where
  same_span : span ≡ span_to mark (drop place all)
  same_span = is-span ∙ ap (span_to mark) is-left

  pub cut : take (span - 0) bytes ≡ before mark (drop place all)
  cut =
      let z : span - 0 ≡ span_to mark (drop place all) = omega (arith, same_span) in
      ap (λ k. take k bytes) z ∙ ap (take (span_to mark (drop place all))) is-left

  pub left_behind : drop (place + (span + 1)) all ≡ behind mark (drop place all)
  left_behind = sym (drop-drop (span + 1) place all) ∙ ap (λ k. drop (k + 1) (drop place all)) same_span

  pub no_mark_before : length bytes ≤ span → bytes ≡ before mark (drop place all)
  no_mark_before h = sym (take_all span bytes h) ∙ ap (λ k. take k bytes) same_span ∙ ap (take (span_to mark (drop place all))) is-left

  pub no_mark_behind : length bytes ≤ span → drop (place + length bytes) all ≡ behind mark (drop place all)
  no_mark_behind h =
      sym (drop-drop (length bytes) place all) ∙ drop_all (length bytes) (drop place all) (omega (arith, ap length is-left))
      ∙ sym (drop_all (span_to mark (drop place all) + 1) (drop place all) (omega (arith, h, same_span, ap length is-left)))

module _ (all bytes : List ℕ) (place span : ℕ) (is-left : bytes ≡ drop place all) (is-span : span ≡ span_to 10 bytes) where
  ended : span < length bytes → ltb (span_to 10 (drop place all)) (length (drop place all)) ≡ true
  ended h =
      lt-ltb (span_to 10 (drop place all)) (length (drop place all)) (omega (arith, h, same_span 10 all bytes place span is-left is-span, ap length is-left))

  unended : length bytes ≤ span → ltb (span_to 10 (drop place all)) (length (drop place all)) ≡ false
  unended h =
      le-ltb (span_to 10 (drop place all)) (length (drop place all)) (omega (arith, h, same_span 10 all bytes place span is-left is-span, ap length is-left))

  pub line_cut : span < length bytes → Some (take (span - 0) bytes) ≡ next_line (drop place all)
  line_cut h =
      ap Some (cut 10 all bytes place span is-left is-span)
      ∙ sym (ap (λ t. cond t (Some (before 10 (drop place all))) None) (ended h))

  pub line_behind : span < length bytes → drop (place + (span + 1)) all ≡ after_line (drop place all)
  line_behind h =
      left_behind 10 all bytes place span is-left is-span ∙ sym (ap (λ t. cond t (behind 10 (drop place all)) (drop place all)) (ended h))

  pub no_line : length bytes ≤ span → None ≡ next_line (drop place all)
  no_line h = sym (ap (λ t. cond t (Some (before 10 (drop place all))) None) (unended h))

  pub no_line_behind : length bytes ≤ span → drop place all ≡ after_line (drop place all)
  no_line_behind h = sym (ap (λ t. cond t (behind 10 (drop place all)) (drop place all)) (unended h))
