-- One turn of the reading: a line that is there is taken off the parts, and without one the last part is left.
use Rattle.std.proofs.Common.{◌≡◌, ℕ, suc, ◌+◌, ◌<◌, ◌≤◌, cond, ltb, List, [], ◌∷◌, length, Some, None, Ok, Err, Option, Result, sym, refl, ap, ◌∙◌, arith, length-drop}
use Rattle.marks.proofs.Parted.{parts_some, parts_all, parts_more}
use Rattle.marks.specs.Marks.{span_to, before, behind, parts}
use Rattle.std.proofs.lemmas.Bool.{lt-ltb, le-ltb, le-leb}
use Rattle.std.proofs.lemmas.Bool.Decides.{nat_tests}
use Rattle.trace.specs.Bookings.{Desk}
use Rattle.lines.specs.Lines.{and_then}
use Rattle.reader.specs.Parts.{next_line, after_line}
use Rattle.trace.specs.Readings.{Told, Seen, Open, line_at, header_line}
use Rattle.trace.specs.Traces.{Read, with_booked, at_line, finished, lines_from, lines_of, trace_of}
use Rattle.faults.specs.declared.LineFault.TheVariants.{End}
use Rattle.faults.specs.declared.LineFault.{LineFault}
use Rattle.faults.specs.declared.RunFault.TheVariants.{Size, At}
use Rattle.faults.specs.declared.RunFault.{RunFault}
use Rattle.labels.specs.Kinds.{reads_as}

some_below : (n k : ℕ) (line x : List ℕ) → Some line ≡ cond (ltb n k) (Some x) None → (n < k) × (line ≡ x)
some_below n k line x e = (grind (arith, nat_tests), grind (arith, nat_tests))

none_above : (n k : ℕ) (x : List ℕ) → None ≡ cond (ltb n k) (Some x) None → k ≤ n
none_above n k x e = grind (arith, nat_tests)

-- no line is left
pub last_part : (bytes : List ℕ) → None ≡ next_line bytes → parts 10 bytes ≡ bytes ∷ []
last_part bytes e = parts_all 10 bytes (none_above (span_to 10 bytes) (length bytes) (before 10 bytes) e)

pub nothing_after : (bytes : List ℕ) → None ≡ next_line bytes → after_line bytes ≡ bytes
nothing_after bytes e =
    ap (λ t. cond t (behind 10 bytes) bytes) (le-ltb (span_to 10 bytes) (length bytes) (none_above (span_to 10 bytes) (length bytes) (before 10 bytes) e))

-- a line is left, and what follows it
module _ (bytes line rest : List ℕ) (is-line : Some line ≡ next_line bytes) (is-rest : rest ≡ after_line bytes) where
  ended : span_to 10 bytes < length bytes
  ended = (some_below (span_to 10 bytes) (length bytes) line (before 10 bytes) is-line).0

  rest-is : rest ≡ behind 10 bytes
  rest-is = is-rest ∙ ap (λ t. cond t (behind 10 bytes) bytes) (lt-ltb (span_to 10 bytes) (length bytes) ended)

  pub shorter : suc (length rest) ≤ length bytes
  shorter = omega (arith, ap length rest-is, length-drop (span_to 10 bytes + 1) bytes, ended)

  pub first_part : parts 10 bytes ≡ line ∷ parts 10 rest
  first_part =
      parts_more 10 bytes ended
      ∙ ap (λ x. x ∷ parts 10 (behind 10 bytes)) (sym (some_below (span_to 10 bytes) (length bytes) line (before 10 bytes) is-line).1)
      ∙ ap (λ x. line ∷ parts 10 x) (sym rest-is)

-- what a line's answer was, where it was told with its number
module _ {A : Type 0} (n : ℕ) where
  pub went : (r : Result A LineFault) (x : A) → Ok x ≡ at_line n r → Ok x ≡ r
  went (Ok y) x e = let same : x ≡ y = cc in ap Ok same
  went (Err fault) x e = absurd cc

  pub failed : (r : Result A LineFault) (told : RunFault) → Err told ≡ at_line n r → (fault : LineFault) × (Err fault ≡ r) × (told ≡ At n fault)
  failed (Ok y) told e = absurd cc
  failed (Err fault) told e = (fault, refl, cc)

-- what a line's answer makes of the lines that follow
module _ {A B : Type 0} (n : ℕ) (r : Result A LineFault) (next : A → Result B RunFault) where
  pub goes_on : (x : A) → Ok x ≡ r → and_then (at_line n r) next ≡ next x
  goes_on x e = ap (λ r. and_then (at_line n r) next) (sym e)

  pub stops : (fault : LineFault) → Err fault ≡ r → and_then (at_line n r) next ≡ Err (At n fault)
  stops fault e = ap (λ r. and_then (at_line n r) next) (sym e)

module _ {S : Type 0} (desk : Desk S) where
  lines_cons : (reads : List ℕ → Option ℕ) (o : Open S) (n : ℕ) (line : List ℕ) (ps : List (List ℕ)) → 0 < length ps
      → lines_from desk reads o n (line ∷ ps) ≡ and_then (at_line n (line_at desk o o.seen.place reads line)) (λ o. lines_from desk reads o (n + 1) ps)
  lines_cons reads o n line [] h = absurd (omega arith)
  lines_cons reads o n line (p ∷ ps) h = refl

  first-cons : (s : S) (line : List ℕ) (ps : List (List ℕ)) → 0 < length ps
      → lines_of desk s (line ∷ ps) ≡ and_then (at_line 1 (header_line desk s line)) (λ o. lines_from desk (reads_as o.seen.header.kind) o 2 ps)
  first-cons s line [] h = absurd (omega arith)
  first-cons s line (p ∷ ps) h = refl

  -- the header's line, and then the lines behind it
  pub lines_first : (s : S) (bytes line rest : List ℕ) → Some line ≡ next_line bytes → rest ≡ after_line bytes
      → lines_of desk s (parts 10 bytes)
      ≡ and_then (at_line 1 (header_line desk s line)) (λ o. lines_from desk (reads_as o.seen.header.kind) o 2 (parts 10 rest))
  lines_first s bytes line rest is-line is-rest =
      ap (lines_of desk s) (first_part bytes line rest is-line is-rest) ∙ first-cons s line (parts 10 rest) (parts_some 10 rest)

  pub same_start : (reads : List ℕ → Option ℕ) (a b : Seen) → a ≡ b → (s : S) (n : ℕ) (ps : List (List ℕ))
      → lines_from desk reads (record { seen = a; booked = s }) n ps ≡ lines_from desk reads (record { seen = b; booked = s }) n ps
  same_start reads a b e s n ps = ap (λ seen. lines_from desk reads (record { seen = seen; booked = s }) n ps) e

  -- the lines from one on, where a line is left
  module _
      (reads : List ℕ → Option ℕ) (o : Open S) (n : ℕ) (bytes line rest : List ℕ) (is-line : Some line ≡ next_line bytes) (is-rest : rest ≡ after_line bytes)
      (all : Result (Read S) RunFault) (so_far : lines_from desk reads o n (parts 10 bytes) ≡ all) where
    lines_more : and_then (at_line n (line_at desk o o.seen.place reads line)) (λ o. lines_from desk reads o (n + 1) (parts 10 rest)) ≡ all
    lines_more =
        sym (ap (lines_from desk reads o n) (first_part bytes line rest is-line is-rest) ∙ lines_cons reads o n line (parts 10 rest) (parts_some 10 rest))
        ∙ so_far

    pub line_taken : (after : Open S) → Ok after ≡ line_at desk o o.seen.place reads line → lines_from desk reads after (n + 1) (parts 10 rest) ≡ all
    line_taken after e =
        sym (goes_on n (line_at desk o o.seen.place reads line) (λ o. lines_from desk reads o (n + 1) (parts 10 rest)) after e) ∙ lines_more

    pub line_refused : (fault : LineFault) → Err fault ≡ line_at desk o o.seen.place reads line → Err (At n fault) ≡ all
    line_refused fault e =
        sym (stops n (line_at desk o o.seen.place reads line) (λ o. lines_from desk reads o (n + 1) (parts 10 rest)) fault e) ∙ lines_more

  -- the lines from one on, where no line is left
  pub lines_last : (reads : List ℕ → Option ℕ) (o : Open S) (n : ℕ) (bytes rest : List ℕ) → None ≡ next_line bytes → rest ≡ after_line bytes
      → (all : Result (Read S) RunFault) → lines_from desk reads o n (parts 10 bytes) ≡ all
      → (r : Result Told RunFault) → r ≡ finished o.seen n rest → with_booked o.booked r ≡ all
  lines_last reads o n bytes rest e is-rest all so_far r is-r =
      ap (with_booked o.booked) (is-r ∙ ap (finished o.seen n) (is-rest ∙ nothing_after bytes e))
      ∙ sym (ap (lines_from desk reads o n) (last_part bytes e)) ∙ so_far

  -- a trace that is not too long is read line by line
  pub short_trace : (s : S) (bytes : List ℕ) → length bytes ≤ 65536 → trace_of desk s bytes ≡ lines_of desk s (parts 10 bytes)
  short_trace s bytes h = ap (λ t. cond t (lines_of desk s (parts 10 bytes)) (Err Size)) (le-leb (length bytes) 65536 h)

  -- a trace without a line lacks its first
  pub no_header : (s : S) (bytes : List ℕ) → length bytes ≤ 65536 → None ≡ next_line bytes → Err (At 1 End) ≡ trace_of desk s bytes
  no_header s bytes h e = sym (short_trace s bytes h ∙ ap (lines_of desk s) (last_part bytes e))

  -- the header's fault is that of line 1, and behind a header the lines are read by its kind
  module _ (s : S) (bytes line rest : List ℕ) (short : length bytes ≤ 65536) (is-line : Some line ≡ next_line bytes) (is-rest : rest ≡ after_line bytes) where
    pub bad_header : (fault : LineFault) → Err fault ≡ header_line desk s line → Err (At 1 fault) ≡ trace_of desk s bytes
    bad_header fault e =
        sym
        (short_trace s bytes short ∙ lines_first s bytes line rest is-line is-rest
        ∙ stops 1 (header_line desk s line) (λ o. lines_from desk (reads_as o.seen.header.kind) o 2 (parts 10 rest)) fault e)

    pub good_header : (o : Open S) → Ok o ≡ header_line desk s line → (r : Result (Read S) RunFault)
        → r ≡ lines_from desk (reads_as o.seen.header.kind) o 2 (parts 10 rest) → r ≡ trace_of desk s bytes
    good_header o e r is-r =
        is-r
        ∙ sym
        (short_trace s bytes short ∙ lines_first s bytes line rest is-line is-rest
        ∙ goes_on 1 (header_line desk s line) (λ o. lines_from desk (reads_as o.seen.header.kind) o 2 (parts 10 rest)) o e)
