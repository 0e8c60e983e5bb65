-- What a whole trace tells, line by line, or the fault of its first wrong line.
use Rattle.std.specs.Prelude.{ℕ, ◌+◌, cond, List, [], ◌∷◌, length, Ok, Err, Option, Result, ◌==◌, nat_le}
use Rattle.labels.specs.Kinds.{reads_as}
use Rattle.marks.specs.Marks.{parts}
use Rattle.trace.specs.Bookings.{Desk}
use Rattle.lines.specs.Lines.{and_then}
use Rattle.trace.specs.Readings.{Told, Seen, Open, told_of, started, ended, header_line, line_at}
use Rattle.faults.specs.declared.LineFault.TheVariants.{End}
use Rattle.faults.specs.declared.LineFault.{LineFault}
use Rattle.faults.specs.declared.RunFault.TheVariants.{Size, At}
use Rattle.faults.specs.declared.RunFault.{RunFault}
use Rattle.trace.specs.declared.reading.Place.TheVariants.{Frame, First, Clients, Requests, Done}
use Rattle.trace.specs.declared.reading.Place.{Place}
use Rattle.trace.specs.declared.reading.Trace.{Trace}
use Rattle.lines.specs.declared.records.Header.{Header}

-- what a whole trace tells, and what is booked for it
pub record Read (S : Type 0) : Type 0 where
  pub told : Told
  pub booked : S

-- what a whole trace tells, with what is booked
abbrev pub with_booked : {S : Type 0} → S → Result Told RunFault → Result (Read S) RunFault
with_booked s (Ok told) = Ok (record { told = told; booked = s })
with_booked s (Err fault) = Err fault

-- what a trace that was read tells
abbrev pub told_by : Result Trace RunFault → Result Told RunFault
told_by (Ok trace) = Ok (told_of trace)
told_by (Err fault) = Err fault

-- a trace that was read, with what is booked
abbrev pub read_of : {S : Type 0} → Result Trace RunFault → S → Result (Read S) RunFault
read_of r s = with_booked s (told_by r)

-- a header that was read, with what is booked
abbrev pub started_with : {S : Type 0} → Result Header LineFault → S → Result (Open S) LineFault
started_with (Ok header) s = Ok (record { seen = started header; booked = s })
started_with (Err fault) s = Err fault

-- a line's fault is the trace's, whole and with the line's number
abbrev pub at_line : {A : Type 0} → ℕ → Result A LineFault → Result A RunFault
at_line n (Ok x) = Ok x
at_line n (Err fault) = Err (At n fault)

-- behind the line of its end, with no byte left, a trace is whole; line n is missing else
abbrev pub finished_at : Place → Seen → ℕ → List ℕ → Result Told RunFault
finished_at Frame seen n rest = Err (At n End)
finished_at First seen n rest = Err (At n End)
finished_at Clients seen n rest = Err (At n End)
finished_at Requests seen n rest = Err (At n End)
finished_at (Done end) seen n rest = cond (length rest == 0) (Ok (ended seen end)) (Err (At n End))

abbrev pub finished : Seen → ℕ → List ℕ → Result Told RunFault
finished seen = finished_at seen.place seen

-- the lines from line n on: each part but the last is a line, and the last is what no byte 10 ends
abbrev pub lines_from : {S : Type 0} → Desk S → (List ℕ → Option ℕ) → Open S → ℕ → List (List ℕ) → Result (Read S) RunFault
lines_from desk reads o n [] = Err (At n End)
lines_from desk reads o n (rest ∷ []) = with_booked o.booked (finished o.seen n rest)
lines_from desk reads o n (line ∷ next ∷ more) =
    and_then (at_line n (line_at desk o o.seen.place reads line)) (λ o. lines_from desk reads o (n + 1) (next ∷ more))

-- the first line is the header, whose kind reads the labels of the others
abbrev pub lines_of : {S : Type 0} → Desk S → S → List (List ℕ) → Result (Read S) RunFault
lines_of desk s [] = Err (At 1 End)
lines_of desk s (rest ∷ []) = Err (At 1 End)
lines_of desk s (line ∷ next ∷ more) =
    and_then (at_line 1 (header_line desk s line)) (λ o. lines_from desk (reads_as o.seen.header.kind) o 2 (next ∷ more))

-- a trace has at most 65,536 bytes and is read line by line
abbrev pub trace_of : {S : Type 0} → Desk S → S → List ℕ → Result (Read S) RunFault
trace_of desk s bytes = cond (nat_le (length bytes) 65536) (lines_of desk s (parts 10 bytes)) (Err Size)
