use Rattle.std.proofs.Common.{◌≡◌, ◌+◌, ◌≤◌, length}
use Rattle.marks.specs.Marks.{parts}
use Rattle.trace.proofs.whole.body.Given as goal
use Rattle.reader.specs.Parts.{left}
use Rattle.trace.specs.Readings.{open_of}
use Rattle.trace.specs.Traces.{lines_from}

-- the lines that are left give what all lines gave
abbrev pub invariant-loop-line : goal.invariant-loop-line
invariant-loop-line g l =
    record {
      short : l.number + length (left l.reader) ≤ 65538;
      same :
          lines_from g.B.Bookings.desk g.L.LabelKind.reads (open_of l.reading (g.B.Bookings.state l.bookings)) l.number (parts 10 (left l.reader))
          ≡ lines_from g.B.Bookings.desk g.L.LabelKind.reads (open_of l.initial.reading (g.B.Bookings.state l.initial.bookings)) 2 (parts 10 (left l.initial.reader));
    }

abbrev pub decreases-loop-line : goal.decreases-loop-line
decreases-loop-line g l = length (left l.reader)
