use Rattle.marks.specs.Marks.{parts}
use Rattle.trace.proofs.LineByLine.{shorter, same_start, line_taken, line_refused, lines_last, went, failed}
use Rattle.trace.proofs.whole.body.Goals as goal
use Rattle.reader.specs.Parts.{left}
use Rattle.trace.specs.Bookings.{led}
use Rattle.trace.specs.Readings.{open_of}
use Rattle.trace.specs.Traces.{read_of, told_by}
use Rattle.std.proofs.Common.{Err, ap, ◌∙◌, arith}
use Rattle.std.proofs.lemmas.Result.{err_from_is_err_and}

pub loop-line-preserved : goal.loop-line-preserved
loop-line-preserved g c =
    let after = open_of c.line-in-Some.new.self (g.B.Bookings.state c.line-in-Some.new.bookings) in
    let ok = went c.loop-line.number c.line-in-Some.result c.in_ok-at_line.field-0 c.in_ok-at_line.ensures in
    record {
      short = omega (arith, shorter (left c.loop-line.reader) c.in-Some.line.now (left c.line.new.self) c.in-Some.ensures.value c.line.ensures.after);
      same =
          line_taken g.B.Bookings.desk g.L.LabelKind.reads (open_of c.loop-line.reading (g.B.Bookings.state c.loop-line.bookings))
          c.loop-line.number (left c.loop-line.reader) c.in-Some.line.now (left c.line.new.self) c.in-Some.ensures.value c.line.ensures.after
          _ c.loop-line.invariant.same after (ap (λ r. led r after) ok ∙ c.line-in-Some.ensures);
    }

pub returns-in_err-at_line : goal.returns-in_err-at_line
returns-in_err-at_line g c =
    let s = g.B.Bookings.state c.line-in-Some.new.bookings in
    let after = open_of c.line-in-Some.new.self s in
    let told = err_from_is_err_and c.from_residual.result c.from_residual.ensures.1 in
    let of = failed c.loop-line.number c.line-in-Some.result c.in_err-at_line.field-0.0 c.in_err-at_line.ensures in
    ap (λ r. read_of r s) (told.1 ∙ ap Err (told.2 ∙ of.2))
    ∙ line_refused g.B.Bookings.desk g.L.LabelKind.reads (open_of c.loop-line.reading (g.B.Bookings.state c.loop-line.bookings))
    c.loop-line.number (left c.loop-line.reader) c.in-Some.line.now (left c.line.new.self) c.in-Some.ensures.value c.line.ensures.after
    _
    (c.loop-line.invariant.same
    ∙ same_start g.B.Bookings.desk g.L.LabelKind.reads _ _ c.new-reading.ensures (g.B.Bookings.state c.args.bookings.now) 2 (parts 10 (left c.args.reader)))
    of.0 (ap (λ r. led r after) of.1 ∙ c.line-in-Some.ensures)

pub returns : goal.returns
returns g c =
    lines_last g.B.Bookings.desk g.L.LabelKind.reads (open_of c.loop-line.reading (g.B.Bookings.state c.loop-line.bookings))
    c.loop-line.number (left c.loop-line.reader) c.rest.result.now c.in_default.ensures.value (c.rest.ensures ∙ c.line.ensures.after)
    _
    (c.loop-line.invariant.same
    ∙ same_start g.B.Bookings.desk g.L.LabelKind.reads _ _ c.new-reading.ensures (g.B.Bookings.state c.args.bookings.now) 2 (parts 10 (left c.args.reader)))
    (told_by c.finish.result) c.finish.ensures
