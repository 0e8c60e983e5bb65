use Rattle.std.proofs.Common.{◌≡◌, Err, sym, ap, ◌∙◌}
use Rattle.trace.proofs.LineByLine.{no_header, bad_header, good_header, went, failed}
use Rattle.trace.proofs.whole.read.Goals as goal
use Rattle.faults.specs.declared.LineFault.TheVariants.{End}
use Rattle.faults.specs.declared.RunFault.TheVariants.{At}
use Rattle.reader.specs.Parts.{left, next_line, after_line}
use Rattle.trace.specs.Readings.{Open, started}
use Rattle.trace.specs.Traces.{read_of, started_with}
use Rattle.std.proofs.lemmas.Result.{err_from_is_err_and}
use Rattle.std.specs.Option.{ok_or, option_copied}

pub returns-in_err-line : goal.returns-in_err-line
returns-in_err-line g c =
    let s = g.B.Bookings.state c.args.bookings.now in
    let none = c.in_err-line.ensures.ok_part in
    let told = err_from_is_err_and c.from_residual.result c.from_residual.ensures.1 in
    let end = c.in_err-line.ensures.value ∙ ap (λ o. ok_or o (At 1 End)) none in
    let same : c.in_err-line.field-0.0 ≡ At 1 End = cc in
    ap (λ r. read_of r s) (told.1 ∙ ap Err (told.2 ∙ same))
    ∙ no_header g.B.Bookings.desk s c.args.trace.now c.if-trace-gt65536.false
    (ap option_copied (sym none) ∙ c.line.ensures.value ∙ ap next_line c.new-reader.ensures)

pub returns-in_err-header : goal.returns-in_err-header
returns-in_err-header g c =
    let s = g.B.Bookings.state c.set_up.new.bookings in
    let told = err_from_is_err_and c.from_residual-in_err-header.result c.from_residual-in_err-header.ensures.1 in
    let of = failed 1 c.set_up.result c.in_err-header.field-0.0 c.in_err-header.ensures in
    ap (λ r. read_of r s) (told.1 ∙ ap Err (told.2 ∙ of.2))
    ∙ bad_header g.B.Bookings.desk (g.B.Bookings.state c.args.bookings.now) c.args.trace.now c.in_ok-line.line.now (left c.line.new.self) c.if-trace-gt65536.false
    (ap option_copied (sym c.in_ok-line.ensures.ok_part) ∙ c.line.ensures.value ∙ ap next_line c.new-reader.ensures)
    (c.line.ensures.after ∙ ap after_line c.new-reader.ensures)
    of.0 (ap (λ r. started_with r s) of.1 ∙ c.set_up.ensures)

pub returns : goal.returns
returns g c =
    let s = g.B.Bookings.state c.set_up.new.bookings in
    let o : Open g.B.Bookings.State = record { seen = started c.in_ok-header.header; booked = s } in
    let ok = went 1 c.set_up.result c.in_ok-header.header c.in_ok-header.ensures in
    good_header g.B.Bookings.desk (g.B.Bookings.state c.args.bookings.now) c.args.trace.now c.in_ok-line.line.now (left c.line.new.self) c.if-trace-gt65536.false
    (ap option_copied (sym c.in_ok-line.ensures.ok_part) ∙ c.line.ensures.value ∙ ap next_line c.new-reader.ensures)
    (c.line.ensures.after ∙ ap after_line c.new-reader.ensures)
    o (ap (λ r. started_with r s) ok ∙ c.set_up.ensures)
    (read_of c.body_by_kind.result (g.B.Bookings.state c.body_by_kind.new.bookings)) c.body_by_kind.ensures
