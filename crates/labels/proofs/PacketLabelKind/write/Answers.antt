use Rattle.decimal.specs.Texts.{text_of}
use Rattle.labels.proofs.PacketLabelKind.write.Goals as goal
use Rattle.labels.proofs.PacketWriting.{stop_fits, count_fits, packet_written}
use Rattle.std.proofs.lemmas.Bool.{both_ways}
use Rattle.std.proofs.Common.{sym}

pub returns-in_err-push : goal.returns-in_err-push
returns-in_err-push c =
    absurd
    (both_ways _ (sym c.in_err-push.ensures.answer)
    (stop_fits c.args.code c.if-code-gt33554431.false (text_of c.write-text.result) c.write-text.ensures))

pub returns-in_err-append : goal.returns-in_err-append
returns-in_err-append c =
    absurd
    (both_ways _ (sym c.in_err-append.ensures.answer)
    (count_fits c.args.code c.if-code-gt33554431.false (text_of c.write-text.result) c.write-text.ensures
    (text_of c.push.new.self) c.push.ensures.after (text_of c.write.result) c.write.ensures))

pub returns : goal.returns
returns c =
    packet_written c.args.code c.if-code-gt33554431.false (text_of c.write-text.result) c.write-text.ensures
    (text_of c.push.new.self) c.push.ensures.after (text_of c.write.result) c.write.ensures
    (text_of c.append.new.self) c.append.ensures.after
