use Rattle.labels.proofs.PacketLabelKind.read.Goals as goal
use Rattle.labels.proofs.PacketReading.{no_stop}
use Rattle.std.proofs.Common.{◌∙◌}

pub returns-in_err-apid : goal.returns-in_err-apid
returns-in_err-apid c = c.from_residual.ensures ∙ no_stop c.args.text.now c.in_err-apid.ensures
