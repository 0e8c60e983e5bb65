use Rattle.std.proofs.Common.{arith}
use Rattle.std.proofs.lemmas.Grind.{common_steps}
use Rattle.std.proofs.lemmas.List.Sums.{prefix_len-le-length}
use Rattle.marks.proofs.span.Goals as goal

pub returns : goal.returns
returns c = grind (arith, common_steps, prefix_len-le-length)
