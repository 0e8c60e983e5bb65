use Rattle.lines.proofs.EachOwner.{stored}
use Rattle.lines.proofs.owners.owners.Given as goal
use Rattle.lines.specs.Frames.{owners_of}
use Rattle.std.proofs.Common.{◌≡◌, ◌≤◌, length, drop}
use Rattle.tables.specs.Tables.{listed}

abbrev pub invariant-loop-letter : goal.invariant-loop-letter
invariant-loop-letter l =
    record {
      count : length (listed l.owners) ≡ l.letter-index;
      few : l.letter-index ≤ 256;
      so_far : owners_of l.text ≡ stored (listed l.owners) (owners_of (drop l.letter-index l.text));
    }
