use Rattle.std.proofs.Common.{◌≡◌, ◌≤◌, take}
use Rattle.marks.proofs.count.Given as goal
use Rattle.marks.specs.Marks.{marks_in}

abbrev pub invariant-loop-byte : goal.invariant-loop-byte
invariant-loop-byte l =
    record {
      few : l.marks ≤ l.byte-index;
      so_far : l.marks ≡ marks_in l.mark (take l.byte-index l.bytes);
    }
