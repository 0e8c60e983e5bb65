-- Which kind of label a letter stands for, and how each kind reads and writes.
use Rattle.std.specs.Prelude.{ℕ, cond, List, Some, None, Option, ◌==◌}
use Rattle.labels.specs.Labels.{serial_reads, packet_reads, serial_writes, packet_writes}
use Rattle.labels.specs.declared.kind.Kind.TheVariants.{Serial, Packet}
use Rattle.labels.specs.declared.kind.Kind.{Kind}

-- S stands for serial numbers and P for packets
abbrev pub kind_of : ℕ → Option Kind
kind_of letter = cond (letter == 83) (Some Serial) (cond (letter == 80) (Some Packet) None)

-- the code of a text, by the kind
abbrev pub reads_as : Kind → List ℕ → Option ℕ
reads_as Serial text = serial_reads text
reads_as Packet text = packet_reads text

-- the text of a code, by the kind
abbrev pub writes_as : Kind → ℕ → Option (List ℕ)
writes_as Serial code = serial_writes code
writes_as Packet code = packet_writes code
