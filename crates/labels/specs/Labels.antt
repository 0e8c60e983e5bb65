-- How serial numbers and packet identities are read and written.
use Rattle.std.specs.Prelude.{ℕ, ◌+◌, ◌*◌, ◌/◌, ◌%◌, cond, List, ◌∷◌, ◌++◌, Some, None, decimal, Option, nat_le}
use Rattle.decimal.specs.Numbers.{number_of}
use Rattle.marks.specs.Marks.{before, behind}

-- a serial number is a number up to 4,294,967,295 and its own code
abbrev pub serial_reads : List ℕ → Option ℕ
serial_reads text = number_of 4294967295 text

-- the text of a serial number
abbrev pub serial_writes : ℕ → Option (List ℕ)
serial_writes code = cond (nat_le code 4294967295) (Some (decimal code)) None

-- the code of a packet's application identifier and its sequence count
abbrev pub packet_code : Option ℕ → Option ℕ → Option ℕ
packet_code None count = None
packet_code (Some apid) None = None
packet_code (Some apid) (Some count) = Some (apid * 16384 + count)

-- a packet identity is an identifier up to 2,047, a full stop, and a count up to 16,383
abbrev pub packet_reads : List ℕ → Option ℕ
packet_reads text = packet_code (number_of 2047 (before 46 text)) (number_of 16383 (behind 46 text))

-- identifier, full stop and count of a code
abbrev pub packet_text : ℕ → List ℕ
packet_text code = decimal (code / 16384) ++ 46 ∷ decimal (code % 16384)

-- the text of a packet identity
abbrev pub packet_writes : ℕ → Option (List ℕ)
packet_writes code = cond (nat_le code 33554431) (Some (packet_text code)) None
