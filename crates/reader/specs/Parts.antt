-- What is left to read of a trace, its next line and the fields of a line.
use Rattle.std.specs.Prelude.{ℕ, zero, suc, ◌+◌, cond, List, length, drop, Some, None, Option, nat_lt}
use Rattle.marks.specs.Marks.{span_to, before, behind, marks_in}
use Rattle.reader.specs.declared.fields.Fields.{Fields}
use Rattle.reader.specs.declared.reader.Reader.{Reader}

-- the bytes of a trace that are left, from the place on
abbrev pub left : Reader → List ℕ
left r = drop r.place r.bytes.now

-- the fields of a line that are left, and the number of the next
abbrev pub fields_left : Fields → List ℕ
fields_left f = f.bytes.now

abbrev pub field_number : Fields → ℕ
field_number f = f.next

-- the line that is ended by the first byte 10, if there is one
abbrev pub next_line : List ℕ → Option (List ℕ)
next_line bytes = cond (nat_lt (span_to 10 bytes) (length bytes)) (Some (before 10 bytes)) None

-- the bytes behind that line, all where there is none
abbrev pub after_line : List ℕ → List ℕ
after_line bytes = cond (nat_lt (span_to 10 bytes) (length bytes)) (behind 10 bytes) bytes

-- the first field of a line, and the fields behind it
abbrev pub first_field : List ℕ → List ℕ
first_field line = before 44 line

abbrev pub other_fields : List ℕ → List ℕ
other_fields line = behind 44 line

-- a field of a line, by how many fields stand before it
abbrev pub field_at : ℕ → List ℕ → List ℕ
field_at zero line = first_field line
field_at (suc k) line = field_at k (other_fields line)

-- how many fields a line has
abbrev pub fields_in : List ℕ → ℕ
fields_in line = marks_in 44 line + 1
