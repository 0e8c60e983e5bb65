-- What a field says: a letter, a number or a label, or the fault that it is not.
use Rattle.std.specs.Prelude.{◌≡◌, ℕ, ◌+◌, min, Bool, false, cond, List, [], ◌∷◌, Some, None, Ok, Err, Option, Result, ◌==◌}
use Rattle.decimal.specs.Numbers.{number_of}
use Rattle.reader.specs.Parts.{fields_left, field_number, other_fields, field_at, fields_in}
use Rattle.reader.specs.declared.fields.Fields.{Fields}
use Rattle.faults.specs.declared.FieldCause.TheVariants.{Form, Label}
use Rattle.faults.specs.declared.FieldCause.{FieldCause}
use Rattle.faults.specs.declared.FieldFault.{FieldFault}
use Rattle.faults.specs.declared.LineFault.TheVariants.{Letter, Fields as WrongFields}
use Rattle.faults.specs.declared.LineFault.{LineFault}

-- whether a text is that one byte
abbrev pub only : ℕ → List ℕ → Bool
only letter [] = false
only letter (b ∷ []) = b == letter
only letter (b ∷ c ∷ bs) = false

-- a line's letter is tested first, and then its number of fields
abbrev pub opens : ℕ → ℕ → List ℕ → Result (Unit {0}) LineFault
opens letter fields line = cond (only letter (field_at 0 line)) (cond (fields_in line == fields) (Ok tt) (Err WrongFields)) (Err Letter)

-- what was read, or the fault of that field for that cause
abbrev pub or_fault : {A : Type 0} → ℕ → FieldCause → Option A → Result A FieldFault
or_fault field cause None = Err (record { field = field; cause = cause })
or_fault field cause (Some x) = Ok x

-- the number of the field that follows; the count stops at 255
abbrev pub after_field : ℕ → ℕ
after_field field = min (field + 1) 255

-- the next field is passed: the others are left, and the count goes on
abbrev pub Passed : Fields → Fields → Type 0
Passed old new = (fields_left new ≡ other_fields (fields_left old)) × (field_number new ≡ after_field (field_number old))

-- a field that is a number up to `most`
abbrev pub number_in : ℕ → ℕ → List ℕ → Result ℕ FieldFault
number_in field most text = or_fault field Form (number_of most text)

-- a field that is a label
abbrev pub label_in : ℕ → (List ℕ → Option ℕ) → List ℕ → Result ℕ FieldFault
label_in field reads text = or_fault field Label (reads text)
