-- What each line says, over its own bytes: letter and number of fields first, and then the fields from the left.
use Rattle.std.specs.Prelude.{ℕ, ◌-◌, List, [], ◌∷◌, None, Ok, Err, Option, Result}
use Rattle.labels.specs.Kinds.{kind_of}
use Rattle.labels.specs.declared.kind.Kind.{Kind}
use Rattle.reader.specs.Fields.{opens, or_fault, number_in, label_in}
use Rattle.reader.specs.Parts.{field_at}
use Rattle.faults.specs.declared.FieldCause.TheVariants.{Form}
use Rattle.faults.specs.declared.FieldFault.{FieldFault}
use Rattle.faults.specs.declared.LineFault.TheVariants.{Field}
use Rattle.faults.specs.declared.LineFault.{LineFault}
use Rattle.lines.specs.declared.records.Client.{Client}
use Rattle.lines.specs.declared.records.Header.{Header}
use Rattle.lines.specs.declared.records.Request.{Request}

-- what comes next where all went well so far
abbrev pub and_then : {A B E : Type 0} → Result A E → (A → Result B E) → Result B E
and_then (Ok x) next = next x
and_then (Err fault) next = Err fault

-- a field's fault is the line's, whole
abbrev pub in_field : {A : Type 0} → Result A FieldFault → Result A LineFault
in_field (Ok x) = Ok x
in_field (Err fault) = Err (Field fault)

-- the kind of a letter, if the text is one letter
abbrev pub kind_named : List ℕ → Option Kind
kind_named [] = None
kind_named (b ∷ []) = kind_of b
kind_named (b ∷ c ∷ bs) = None

-- a field that names a kind
abbrev pub kind_in : ℕ → List ℕ → Result Kind FieldFault
kind_in field text = or_fault field Form (kind_named text)

-- field `k` of a line as a number up to `most`; the letter is field 1
abbrev pub number_at : ℕ → ℕ → List ℕ → Result ℕ LineFault
number_at k most line = in_field (number_in k most (field_at (k - 1) line))

-- H, kind, denominator, total
abbrev pub header_of : List ℕ → Result Header LineFault
header_of line =
    and_then (opens 72 4 line) (λ _.
    and_then (in_field (kind_in 2 (field_at 1 line))) (λ kind.
    and_then (number_at 3 65536 line) (λ denominator.
    and_then (number_at 4 65536 line) (λ total.
    Ok (record { kind = kind; denominator = denominator; total = total })))))

-- B, units, slots, step, cap, quantum
abbrev pub client_of : List ℕ → Result Client LineFault
client_of line =
    and_then (opens 66 6 line) (λ _.
    and_then (number_at 2 65536 line) (λ units.
    and_then (number_at 3 65536 line) (λ slots.
    and_then (number_at 4 65536 line) (λ step.
    and_then (number_at 5 65536 line) (λ upper.
    and_then (number_at 6 65536 line) (λ quantum.
    Ok (record { units = units; slots = slots; step = step; «cap» = upper; quantum = quantum })))))))

-- R, slot, client, label, length
abbrev pub request_of : (List ℕ → Option ℕ) → List ℕ → Result Request LineFault
request_of reads line =
    and_then (opens 82 5 line) (λ _.
    and_then (number_at 2 1000000 line) (λ slot.
    and_then (number_at 3 255 line) (λ client.
    and_then (in_field (label_in 4 reads (field_at 3 line))) (λ label.
    and_then (number_at 5 255 line) (λ length.
    Ok (record { slot = slot; client = client; label = label; length = length }))))))

-- E, slot
abbrev pub end_of : List ℕ → Result ℕ LineFault
end_of line = and_then (opens 69 2 line) (λ _. and_then (number_at 2 1000000 line) (λ slot. Ok slot))
