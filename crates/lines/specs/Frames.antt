-- What the frame's line says: the owners of its slots, in order.
use Rattle.std.specs.Prelude.{ℕ, ◌-◌, cond, ◌&&◌, List, [], ◌∷◌, length, Some, None, Ok, Err, Option, Result, ◌==◌, nat_le, nat_lt}
use Rattle.reader.specs.Fields.{opens, or_fault}
use Rattle.lines.specs.Lines.{and_then, in_field}
use Rattle.reader.specs.Parts.{field_at}
use Rattle.faults.specs.declared.FieldCause.TheVariants.{Form}
use Rattle.faults.specs.declared.LineFault.{LineFault}
use Rattle.lines.specs.Owners.{Owner}
use Rattle.tables.specs.Tables.{listed}
use Rattle.tables.specs.declared.table.Table.{Table}

-- a digit 0 to 7 is a client and a full stop nobody
abbrev pub owner_of : ℕ → Option Owner
owner_of b = cond (b == 46) (Some None) (cond (nat_le 48 b && nat_le b 55) (Some (Some (b - 48))) None)

-- an owner in front of the others, if all are owners
abbrev pub with_owner : Option Owner → Option (List Owner) → Option (List Owner)
with_owner None others = None
with_owner (Some o) None = None
with_owner (Some o) (Some others) = Some (o ∷ others)

-- the owner of each character
abbrev pub owners_of : List ℕ → Option (List Owner)
owners_of [] = Some []
owners_of (b ∷ bs) = with_owner (owner_of b) (owners_of bs)

-- the owners of 1 to 256 characters
abbrev pub owners_in : List ℕ → Option (List Owner)
owners_in text = cond (nat_lt 0 (length text) && nat_le (length text) 256) (owners_of text) None

-- F, owners
abbrev pub frame_of : List ℕ → Result (List Owner) LineFault
frame_of line = and_then (opens 70 2 line) (λ _. in_field (or_fault 2 Form (owners_in (field_at 1 line))))

-- a table that was read, as its items
abbrev pub listed_in : {T : Type 0} {N : ℕ} → Result (Table T N) LineFault → Result (List T) LineFault
listed_in (Ok t) = Ok (listed t)
listed_in (Err fault) = Err fault
