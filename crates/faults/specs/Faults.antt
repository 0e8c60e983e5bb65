-- How a fault is told: its line, its field, its hop and its number, with 0 for what does not apply.
use Rattle.std.specs.Prelude.{ℕ}
use Rattle.clients.specs.Bookings.{number_of}
use Rattle.faults.specs.declared.FieldCause.TheVariants.{Form, Label}
use Rattle.faults.specs.declared.FieldCause.{FieldCause}
use Rattle.faults.specs.declared.LineFault.TheVariants.{End, Letter, Fields, Field, Slot, Crowd, Booking}
use Rattle.faults.specs.declared.LineFault.{LineFault}
use Rattle.faults.specs.declared.Notice.{Notice}
use Rattle.faults.specs.declared.RunFault.TheVariants.{Size, At}
use Rattle.faults.specs.declared.RunFault.{RunFault}

-- the number of a field's cause
abbrev pub cause_number : FieldCause → ℕ
cause_number Form = 16
cause_number Label = 17

-- the number of a line's fault
abbrev pub fault_number : LineFault → ℕ
fault_number End = 20
fault_number Letter = 14
fault_number Fields = 15
fault_number (Field f) = cause_number f.cause
fault_number Slot = 18
fault_number Crowd = 19
fault_number (Booking f) = number_of f.refusal

-- the fault of a line, told
abbrev pub notice_at : ℕ → LineFault → Notice
notice_at n End = record { line = n; field = 0; hop = 0; number = 20 }
notice_at n Letter = record { line = n; field = 0; hop = 0; number = 14 }
notice_at n Fields = record { line = n; field = 0; hop = 0; number = 15 }
notice_at n (Field f) = record { line = n; field = f.field; hop = 0; number = cause_number f.cause }
notice_at n Slot = record { line = n; field = 0; hop = 0; number = 18 }
notice_at n Crowd = record { line = n; field = 0; hop = 0; number = 19 }
notice_at n (Booking f) = record { line = n; field = 0; hop = f.hop; number = number_of f.refusal }

-- the fault of a whole trace, told
abbrev pub notice_of : RunFault → Notice
notice_of Size = record { line = 0; field = 0; hop = 0; number = 13 }
notice_of (At n f) = notice_at n f
