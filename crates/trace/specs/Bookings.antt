-- What bookings do with the lines of a trace.
use Rattle.std.specs.Prelude.{List, Ok, Err, Result}
use Rattle.faults.specs.declared.BookingFault.{BookingFault}
use Rattle.lines.specs.declared.records.Client.{Client}
use Rattle.lines.specs.declared.records.Header.{Header}
use Rattle.lines.specs.Owners.{Owner}

-- what each line leaves booked, or the booking's fault
pub record Desk (S : Type 0) : Type 0 where
  pub sets : S → Header → Result S BookingFault
  pub frames : S → List Owner → Result S BookingFault
  pub reserves : S → Client → Result S BookingFault

-- a call that only succeeds or fails, with what it leaves where it succeeds
abbrev pub led : {A E : Type 0} → Result (Unit {0}) E → A → Result A E
led (Ok done) after = Ok after
led (Err fault) after = Err fault

-- the bookings that refuse nothing and hold nothing
abbrev pub unbooked : Desk (Unit {0})
unbooked = record { sets = λ s _. Ok s; frames = λ s _. Ok s; reserves = λ s _. Ok s }
