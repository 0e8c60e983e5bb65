-- What the lines of a trace book at the three hops. Assumes nothing.
use Rattle.std.specs.Prelude.{ℕ, List, Ok, Err, Result}
use Rattle.clients.specs.declared.booking.BookingRefusal.{BookingRefusal}
use Rattle.faults.specs.declared.BookingFault.{BookingFault}
use Rattle.lines.specs.declared.records.Client.{Client}
use Rattle.lines.specs.declared.records.Header.{Header}
use Rattle.lines.specs.Lines.{and_then}
use Rattle.lines.specs.Owners.{Owner}
use Rattle.lines.specs.Rates.{line_rate}
use Rattle.trace.specs.Bookings.{Desk}
use Rattle.frame.specs.States.{State as Framed, frame_says, frame_set, reserve_says as frame_reserve_says, reserved as frame_reserved, fresh as fresh_frame, booked_in as frame_in}
use Rattle.credits.specs.States.{State as Credited, denominator_says, denominator_set, reserve_says as credit_reserve_says, reserved as credit_reserved, fresh as fresh_credits, booked_in as credits_in}
use Rattle.ring.specs.declared.shares.Shares.{Shares}
use Rattle.ring.specs.States.{total_says, total_set, reserve_says as ring_reserve_says, reserved as ring_reserved, fresh as fresh_ring, booked_in as ring_in}
use Rattle.hops.specs.declared.hops.Hop.{Hop}
use Rattle.hops.specs.declared.hops.Hop.TheVariants.{Frame, Credits, Ring}
use Rattle.hops.specs.declared.hops.Hops.{Hops}

-- what is booked at each hop
pub record State : Type 0 where
  pub frame : Framed
  pub credits : Credited
  pub ring : Shares

abbrev pub booked_in : Hops → State
booked_in x = record { frame = frame_in x.frame; credits = credits_in x.credits; ring = ring_in x.ring }

-- nothing is booked
abbrev pub fresh : State
fresh = record { frame = fresh_frame; credits = fresh_credits; ring = fresh_ring }

-- the number by which each hop is known
abbrev pub number_of : Hop → ℕ
number_of Frame = 1
number_of Credits = 2
number_of Ring = 3

-- a booking's answer at a hop: what it leaves, or its refusal with the hop
abbrev pub at_hop : Hop → Result (Unit {0}) BookingRefusal → State → Result State BookingFault
at_hop hop (Ok done) after = Ok after
at_hop hop (Err refusal) after = Err (record { hop = number_of hop; refusal = refusal })

-- the header sets the denominator at hop 2, then the ring's total at hop 3
abbrev pub set_credits : State → Header → Result State BookingFault
set_credits s h = at_hop Credits (denominator_says s.credits h.denominator) (record { frame = s.frame; credits = denominator_set s.credits h.denominator; ring = s.ring })

abbrev pub set_ring : State → Header → Result State BookingFault
set_ring s h = at_hop Ring (total_says s.ring h.total) (record { frame = s.frame; credits = s.credits; ring = total_set s.ring h.total })

-- the frame's line sets the owners at hop 1
abbrev pub set_frame : State → List Owner → Result State BookingFault
set_frame s os = at_hop Frame (frame_says s.frame os) (record { frame = frame_set s.frame os; credits = s.credits; ring = s.ring })

-- a client is reserved hop by hop
abbrev pub reserved_frame : State → Client → Result State BookingFault
reserved_frame s c = at_hop Frame (frame_reserve_says s.frame (line_rate c)) (record { frame = frame_reserved s.frame (line_rate c); credits = s.credits; ring = s.ring })

abbrev pub reserved_credits : State → Client → Result State BookingFault
reserved_credits s c = at_hop Credits (credit_reserve_says s.credits (line_rate c) c.step c.«cap») (record { frame = s.frame; credits = credit_reserved s.credits (line_rate c) c.step c.«cap»; ring = s.ring })

abbrev pub reserved_ring : State → Client → Result State BookingFault
reserved_ring s c = at_hop Ring (ring_reserve_says s.ring (line_rate c) c.quantum) (record { frame = s.frame; credits = s.credits; ring = ring_reserved s.ring (line_rate c) c.quantum })

-- the bookings of all three hops
abbrev pub desk : Desk State
desk = record {
  sets = λ s h. and_then (set_credits s h) (λ s. set_ring s h);
  frames = set_frame;
  reserves = λ s c. and_then (reserved_frame s c) (λ s. and_then (reserved_credits s c) (λ s. reserved_ring s c));
}
