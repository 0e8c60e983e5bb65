-- The frame's booking and server as functions of their state. Assumes nothing.
use Rattle.std.specs.Prelude.{ℕ, ◌*◌, Bool, cond, ◌&&◌, List, [], ◌∷◌, length, None, Ok, Err, Option, Result, nat_le, nat_lt}
use Rattle.server.specs.declared.rate.Rate.{Rate}
use Rattle.server.specs.declared.rate.Terms.{Terms}
use Rattle.server.specs.Meaning.{Meaning}
use Rattle.server.specs.Calls.{submitted}
use Rattle.server.specs.Machine.{Machine}
use Rattle.clients.specs.declared.booking.BookingRefusal.{BookingRefusal}
use Rattle.clients.specs.declared.booking.BookingRefusal.TheVariants.{Reserved, Rate as BadRate, Range, Share, Over}
use Rattle.clients.specs.Held.{latency_for}
use Rattle.clients.specs.Meant.{meaning}
use Rattle.clients.specs.Serving.{no_clients, rate_ok, admitted, slot_says, slot_leaves}
use Rattle.frame.specs.declared.booking.FrameBooking.{FrameBooking}
use Rattle.frame.specs.declared.frame_server.FrameServer.{FrameServer}
use Rattle.frame.specs.Frames.{owners_in, owner_at, owned, theta, frame_ok}

-- the clients, and the owners of the frame's slots
pub record State : Type 0 where
  pub clients : Meaning
  pub owners : List (Option ℕ)

-- what a server is, seen from outside
abbrev pub state_of : FrameServer → State
state_of x = record { clients = meaning x.clients; owners = owners_in x.frame }

-- a booking is its server, which no call has moved
abbrev pub booked_in : FrameBooking → State
booked_in b = state_of b.server

-- ## Booking

-- what setting the frame or reserving a client answers
abbrev pub Answer : Type 0
Answer = Result (Unit {0}) BookingRefusal

-- a new booking: one slot, which nobody owns
abbrev pub fresh : State
fresh = record { clients = no_clients; owners = None ∷ [] }

-- setting the frame: refused once a client is reserved, or where the owners are out of range
abbrev pub frame_says : State → List (Option ℕ) → Answer
frame_says s os = cond (nat_lt 0 s.clients.count) (Err Reserved) (cond (frame_ok os) (Ok tt) (Err Range))

-- the owners set, or nothing changed
abbrev pub frame_set : State → List (Option ℕ) → State
frame_set s os = cond (nat_lt 0 s.clients.count) s (cond (frame_ok os) (record { clients = s.clients; owners = os }) s)

-- whether the next client's slots carry the rate
abbrev pub carries : State → Rate → Bool
carries s x = nat_le (x.p * length s.owners) (owned s.clients.count s.owners * x.q)

-- the next client's terms: the latency is p·θ + q·16
abbrev pub next_terms : State → Rate → Terms
next_terms s x = record { rate = x; latency = latency_for x.p x.q (theta s.clients.count s.owners) }

-- those terms, where the rate is in range and carried
abbrev pub terms_say : State → Rate → Result Terms BookingRefusal
terms_say s x = cond (rate_ok x) (cond (carries s x) (Ok (next_terms s x)) (Err Share)) (Err BadRate)

-- reserving the next client: the first cause that holds
abbrev pub reserve_says : State → Rate → Answer
reserve_says s x =
    cond (rate_ok x) (cond (carries s x) (cond (nat_lt s.clients.count 8) (Ok tt) (Err Over)) (Err Share)) (Err BadRate)

-- the client reserved with those terms, or nothing changed
abbrev pub reserved : State → Rate → State
reserved s x =
    cond (rate_ok x && carries s x) (record { clients = admitted s.clients (next_terms s x); owners = s.owners }) s

-- ## Service

-- a slot serves its owner
abbrev pub frame_machine : Machine State
frame_machine = record {
  says = λ s. slot_says s.clients (owner_at s.owners s.clients.now);
  next = λ s. record { clients = slot_leaves s.clients (owner_at s.owners s.clients.now); owners = s.owners };
  enter = λ s c label len. record { clients = submitted s.clients c label len; owners = s.owners };
}
