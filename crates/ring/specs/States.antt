-- The ring's booking and server as functions of their state. Assumes nothing.
use Rattle.std.specs.Prelude.{ℕ, ◌+◌, ◌-◌, cond, ◌&&◌, map, replicate, Ok, Err, Result, nat_lt, slice_set}
use Rattle.server.specs.declared.rate.Rate.{Rate}
use Rattle.server.specs.Meaning.{Meaning}
use Rattle.server.specs.Calls.{submitted}
use Rattle.server.specs.Machine.{Machine}
use Rattle.clients.specs.declared.booking.BookingRefusal.{BookingRefusal}
use Rattle.clients.specs.declared.booking.BookingRefusal.TheVariants.{Reserved, Rate as BadRate, Range, Share as SmallShare, Over}
use Rattle.clients.specs.Meant.{meaning}
use Rattle.clients.specs.View.{vacant, new_client}
use Rattle.clients.specs.Serving.{rate_ok, slot_says, slot_leaves}
use Rattle.ring.specs.declared.shares.Share.{Share}
use Rattle.ring.specs.declared.shares.Shares.{Shares}
use Rattle.ring.specs.declared.turns.Place.{Place}
use Rattle.ring.specs.declared.turns.Ring.{Ring}
use Rattle.ring.specs.declared.turns.Turn.TheVariants.{Closed}
use Rattle.ring.specs.declared.booking.RingBooking.{RingBooking}
use Rattle.ring.specs.declared.ring_server.RingServer.{RingServer}
use Rattle.ring.specs.Shares.{total_ok, quantum_ok, carries, room, count_in, no_share, terms_in}
use Rattle.ring.specs.Turns.{turn_in, ring_after}

-- the clients, and the ring with its turn
pub record State : Type 0 where
  pub clients : Meaning
  pub ring : Ring

abbrev pub booked_in : RingBooking → Shares
booked_in b = b.shares

abbrev pub state_of : RingServer → State
state_of x = record { clients = meaning x.clients; ring = x.ring }

-- ## Booking

abbrev pub Answer : Type 0
Answer = Result (Unit {0}) BookingRefusal

-- a new booking: a total of 16, and nobody reserved
abbrev pub fresh : Shares
fresh = record { total = 16; count = 0; reserved = replicate 8 no_share }

-- setting the total: refused once a client is reserved, or where it is out of range
abbrev pub total_says : Shares → ℕ → Answer
total_says s total = cond (nat_lt 0 (count_in s)) (Err Reserved) (cond (total_ok total) (Ok tt) (Err Range))

abbrev pub total_set : Shares → ℕ → Shares
total_set s total = cond (nat_lt 0 (count_in s)) s (cond (total_ok total) (record { total = total; count = s.count; reserved = s.reserved }) s)

-- reserving the next client: the first cause that holds
abbrev pub reserve_says : Shares → Rate → ℕ → Answer
reserve_says s x quantum =
    cond (rate_ok x)
    (cond (quantum_ok quantum)
    (cond (carries s.total x quantum)
    (cond (room s quantum) (Ok tt) (Err Over))
    (Err SmallShare))
    (Err Range))
    (Err BadRate)

-- the client reserved at the next place, or nothing changed
abbrev pub reserved : Shares → Rate → ℕ → Shares
reserved s x quantum =
    cond (rate_ok x && (quantum_ok quantum && (carries s.total x quantum && room s quantum)))
    (record { total = s.total; count = s.count + 1; reserved = slice_set s.reserved s.count (record { rate = x; quantum = quantum }) })
    s

-- ## Opening

-- the first n of the reserved clients, with the latencies of all
abbrev pub first_clients : Shares → ℕ → Meaning
first_clients s n = record { count = n; now = 0; client = λ k. new_client (cond (nat_lt k n) (terms_in s k) vacant) }

-- the place of a client of this share: no deficit yet
abbrev pub fresh_place : Share → Place
fresh_place x = record { quantum = x.quantum; deficit = 0 }

-- a place for each client, and the turn closed at the last of them
abbrev pub fresh_ring : Shares → Ring
fresh_ring s = record {
  total = s.total;
  places = map fresh_place s.reserved;
  turn = Closed (count_in s - 1);
}

abbrev pub opened_from : Shares → State
opened_from s = record { clients = first_clients s (count_in s); ring = fresh_ring s }

-- ## Service

-- a slot serves whose turn it is; refused at the counter's end, it leaves the turn too
abbrev pub ring_machine : Machine State
ring_machine = record {
  says = λ s. slot_says s.clients (turn_in s.clients s.ring);
  next = λ s. record {
    clients = slot_leaves s.clients (turn_in s.clients s.ring);
    ring = cond (nat_lt s.clients.now 4294967295) (ring_after s.clients s.ring (turn_in s.clients s.ring)) s.ring;
  };
  enter = λ s c label len. record { clients = submitted s.clients c label len; ring = s.ring };
}
