-- The booking and the server of credit-controlled static priority as functions of their state. Assumes nothing.
use Rattle.std.specs.Prelude.{ℕ, ◌+◌, ◌-◌, ◌*◌, Bool, cond, ◌&&◌, List, [], ◌∷◌, ◌++◌, Ok, Err, Option, Result, nat_le, nat_lt}
use Rattle.server.specs.declared.rate.Rate.{Rate}
use Rattle.server.specs.declared.rate.Terms.{Terms}
use Rattle.server.specs.Meaning.{Meaning}
use Rattle.server.specs.Calls.{submitted}
use Rattle.server.specs.Machine.{Machine}
use Rattle.tables.specs.Tables.{listed}
use Rattle.clients.specs.declared.booking.BookingRefusal.{BookingRefusal}
use Rattle.clients.specs.declared.booking.BookingRefusal.TheVariants.{Reserved, Rate as BadRate, Range, Share as SmallShare, Over}
use Rattle.clients.specs.Held.{latency_for}
use Rattle.clients.specs.Meant.{meaning}
use Rattle.clients.specs.Serving.{no_clients, rate_ok, admitted, slot_says, slot_leaves}
use Rattle.credits.specs.declared.shares.Share.{Share}
use Rattle.credits.specs.declared.booking.CreditBooking.{CreditBooking}
use Rattle.credits.specs.declared.credit_server.CreditServer.{CreditServer}
use Rattle.credits.specs.Shares.{steps, caps, theta, by_place, served, earned}

-- the clients, the denominator, and each client's share, highest priority first
pub record State : Type 0 where
  pub clients : Meaning
  pub denominator : ℕ
  pub shares : List Share

-- what is known of a server
abbrev pub state_of : CreditServer → State
state_of x = record { clients = meaning x.clients; denominator = x.denominator; shares = listed x.shares }

-- and of a booking, which holds the server that it opens as
abbrev pub booked_in : CreditBooking → State
booked_in b = state_of b.server

-- ## Booking

abbrev pub Answer : Type 0
Answer = Result (Unit {0}) BookingRefusal

-- a new booking: denominator 1, nobody reserved
abbrev pub fresh : State
fresh = record { clients = no_clients; denominator = 1; shares = [] }

-- a denominator of 1 to 1,024
abbrev pub denominator_ok : ℕ → Bool
denominator_ok d = nat_le 1 d && nat_le d 1024

-- setting the denominator: refused once a client is reserved, or where it is out of range
abbrev pub denominator_says : State → ℕ → Answer
denominator_says s d = cond (nat_lt 0 s.clients.count) (Err Reserved) (cond (denominator_ok d) (Ok tt) (Err Range))

abbrev pub denominator_set : State → ℕ → State
denominator_set s d =
    cond (nat_lt 0 s.clients.count) s (cond (denominator_ok d) (record { clients = s.clients; denominator = d; shares = s.shares }) s)

-- a step of 1 to D, and a cap of D to 64·D
abbrev pub share_ok : (denominator step most : ℕ) → Bool
share_ok D n c = nat_le 1 n && (nat_le n D && (nat_le D c && nat_le c (64 * D)))

-- whether the step carries the rate
abbrev pub carries : (denominator : ℕ) → Rate → (step : ℕ) → Bool
carries D x n = nat_le (x.p * D) (n * x.q)

-- whether there is room for the step beside those reserved before
abbrev pub room_for : State → (step : ℕ) → Bool
room_for s n = nat_le (steps s.shares + n) s.denominator

-- the terms of the next client: its latency is p·θ + q·16, by the shares of those before it
abbrev pub next_terms : State → Rate → Terms
next_terms s x = record { rate = x; latency = latency_for x.p x.q (theta (s.denominator - steps s.shares) (caps s.shares)) }

-- those terms, or the first cause that speaks against the share
abbrev pub terms_say : State → Rate → (step most : ℕ) → Result Terms BookingRefusal
terms_say s x n c =
    cond (rate_ok x)
    (cond (share_ok s.denominator n c)
    (cond (carries s.denominator x n)
    (cond (room_for s n) (Ok (next_terms s x)) (Err Over))
    (Err SmallShare))
    (Err Range))
    (Err BadRate)

-- reserving the next client: the first cause that holds
abbrev pub reserve_says : State → Rate → (step most : ℕ) → Answer
reserve_says s x n c =
    cond (rate_ok x)
    (cond (share_ok s.denominator n c)
    (cond (carries s.denominator x n)
    (cond (room_for s n && nat_lt s.clients.count 8) (Ok tt) (Err Over))
    (Err SmallShare))
    (Err Range))
    (Err BadRate)

-- the client reserved, its credit at its cap; or nothing changed
abbrev pub reserved : State → Rate → (step most : ℕ) → State
reserved s x n c =
    cond (rate_ok x && (share_ok s.denominator n c && (carries s.denominator x n && (room_for s n && nat_lt s.clients.count 8))))
    (record {
      clients = admitted s.clients (next_terms s x);
      denominator = s.denominator;
      shares = s.shares ++ (record { step = n; cap = c; credit = c } ∷ []);
    })
    s

-- ## Service

-- the client that a slot serves
abbrev pub served_in : State → Option ℕ
served_in s = served s.clients s.denominator s.shares

-- the shares after a slot; at the counter's end, where it is refused, as they were
abbrev pub shares_after : State → List Share
shares_after s = cond (nat_lt s.clients.now 4294967295) (by_place (earned s.clients s.denominator (served_in s)) 0 s.shares) s.shares

abbrev pub credit_machine : Machine State
credit_machine = record {
  says = λ s. slot_says s.clients (served_in s);
  next = λ s. record { clients = slot_leaves s.clients (served_in s); denominator = s.denominator; shares = shares_after s };
  enter = λ s c label len. record { clients = submitted s.clients c label len; denominator = s.denominator; shares = s.shares };
}
