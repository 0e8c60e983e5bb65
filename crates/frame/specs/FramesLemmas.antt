-- How many owners a row, a frame, a server and a booking have.
use Rattle.std.specs.Prelude.{◌≡◌, ℕ, ◌≤◌, true, ◌&&◌, List, length, Option, nat_le}
use Rattle.std.specs.List.{list_all}
use Rattle.std.proofs.Common.{sym, leb-true, arith, length-take-le}
use Rattle.std.proofs.lemmas.Bool.{and_parts}
use Rattle.server.specs.declared.rate.Rate.{Rate}
use Rattle.clients.specs.Meant.{meaning}
use Rattle.clients.specs.Serving.{rate_ok, terms_ok}
use Rattle.frame.specs.declared.owners.Frame.{Frame}
use Rattle.frame.specs.declared.booking.FrameBooking.{FrameBooking}
use Rattle.frame.specs.declared.frame_server.FrameServer.{FrameServer}
use Rattle.frame.specs.Frames.{owners_in, frame_ok, owner_ok}
use Rattle.frame.specs.Pacing.{latency_fits, terms_fit}
use Rattle.frame.specs.States.{state_of, booked_in, next_terms}

-- a row of owners that is a frame
pub frame_sizes : (os : List (Option ℕ)) → true ≡ frame_ok os → (1 ≤ length os) × (length os ≤ 256)
frame_sizes os e =
    let a = and_parts (nat_le 1 (length os)) (nat_le (length os) 256 && list_all owner_ok os) (sym e) in
    let b = and_parts (nat_le (length os) 256) (list_all owner_ok os) a.1 in
    (leb-true 1 (length os) a.0, leb-true (length os) 256 b.0)

-- ## Any frame

module _ (f : Frame) where
  pub length_owners : length (owners_in f) ≡ f.owners.count
  length_owners = length-take-le f.owners.count f.owners.items (omega (arith, f.owners.full, f.owners.few))

  pub some_owners : 1 ≤ length (owners_in f)
  some_owners = f.some

  pub most_owners : length (owners_in f) ≤ 256
  most_owners = f.most

-- ## Any server, any booking

module _ (x : FrameServer) where
  pub some_slots : 1 ≤ length (state_of x).owners
  some_slots = some_owners x.frame

  pub most_slots : length (state_of x).owners ≤ 256
  most_slots = most_owners x.frame

  -- the next client's terms are in range where its rate is
  pub next_latency_fits : (r : Rate) → rate_ok r ≡ true → (next_terms (state_of x) r).latency ≤ 4194304
  next_latency_fits = latency_fits (meaning x.clients) (owners_in x.frame) some_slots most_slots

  pub next_terms_fit : (r : Rate) → rate_ok r ≡ true → terms_ok (next_terms (state_of x) r) ≡ true
  next_terms_fit = terms_fit (meaning x.clients) (owners_in x.frame) some_slots most_slots

module _ (b : FrameBooking) where
  pub some_booked : 1 ≤ length (booked_in b).owners
  some_booked = some_slots b.server

  pub most_booked : length (booked_in b).owners ≤ 256
  most_booked = most_slots b.server
