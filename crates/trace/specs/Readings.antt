-- What one line leaves of a trace that is being read, with the bookings that it asked for.
use Rattle.std.specs.Prelude.{ℕ, cond, List, [], ◌∷◌, ◌++◌, length, Ok, Err, Option, Result, nat_lt}
use Rattle.trace.specs.Bookings.{Desk}
use Rattle.reader.specs.Fields.{only}
use Rattle.lines.specs.Frames.{frame_of}
use Rattle.lines.specs.Lines.{and_then, header_of, client_of, request_of, end_of}
use Rattle.reader.specs.Parts.{field_at}
use Rattle.lines.specs.Tables.{pushed}
use Rattle.faults.specs.declared.BookingFault.{BookingFault}
use Rattle.faults.specs.declared.LineFault.TheVariants.{Letter, Slot, Crowd, Booking}
use Rattle.faults.specs.declared.LineFault.{LineFault}
use Rattle.trace.specs.declared.reading.Place.TheVariants.{Frame, First, Clients, Requests, Done}
use Rattle.trace.specs.declared.reading.Place.{Place}
use Rattle.trace.specs.declared.reading.Reading.{Reading}
use Rattle.trace.specs.declared.reading.Trace.{Trace}
use Rattle.lines.specs.declared.records.Client.{Client}
use Rattle.lines.specs.declared.records.Header.{Header}
use Rattle.lines.specs.Owners.{Owner}
use Rattle.lines.specs.declared.records.Request.{Request}
use Rattle.tables.specs.Tables.{listed}

-- what a trace tells
pub record Told : Type 0 where
  pub header : Header
  pub owners : List Owner
  pub clients : List Client
  pub requests : List Request
  pub end : ℕ

-- a trace that is being read: what it told so far, which line may stand next, and the slot of the last R line
pub record Seen : Type 0 where
  pub header : Header
  pub owners : List Owner
  pub clients : List Client
  pub requests : List Request
  pub place : Place
  pub slot : ℕ

-- the same, with what is booked for it
pub record Open (S : Type 0) : Type 0 where
  pub seen : Seen
  pub booked : S

-- what a trace that was read tells
abbrev pub told_of : Trace → Told
told_of t = record { header = t.header; owners = listed t.owners; clients = listed t.clients; requests = listed t.requests; end = t.end }

-- a trace that is being read, as far as it was read
abbrev pub seen_of : Reading → Seen
seen_of r = record { header = r.header; owners = listed r.owners; clients = listed r.clients; requests = listed r.requests; place = r.place; slot = r.slot }

-- the same, with what is booked for it
abbrev pub open_of : {S : Type 0} → Reading → S → Open S
open_of r s = record { seen = seen_of r; booked = s }

-- a booking's fault is the line's, whole
abbrev pub in_booking : {A : Type 0} → Result A BookingFault → Result A LineFault
in_booking (Ok x) = Ok x
in_booking (Err fault) = Err (Booking fault)

-- a line that asks nothing of the bookings leaves them
abbrev pub leaving : {S : Type 0} → S → Result Seen LineFault → Result (Open S) LineFault
leaving s (Ok seen) = Ok (record { seen = seen; booked = s })
leaving s (Err fault) = Err fault

-- a trace behind its header
abbrev pub started : Header → Seen
started header = record { header = header; owners = []; clients = []; requests = []; place = Frame; slot = 0 }

-- the first line is the header, and its two capacities are set
abbrev pub header_line : {S : Type 0} → Desk S → S → List ℕ → Result (Open S) LineFault
header_line desk s line =
    and_then (header_of line) (λ header. and_then (in_booking (desk.sets s header)) (λ s. Ok (record { seen = started header; booked = s })))

module _ (seen : Seen) where
  -- the owners are kept, and a client's line must follow
  abbrev pub with_owners : List Owner → Seen
  with_owners owners =
      record { header = seen.header; owners = owners; clients = seen.clients; requests = seen.requests; place = First; slot = seen.slot }

  -- the first eight clients are kept
  abbrev pub with_client : Client → Seen
  with_client client =
      record { header = seen.header; owners = seen.owners; clients = pushed 8 seen.clients client; requests = seen.requests; place = Clients; slot = seen.slot }

  -- a request is kept with its slot
  abbrev pub with_request : Request → Seen
  with_request request =
      record { header = seen.header; owners = seen.owners; clients = seen.clients; requests = seen.requests ++ request ∷ []; place = Requests; slot = request.slot }

  -- the slot of the end is kept, and no line may follow
  abbrev pub with_end : ℕ → Seen
  with_end slot =
      record { header = seen.header; owners = seen.owners; clients = seen.clients; requests = seen.requests; place = Done slot; slot = seen.slot }

  -- what the trace tells, ended at this slot
  abbrev pub ended : ℕ → Told
  ended end = record { header = seen.header; owners = seen.owners; clients = seen.clients; requests = seen.requests; end = end }

  -- a request's slot is not before the last one's, and there are at most 600 requests
  abbrev pub request_line : (List ℕ → Option ℕ) → List ℕ → Result Seen LineFault
  request_line reads line =
      and_then (request_of reads line) (λ request.
      cond (nat_lt request.slot seen.slot) (Err Slot)
      (cond (nat_lt (length seen.requests) 600) (Ok (with_request request)) (Err Crowd)))

  -- the end's slot is not before the last request's
  abbrev pub end_line : List ℕ → Result Seen LineFault
  end_line line = and_then (end_of line) (λ slot. cond (nat_lt slot seen.slot) (Err Slot) (Ok (with_end slot)))

  -- a request's line or the end
  abbrev pub later_line : (List ℕ → Option ℕ) → List ℕ → Result Seen LineFault
  later_line reads line = cond (only 82 (field_at 0 line)) (request_line reads line) (end_line line)

module _ {S : Type 0} (desk : Desk S) (o : Open S) where
  -- the frame is set
  abbrev pub frame_line : List ℕ → Result (Open S) LineFault
  frame_line line =
      and_then (frame_of line) (λ owners.
      and_then (in_booking (desk.frames o.booked owners)) (λ s. Ok (record { seen = with_owners o.seen owners; booked = s })))

  -- a client is reserved
  abbrev pub client_line : List ℕ → Result (Open S) LineFault
  client_line line =
      and_then (client_of line) (λ client.
      and_then (in_booking (desk.reserves o.booked client)) (λ s. Ok (record { seen = with_client o.seen client; booked = s })))

  -- the line that may stand at a place
  abbrev pub line_at : Place → (List ℕ → Option ℕ) → List ℕ → Result (Open S) LineFault
  line_at Frame reads line = frame_line line
  line_at First reads line = client_line line
  line_at Clients reads line = cond (only 66 (field_at 0 line)) (client_line line) (leaving o.booked (later_line o.seen reads line))
  line_at Requests reads line = leaving o.booked (later_line o.seen reads line)
  line_at (Done end) reads line = Err Letter
