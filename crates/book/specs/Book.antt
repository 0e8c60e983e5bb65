-- The book that is kept of a server's calls and answers, and what it is to show. Assumes nothing.
use Rattle.std.specs.Prelude.{◌≡◌, ℕ, ◌+◌, ◌*◌, ◌<◌, ◌≤◌, max, cond, List, [], ◌∷◌, ◌++◌, length, drop, Ok, Err, ◌==◌}
use Rattle.server.specs.declared.block.Departure.{Departure}
use Rattle.server.specs.declared.block.Served.{Served}
use Rattle.server.specs.declared.block.Served.TheVariants.{Nothing, Unit as OneUnit, Departed}
use Rattle.server.specs.declared.rate.Rate.{Rate}
use Rattle.book.specs.declared.calls.Order.{Order}
use Rattle.book.specs.declared.calls.Event.{Event}
use Rattle.book.specs.declared.calls.Event.TheVariants.{Submit, Slot, Ask}

-- ## The book

-- a block that was granted
pub record Entry : Type 0 where
  pub label : ℕ
  pub length : ℕ
  pub start : ℕ

-- a block that departed, and when
pub record Gone : Type 0 where
  pub entry : Entry
  pub departure : ℕ

-- one client: its rate, its clock, and its blocks, departed and waiting, each oldest first
pub record Account : Type 0 where
  pub rate : Rate
  pub clock : ℕ
  pub gone : List Gone
  pub waiting : List Entry

pub record Book : Type 0 where
  pub now : ℕ
  pub account : ℕ → Account

-- the book opens at slot 0, with clocks 0 and no blocks
abbrev pub opened : (ℕ → Rate) → Book
opened rates = record { now = 0; account = λ k. record { rate = rates k; clock = 0; gone = []; waiting = [] } }

-- a start by the book's own slot and clock
abbrev pub start_in : ℕ → Account → ℕ
start_in t x = max (x.rate.p * t) x.clock

-- a granted block is entered, waiting, and moves the clock
abbrev pub enter : ℕ → Order → Account → Account
enter t o x = record {
  rate = x.rate;
  clock = start_in t x + x.rate.q * o.length;
  gone = x.gone;
  waiting = x.waiting ++ (record { label = o.label; length = o.length; start = start_in t x } ∷ []);
}

-- the oldest waiting block takes its departure
abbrev pub oldest : ℕ → List Entry → List Gone
oldest t [] = []
oldest t (i ∷ is) = record { entry = i; departure = t } ∷ []

abbrev pub depart : ℕ → Account → Account
depart t x = record { rate = x.rate; clock = x.clock; gone = x.gone ++ oldest t x.waiting; waiting = drop 1 x.waiting }

-- the accounts, with client c's changed
abbrev pub change : ℕ → (Account → Account) → (ℕ → Account) → ℕ → Account
change c f xs k = cond (k == c) (f (xs k)) (xs k)

-- one slot on
abbrev pub pass : Book → Served → Book
pass b Nothing = record { now = b.now + 1; account = b.account }
pass b (OneUnit c) = record { now = b.now + 1; account = b.account }
pass b (Departed d) = record { now = b.now + 1; account = change d.client (depart (b.now + 1)) b.account }

-- the book is fed with a call and its answer; refused calls and questions alter nothing
abbrev pub fed : Book → Event → Book
fed b (Submit o (Ok due)) = record { now = b.now; account = change o.client (enter b.now o) b.account }
fed b (Submit o (Err e)) = b
fed b (Slot (Ok s)) = pass b s
fed b (Slot (Err e)) = b
fed b (Ask q a) = b

abbrev pub read : Book → List Event → Book
read b [] = b
read b (e ∷ es) = read (fed b e) es

-- ## What it is to show

-- the distance p × departure − start of each departed block is at most the latency
abbrev pub GoneNear : (p late : ℕ) → List Gone → Type 0
GoneNear p late [] = Unit {0}
GoneNear p late (g ∷ gs) = (p * g.departure ≤ g.entry.start + late) × GoneNear p late gs

-- the distance p × (now + 1) − start of each waiting block is at most the latency
abbrev pub WaitingNear : (p now late : ℕ) → List Entry → Type 0
WaitingNear p now late [] = Unit {0}
WaitingNear p now late (i ∷ is) = (p * (now + 1) ≤ i.start + late) × WaitingNear p now late is

-- the units of departed blocks
abbrev pub units : List Gone → ℕ
units [] = 0
units (g ∷ gs) = g.entry.length + units gs

-- nothing of client c waits and its clock is not ahead: the next granted block begins a busy stretch
abbrev pub Idle : Book → ℕ → Type 0
Idle b c = ((b.account c).waiting ≡ []) × ((b.account c).clock ≤ (b.account c).rate.p * b.now)

-- from book b on, a stretch of client c lasts through the events: the clock never falls behind
abbrev pub Lasts : Book → List Event → ℕ → Type 0
Lasts b [] c = (b.account c).rate.p * b.now ≤ (b.account c).clock
Lasts b (e ∷ es) c = ((b.account c).rate.p * b.now ≤ (b.account c).clock) × Lasts (fed b e) es c

-- a block that departs as the one that this entry tells
abbrev pub entry_of : Departure → Entry
entry_of d = record { label = d.label; length = d.length; start = d.start }

-- after every list of events, for a server of so many clients, with these rates and latencies
pub record Promised (count : ℕ) (rates : ℕ → Rate) (late : ℕ → ℕ) (es : List Event) : Type 0 where
  -- each block's distance, departed or waiting, is at most its client's latency
  pub distance : (pre post : List Event) → es ≡ pre ++ post → (k : ℕ) → k < count
      → GoneNear (rates k).p (late k) ((read (opened rates) pre).account k).gone
      × WaitingNear (rates k).p (read (opened rates) pre).now (late k) ((read (opened rates) pre).account k).waiting
  -- in each busy stretch from slot s, while it lasts: p × now ≤ q × units departed in it + latency + p × s
  pub stretch : (pre mid post : List Event) (o : Order) (due : ℕ) → es ≡ pre ++ (Submit o (Ok due) ∷ (mid ++ post))
      → Idle (read (opened rates) pre) o.client → Lasts (read (opened rates) (pre ++ (Submit o (Ok due) ∷ []))) mid o.client
      → (rates o.client).p * (read (opened rates) (pre ++ (Submit o (Ok due) ∷ mid))).now
      ≤ (rates o.client).q * units (drop (length ((read (opened rates) pre).account o.client).gone) ((read (opened rates) (pre ++ (Submit o (Ok due) ∷ mid))).account o.client).gone)
      + late o.client + (rates o.client).p * (read (opened rates) pre).now
  -- each departure tells its client's oldest waiting block
  pub oldest_goes : (pre post : List Event) (d : Departure) → es ≡ pre ++ (Slot (Ok (Departed d)) ∷ post)
      → (is : List Entry) × (((read (opened rates) pre).account d.client).waiting ≡ entry_of d ∷ is)
