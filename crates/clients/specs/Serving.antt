-- A table of clients: those who come in, and a slot that serves a chosen one. Assumes nothing.
use Rattle.std.specs.Prelude.{ℕ, ◌+◌, Bool, cond, ◌&&◌, List, [], ◌∷◌, length, Some, None, Ok, Err, Option, Result, nat_le, nat_lt}
use Rattle.server.specs.declared.block.Block.{Block}
use Rattle.server.specs.declared.block.Served.{Served}
use Rattle.server.specs.declared.block.Served.TheVariants.{Nothing}
use Rattle.server.specs.declared.refusal.Refusal.TheVariants.{Ended}
use Rattle.server.specs.declared.rate.Rate.{Rate}
use Rattle.server.specs.declared.rate.Terms.{Terms}
use Rattle.server.specs.Meaning.{Meaning}
use Rattle.server.specs.Calls.{SlotAnswer, at, gone, ticked, served_to}
use Rattle.clients.specs.declared.booking.NotAdmitted.{NotAdmitted}
use Rattle.clients.specs.View.{vacant, new_client}

-- ## Coming in

-- a table of no clients at slot 0
abbrev pub no_clients : Meaning
no_clients = record { count = 0; now = 0; client = λ k. new_client vacant }

-- 1 ≤ p ≤ q ≤ 1,024
abbrev pub rate_ok : Rate → Bool
rate_ok x = nat_le 1 x.p && (nat_le x.p x.q && nat_le x.q 1024)

-- and a latency from p to 4,194,304
abbrev pub terms_ok : Terms → Bool
terms_ok x = rate_ok x.rate && (nat_le x.rate.p x.latency && nat_le x.latency 4194304)

-- whether there is a place for a client of these terms
abbrev pub admits : Meaning → Terms → Bool
admits m x = nat_lt m.count 8 && terms_ok x

-- what a client that would come in is answered
abbrev pub admission : Meaning → Terms → Result (Unit {0}) NotAdmitted
admission m x = cond (admits m x) (Ok tt) (Err record {})

-- the client takes the next place
abbrev pub admitted : Meaning → Terms → Meaning
admitted m x =
    cond (admits m x) (record { count = m.count + 1; now = m.now; client = at m.count (λ _. new_client x) m.client }) m

-- ## A slot

-- whether client c has a waiting block
abbrev pub waits : Meaning → ℕ → Bool
waits m c = nat_lt c m.count && nat_lt 0 (length (m.client c).waiting)

-- whom a slot serves: the chosen client, if it has a waiting block
abbrev pub served_client : Meaning → Option ℕ → Option ℕ
served_client m None = None
served_client m (Some c) = cond (waits m c) (Some c) None

-- what goes, and what is left, when nobody or client c is served
abbrev pub gives : Meaning → Option ℕ → Served
gives m None = Nothing
gives m (Some c) = gone c (m.client c).waiting

abbrev pub goes_on : Meaning → Option ℕ → Meaning
goes_on m None = ticked m
goes_on m (Some c) = served_to c m

-- the answer of a slot for the chosen client, and what it leaves; refused at the counter's end
abbrev pub slot_says : Meaning → Option ℕ → SlotAnswer
slot_says m who = cond (nat_lt m.now 4294967295) (Ok (gives m (served_client m who))) (Err Ended)

abbrev pub slot_leaves : Meaning → Option ℕ → Meaning
slot_leaves m who = cond (nat_lt m.now 4294967295) (goes_on m (served_client m who)) m

-- ## A look at the front

-- the oldest of a row of blocks
abbrev pub front_of : List Block → Option Block
front_of [] = None
front_of (b ∷ bs) = Some b

-- client c's oldest waiting block
abbrev pub front_at : Meaning → ℕ → Option Block
front_at m c = cond (nat_lt c m.count) (front_of (m.client c).waiting) None
