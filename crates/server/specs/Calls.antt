-- What each call of a server answers and what it makes of the meaning. Assumes nothing.
use Rattle.std.specs.Prelude.{◌≡◌, ℕ, ◌+◌, ◌-◌, ◌*◌, ◌/◌, ◌<◌, min, max, Bool, cond, ◌&&◌, List, [], ◌∷◌, ◌++◌, length, Ok, Err, Result, ◌==◌, nat_le, nat_lt}
use Rattle.server.specs.declared.block.Block.{Block}
use Rattle.server.specs.declared.block.Served.{Served}
use Rattle.server.specs.declared.block.Served.TheVariants.{Nothing, Unit as OneUnit, Departed}
use Rattle.server.specs.declared.rate.Terms.{Terms}
use Rattle.server.specs.declared.refusal.Refusal.{Refusal}
use Rattle.server.specs.declared.refusal.Refusal.TheVariants.{NoClient, BadLength, Full, Ended}
use Rattle.server.specs.declared.view.View.{View}
use Rattle.server.specs.Meaning.{Client, Meaning}

-- the due of a granted block, or a refusal
abbrev pub DueAnswer : Type 0
DueAnswer = Result ℕ Refusal

-- what a slot served, or a refusal
abbrev pub SlotAnswer : Type 0
SlotAnswer = Result Served Refusal

-- ## Questions

-- what a question about one client answers: refused where there is no such client
abbrev pub asked : {R : Type 0} → Meaning → ℕ → (Client → R) → Result R Refusal
asked m c f = cond (nat_lt c m.count) (Ok (f (m.client c))) (Err NoClient)

-- what is told of a client
abbrev pub view_of : Client → View
view_of x = record { terms = x.terms; clock = x.clock; waiting = length x.waiting }

-- ## Submission

-- the start of a block that comes now: the clock, or the present tick if that is later
abbrev pub start_at : ℕ → Client → ℕ
start_at t x = max (x.terms.rate.p * t) x.clock

-- the slot by which a block of this start has left
abbrev pub due_of : Client → ℕ → ℕ
due_of x start = (start + x.terms.latency) / x.terms.rate.p

-- the same as 64 bits hold it: the sum is cut where they end, which no server reaches
abbrev pub due_within : Terms → ℕ → ℕ
due_within x start = min (start + x.latency) 18446744073709551615 / x.rate.p

-- a latency in slots, rounded up
abbrev pub slots_of : Terms → ℕ
slots_of x = (x.latency + (x.rate.p - 1)) / x.rate.p

-- the block that enters
abbrev pub new_block : ℕ → Client → ℕ → ℕ → Block
new_block t x label len = record { label = label; length = len; left = len; start = start_at t x }

-- the client with the block last in its row, and its clock moved
abbrev pub entered : ℕ → ℕ → ℕ → Client → Client
entered t label len x = record {
  terms = x.terms;
  clock = start_at t x + x.terms.rate.q * len;
  waiting = x.waiting ++ (new_block t x label len ∷ []);
}

-- a length of 1 to 16 units
abbrev pub length_ok : ℕ → Bool
length_ok len = nat_lt 0 len && nat_le len 16

-- whether a block of this length may come in for a client of this view, or the first cause against it
abbrev pub accepting : View → ℕ → Result (Unit {0}) Refusal
accepting v len = cond (length_ok len) (cond (nat_lt v.waiting 8) (Ok tt) (Err Full)) (Err BadLength)

-- what a submission answers: the due, or the first cause that holds
abbrev pub granting : Meaning → ℕ → ℕ → DueAnswer
granting m c len =
    cond (nat_lt c m.count)
    (cond (length_ok len)
    (cond (nat_lt (length (m.client c).waiting) 8)
    (Ok (due_of (m.client c) (start_at m.now (m.client c))))
    (Err Full))
    (Err BadLength))
    (Err NoClient)

-- whether a submission is granted
abbrev pub granted : Meaning → ℕ → ℕ → Bool
granted m c len = nat_lt c m.count && (length_ok len && nat_lt (length (m.client c).waiting) 8)

-- all clients, with client c changed
abbrev pub at : ℕ → (Client → Client) → (ℕ → Client) → ℕ → Client
at c f xs k = cond (k == c) (f (xs k)) (xs k)

-- the meaning after a submission: the block entered, or nothing changed
abbrev pub submitted : Meaning → ℕ → ℕ → ℕ → Meaning
submitted m c label len =
    cond (granted m c len)
    (record { count = m.count; now = m.now; client = at c (entered m.now label len) m.client })
    m

-- ## Slot

-- a block with one unit less
abbrev pub one_less : Block → Block
one_less b = record { label = b.label; length = b.length; left = b.left - 1; start = b.start }

-- a row of blocks after one unit of its front went
abbrev pub served : List Block → List Block
served [] = []
served (b ∷ bs) = cond (nat_le b.left 1) bs (one_less b ∷ bs)

-- the answer when one unit of the front of client c's row goes
abbrev pub gone : ℕ → List Block → Served
gone c [] = Nothing
gone c (b ∷ bs) =
    cond (nat_le b.left 1)
    (Departed (record { client = c; label = b.label; length = b.length; start = b.start }))
    (OneUnit c)

-- the client after a unit of it went
abbrev pub serve : Client → Client
serve x = record { terms = x.terms; clock = x.clock; waiting = served x.waiting }

-- one slot later, nothing gone
abbrev pub ticked : Meaning → Meaning
ticked m = record { count = m.count; now = m.now + 1; client = m.client }

-- one slot later, a unit of client c gone
abbrev pub served_to : ℕ → Meaning → Meaning
served_to c m = record { count = m.count; now = m.now + 1; client = at c serve m.client }

-- a slot that serves client c, which has a waiting block
pub record Serves (m : Meaning) (c : ℕ) (s : Served) (m' : Meaning) : Type 0 where
  pub known : c < m.count
  pub waits : 0 < length (m.client c).waiting
  pub says : s ≡ gone c (m.client c).waiting
  pub leaves : m' ≡ served_to c m

-- what a slot may do; whom it serves is left open
abbrev pub Went : Meaning → Served → Meaning → Type 0
Went m Nothing m' = m' ≡ ticked m
Went m (OneUnit c) m' = Serves m c (OneUnit c) m'
Went m (Departed d) m' = Serves m d.client (Departed d) m'

-- the slot call: refused, with nothing changed, only where the counter is at its end
abbrev pub Slotted : Meaning → SlotAnswer → Meaning → Type 0
Slotted m (Ok s) m' = (m.now < 4294967295) × Went m s m'
Slotted m (Err e) m' = (m.now ≡ 4294967295) × (e ≡ Ended) × (m' ≡ m)
