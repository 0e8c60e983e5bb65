-- What a server's calls are to its meaning, and runs of them. Assumes nothing.
use Rattle.std.specs.Prelude.{◌≡◌, ℕ, min, List, [], ◌∷◌, length}
use Rattle.server.specs.Meaning.{Meaning}
use Rattle.server.specs.Calls.{asked, granting, submitted, Slotted}
use Rattle.server.specs.Laws.{Lawful}
use Rattle.server.specs.Machine.{Machine}
use Rattle.book.specs.declared.calls.Call.{Call}
use Rattle.book.specs.declared.calls.Call.TheVariants.{Submit as DoSubmit, Slot as DoSlot, Ask as DoAsk}
use Rattle.book.specs.declared.calls.Event.{Event}
use Rattle.book.specs.declared.calls.Event.TheVariants.{Submit, Slot, Ask}
use Rattle.book.specs.declared.calls.Question.{Question}
use Rattle.book.specs.declared.calls.Question.TheVariants.{Clients, Now, Rate, Latency, Clock, Waiting}
use Rattle.book.specs.declared.calls.Reply.{Reply}
use Rattle.book.specs.declared.calls.Reply.TheVariants.{Clients as TellsClients, Now as TellsNow, Rate as TellsRate, Latency as TellsLatency, Clock as TellsClock, Waiting as TellsWaiting}

-- the call of an event
abbrev pub call_of : Event → Call
call_of (Submit o r) = DoSubmit o
call_of (Slot r) = DoSlot
call_of (Ask q a) = DoAsk q

-- how many calls are made: all, or as many as there is room for
abbrev pub made : List Call → List Event → ℕ
made calls room = min (length calls) (length room)

-- what a question is answered
abbrev pub reply : Meaning → Question → Reply
reply m Clients = TellsClients m.count
reply m Now = TellsNow m.now
reply m (Rate c) = TellsRate (asked m c (λ x. x.terms.rate))
reply m (Latency c) = TellsLatency (asked m c (λ x. x.terms.latency))
reply m (Clock c) = TellsClock (asked m c (λ x. x.clock))
reply m (Waiting c) = TellsWaiting (asked m c (λ x. length x.waiting))

-- a call with its answer leads from one meaning to the next
abbrev pub Takes : Meaning → Event → Meaning → Type 0
Takes m (Submit o r) m' = (r ≡ granting m o.client o.length) × (m' ≡ submitted m o.client o.label o.length)
Takes m (Slot r) m' = Slotted m r m'
Takes m (Ask q a) m' = (a ≡ reply m q) × (m' ≡ m)

-- lawful meanings, from call to call
abbrev pub Run : Meaning → List Event → Meaning → Type 0
Run m [] m' = Lawful m × (m' ≡ m)
Run m (e ∷ es) m'' = Lawful m × ((m' : Meaning) × Takes m e m' × Run m' es m'')

-- ## A named server

module _ {S : Type 0} (means : S → Meaning) (M : Machine S) where
  -- the event that a call makes, and the state that it leads to
  abbrev pub happens : S → Call → Event
  happens s (DoSubmit o) = Submit o (granting (means s) o.client o.length)
  happens s DoSlot = Slot (M.says s)
  happens s (DoAsk q) = Ask q (reply (means s) q)

  abbrev pub leads : S → Call → S
  leads s (DoSubmit o) = M.enter s o.client o.label o.length
  leads s DoSlot = M.next s
  leads s (DoAsk q) = s

  -- call after call
  abbrev pub history : S → List Call → List Event
  history s [] = []
  history s (c ∷ cs) = happens s c ∷ history (leads s c) cs

  abbrev pub ending : S → List Call → S
  ending s [] = s
  ending s (c ∷ cs) = ending (leads s c) cs
