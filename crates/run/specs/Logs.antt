-- The lines of a log: what is written of a server's calls and answers. Assumes nothing.
use Rattle.std.specs.Prelude.{ℕ, zero, suc, ◌+◌, ◌-◌, ◌/◌, List, [], ◌∷◌, ◌++◌, Some, None, Ok, Err, Option}
use Rattle.server.specs.Meaning.{Client, Meaning}
use Rattle.server.specs.Refusals.{number_of}
use Rattle.server.specs.declared.block.Served.TheVariants.{Nothing, Unit as OneUnit, Departed}
use Rattle.book.specs.declared.calls.Event.{Event}
use Rattle.book.specs.declared.calls.Event.TheVariants.{Submit, Slot, Ask}
use Rattle.logs.specs.declared.line.Line.{Line}
use Rattle.logs.specs.declared.line.Line.TheVariants.{Latency, Grant, Refusal, Departure}

-- the slot after an event
abbrev pub after : ℕ → Event → ℕ
after t (Submit o r) = t
after t (Slot (Ok s)) = t + 1
after t (Slot (Err e)) = t
after t (Ask q a) = t

-- what is written of an event that leaves the server at slot t
abbrev pub line_of : ℕ → Event → Option Line
line_of t (Submit o (Ok due)) = Some (Grant (record { slot = t; client = o.client; label = o.label; due = due }))
line_of t (Submit o (Err e)) = Some (Refusal (record { slot = t; client = o.client; label = o.label; number = number_of e }))
line_of t (Slot (Ok Nothing)) = None
line_of t (Slot (Ok (OneUnit c))) = None
line_of t (Slot (Ok (Departed d))) = Some (Departure (record { slot = t; client = d.client; label = d.label }))
line_of t (Slot (Err e)) = None
line_of t (Ask q a) = None

abbrev pub list_of : Option Line → List Line
list_of None = []
list_of (Some line) = line ∷ []

-- of events from slot t on
abbrev pub lines_from : ℕ → List Event → List Line
lines_from t [] = []
lines_from t (e ∷ es) = list_of (line_of (after t e) e) ++ lines_from (after t e) es

-- a client's latency in ticks, and in slots rounded up
abbrev pub latency_line : ℕ → Client → Line
latency_line c x = Latency (record { client = c; latency = x.terms.latency; slots = (x.terms.latency + (x.terms.rate.p - 1)) / x.terms.rate.p })

-- of the first n clients
abbrev pub latency_lines : Meaning → ℕ → List Line
latency_lines m zero = []
latency_lines m (suc n) = latency_lines m n ++ (latency_line n (m.client n) ∷ [])

-- of all clients, and then of the events
abbrev pub log_of : Meaning → List Event → List Line
log_of m es = latency_lines m m.count ++ lines_from m.now es
