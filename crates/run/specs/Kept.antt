-- What a log promises: each client's blocks depart in the order of their grants, by their dues. Assumes nothing.
use Rattle.std.specs.Prelude.{◌≡◌, ℕ, ◌<◌, ◌≤◌, cond, List, [], ◌∷◌, ◌==◌}
use Rattle.logs.specs.declared.line.GrantLine.{GrantLine}
use Rattle.logs.specs.declared.line.DepartureLine.{DepartureLine}
use Rattle.logs.specs.declared.line.Line.{Line}
use Rattle.logs.specs.declared.line.Line.TheVariants.{Latency, Grant, Refusal, Departure}

-- the grants of client k, in their order
abbrev pub grants_of : ℕ → List Line → List GrantLine
grants_of k [] = []
grants_of k (Latency l ∷ ls) = grants_of k ls
grants_of k (Grant g ∷ ls) = cond (k == g.client) (g ∷ grants_of k ls) (grants_of k ls)
grants_of k (Refusal l ∷ ls) = grants_of k ls
grants_of k (Departure d ∷ ls) = grants_of k ls

-- the departures of client k, in their order
abbrev pub departures_of : ℕ → List Line → List DepartureLine
departures_of k [] = []
departures_of k (Latency l ∷ ls) = departures_of k ls
departures_of k (Grant g ∷ ls) = departures_of k ls
departures_of k (Refusal l ∷ ls) = departures_of k ls
departures_of k (Departure d ∷ ls) = cond (k == d.client) (d ∷ departures_of k ls) (departures_of k ls)

-- one by one: a departure has the label of its grant and is not past its due; a grant without one is due after the end
abbrev pub InTime : ℕ → List GrantLine → List DepartureLine → Type 0
InTime end [] [] = Unit {0}
InTime end [] (d ∷ ds) = ⊥
InTime end (g ∷ gs) [] = (end < g.due) × InTime end gs []
InTime end (g ∷ gs) (d ∷ ds) = (d.label ≡ g.label) × (d.slot ≤ g.due) × InTime end gs ds

-- for every client, up to the end slot
abbrev pub LogKept : ℕ → List Line → Type 0
LogKept end lines = (k : ℕ) → InTime end (grants_of k lines) (departures_of k lines)
