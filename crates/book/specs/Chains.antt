-- What a chain of two named servers answers and leaves, call after call. Assumes nothing.
use Rattle.std.specs.Prelude.{◌≡◌, List}
use Rattle.server.specs.declared.server.Server.{Ghosts}
use Rattle.join.specs.Joint.{Joint, means_of, joint, begun}
use Rattle.book.specs.declared.calls.Call.{Call}
use Rattle.book.specs.declared.calls.Event.{Event}
use Rattle.book.specs.Runs.{history, ending}

-- the events and the last state of the chain begun from these two states
abbrev pub Exactly : {A B : Type 0} (a : Ghosts A) (b : Ghosts B) → a.State → b.State → List Call → List Event → Joint a.State b.State → Type 0
Exactly a b x y calls events end =
    (events ≡ history (means_of a.means b.means) (joint a.means b.means a.machine b.machine) (begun a.means b.means x y) calls)
    × (end ≡ ending (means_of a.means b.means) (joint a.means b.means a.machine b.machine) (begun a.means b.means x y) calls)
