-- What a run is: calls made of a server, and the lines of a journal of at most 1,208. Assumes nothing.
use Rattle.std.specs.Prelude.{◌≡◌, List, ◌++◌, map, take}
use Rattle.server.specs.declared.server.Server.{Ghosts}
use Rattle.book.specs.declared.calls.Call.{Call}
use Rattle.book.specs.declared.calls.Event.{Event}
use Rattle.book.specs.Runs.{call_of, Run, history, ending}
use Rattle.logs.specs.declared.line.Line.{Line}
use Rattle.run.specs.Logs.{lines_from}

-- these calls lead from one server to another, and what they make is written behind what was there
pub record Ran {S : Type 0} (a : Ghosts S) (x : S) (calls : List Call) (y : S) (old new : List Line) : Type 0 where
  pub events : List Event
  pub of : map call_of events ≡ calls
  pub run : Run (a.means (a.state x)) events (a.means (a.state y))
  pub exactly : a.named → (events ≡ history a.means a.machine (a.state x) calls) × (a.state y ≡ ending a.means a.machine (a.state x) calls)
  pub lines : (all : List Line) → old ≡ take 1208 all → new ≡ take 1208 (all ++ lines_from (a.means (a.state x)).now events)
