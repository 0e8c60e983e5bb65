use Rattle.std.proofs.Common.{◌≡◌, ◌++◌, take, drop}
use Rattle.clients.specs.Meant.{meaning}
use Rattle.credits.specs.Shares.{by_place, earned}
use Rattle.credits.proofs.earning.earn.Given as goal

-- the clients so far have earned, the others are as they were
abbrev pub invariant-loop-place : goal.invariant-loop-place
invariant-loop-place l =
    (l.shares.count ≡ l.initial.shares.count)
    × (l.shares.items ≡ by_place (earned (meaning l.clients) l.denominator l.who) 0 (take l.place l.initial.shares.items) ++ drop l.place l.initial.shares.items)
