use Rattle.std.proofs.Common.{◌≡◌, take}
use Rattle.tables.specs.Tables.{listed}
use Rattle.clients.specs.Meant.{meaning}
use Rattle.credits.specs.Shares.{by_place, byte_of, eligible}
use Rattle.credits.proofs.credit_server.CreditServer.eligible.Given as goal

-- the byte of the clients so far
abbrev pub invariant-loop-place : goal.invariant-loop-place
invariant-loop-place l = l.byte ≡ byte_of (by_place (eligible (meaning l.self.clients) l.self.denominator) 0 (take l.place (listed l.self.shares)))
