-- What the table of clients means. Assumes nothing.
use Rattle.std.specs.Prelude.{ℕ, List, [], length, map, slice_index_or}
use Rattle.server.specs.declared.rate.Terms.{Terms}
use Rattle.server.specs.Meaning.{Client, Meaning}
use Rattle.tables.specs.declared.table.Table.{Table}
use Rattle.tables.specs.Tables.{listed}
use Rattle.clients.specs.declared.lane.Lane.{Lane}

-- the terms of a place that nobody has taken
abbrev pub vacant : Terms
vacant = record { rate = record { p = 0; q = 0 }; latency = 0 }

-- a client of these terms, with nothing waiting
abbrev pub new_client : Terms → Client
new_client x = record { terms = x; clock = 0; waiting = [] }

-- one client
abbrev pub client_of : Lane → Client
client_of l = record { terms = l.terms; clock = l.clock; waiting = listed l.queue }

-- the client at place k
abbrev pub client_in : List Lane → ℕ → Client
client_in ls k = slice_index_or (map client_of ls) k (new_client vacant)

-- the clients of the taken places, at slot t
abbrev pub viewed : {N : ℕ} → ℕ → Table Lane N → Meaning
viewed t ls = record { count = length (listed ls); now = t; client = client_in (listed ls) }
