-- The meaning of a table of clients. Assumes nothing.
use Rattle.server.specs.Meaning.{Meaning}
use Rattle.clients.specs.declared.table.Clients.{Clients}
use Rattle.clients.specs.View.{viewed}

abbrev pub meaning : Clients → Meaning
meaning x = viewed x.slots x.lanes
