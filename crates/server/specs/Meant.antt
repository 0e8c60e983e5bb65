-- What a value of a server's type means. Assumes nothing.
use Rattle.server.specs.declared.server.Server.{Ghosts}
use Rattle.server.specs.Meaning.{Meaning}

abbrev pub meant : {S : Type 0} (a : Ghosts S) → S → Meaning
meant a x = a.means (a.state x)
