-- The rate that a client's line asks for.
use Rattle.std.specs.Prelude.{min}
use Rattle.server.specs.declared.rate.Rate.{Rate}
use Rattle.lines.specs.declared.records.Client.{Client}

-- the rate of a client's line; numbers past 16 bits are out of range as the largest is
abbrev pub line_rate : Client → Rate
line_rate c = record { p = min c.units 65535; q = min c.slots 65535 }
