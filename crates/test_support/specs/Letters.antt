-- The letter that tells what a slot served. Assumes nothing.
use Rattle.std.specs.Prelude.{ℕ, ◌+◌, min, Ok, Err}
use Rattle.server.specs.declared.block.Served.TheVariants.{Nothing, Unit as OneUnit, Departed}
use Rattle.server.specs.Calls.{SlotAnswer}

-- '.' for nothing, '0' and up for a unit of a client, 'A' and up for a block's last, '!' for a refusal
abbrev pub letter_of : SlotAnswer → ℕ
letter_of (Ok Nothing) = 46
letter_of (Ok (OneUnit client)) = min (48 + client) 255
letter_of (Ok (Departed block)) = min (65 + block.client) 255
letter_of (Err refusal) = 33
