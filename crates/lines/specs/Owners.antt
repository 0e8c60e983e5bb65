-- Who owns a slot of a frame. Assumes nothing.
use Rattle.std.specs.Prelude.{ℕ, Option}

-- a client by its number, or nobody
abbrev pub Owner : Type 0
Owner = Option ℕ
