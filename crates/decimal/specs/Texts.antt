-- The bytes of a small text.
use Rattle.std.specs.Prelude.{ℕ, List}
use Rattle.decimal.specs.declared.text.Text.{Text}
use Rattle.tables.specs.Tables.{listed}

-- the bytes of a text
abbrev pub text_of : Text → List ℕ
text_of t = listed t.bytes
