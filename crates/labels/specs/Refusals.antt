-- The number of a label's refusal, and what a written label tells.
use Rattle.std.specs.Prelude.{ℕ, List, Some, None, Ok, Err, Option, Result}
use Rattle.decimal.specs.Texts.{text_of}
use Rattle.decimal.specs.declared.text.Text.{Text}
use Rattle.labels.specs.declared.refusal.LabelRefusal.TheVariants.{NoText}
use Rattle.labels.specs.declared.refusal.LabelRefusal.{LabelRefusal}

-- a code that no text reads into is turned away with 17
abbrev pub refusal_number : LabelRefusal → ℕ
refusal_number NoText = 17

-- the bytes of a label that was written, or none where it was turned away
abbrev pub told : Result Text LabelRefusal → Option (List ℕ)
told (Ok text) = Some (text_of text)
told (Err refusal) = None
