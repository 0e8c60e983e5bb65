-- The bytes of a log. Assumes nothing.
use Rattle.std.specs.Prelude.{ℕ, List, [], ◌∷◌, ◌++◌, Some, None, decimal, Option}
use Rattle.logs.specs.declared.line.Line.{Line}
use Rattle.logs.specs.declared.line.Line.TheVariants.{Latency, Grant, Refusal, Departure}

-- fields behind the letter, each behind a comma, and byte 10 at the end
abbrev pub fields : List (List ℕ) → List ℕ
fields [] = 10 ∷ []
fields (text ∷ texts) = 44 ∷ text ++ fields texts

-- the text of a label, by its kind; a code of no text is left out
abbrev pub label_text : Option (List ℕ) → List ℕ
label_text (Some text) = text
label_text None = []

module _ (writes : ℕ → Option (List ℕ)) where
  -- T, client, latency, slots; G, slot, client, label, due; X, slot, client, label, number; L, slot, client, label
  abbrev pub line_text : Line → List ℕ
  line_text (Latency l) = 84 ∷ fields (decimal l.client ∷ decimal l.latency ∷ decimal l.slots ∷ [])
  line_text (Grant l) = 71 ∷ fields (decimal l.slot ∷ decimal l.client ∷ label_text (writes l.label) ∷ decimal l.due ∷ [])
  line_text (Refusal l) = 88 ∷ fields (decimal l.slot ∷ decimal l.client ∷ label_text (writes l.label) ∷ decimal l.number ∷ [])
  line_text (Departure l) = 76 ∷ fields (decimal l.slot ∷ decimal l.client ∷ label_text (writes l.label) ∷ [])

  -- line after line
  abbrev pub log_text : List Line → List ℕ
  log_text [] = []
  log_text (line ∷ lines) = line_text line ++ log_text lines
