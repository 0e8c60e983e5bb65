-- What a run of slots and a table of submissions say of a server that is known by equality. Assumes nothing.
use Rattle.std.specs.Prelude.{◌≡◌, ℕ, cond, ◌==◌, List, Ok, Err, Result}
use Rattle.std.specs.List.{FoldsTo}
use Rattle.server.specs.Calls.{DueAnswer, granting}
use Rattle.server.specs.Machine.{Machine}
use Rattle.server.specs.Meaning.{Meaning}
use Rattle.server.specs.Refusals.{number_of}
use Rattle.test_support.specs.declared.submission.Submission.{Submission}
use Rattle.test_support.specs.Letters.{letter_of}

-- the answer to a submission, with a refusal by its number
abbrev pub numbered : DueAnswer → Result ℕ ℕ
numbered (Ok due) = Ok due
numbered (Err refusal) = Err (number_of refusal)

-- a row that comes at this slot is answered as it says and entered; any other leaves the state
pub record Submits {S : Type 0} (means : S → Meaning) (m : Machine S) (slot : ℕ) (s : S) (row : Submission) (s' : S) : Type 0 where
  pub answered : row.slot ≡ slot → numbered (granting (means s) row.client row.length) ≡ row.answer
  pub leaves : s' ≡ cond (row.slot == slot) (m.enter s row.client slot row.length) s

-- the rows of a table that come at the present slot
abbrev pub SubmitsAll : {S : Type 0} → (S → Meaning) → Machine S → List Submission → S → S → Type 0
SubmitsAll means m table s s' = FoldsTo (Submits means m (means s).now) s table s'

-- a slot that tells this letter, after the rows that come at it
pub record Turns {S : Type 0} (means : S → Meaning) (m : Machine S) (table : List Submission) (s : S) (letter : ℕ) (s' : S) : Type 0 where
  pub before : S
  pub submits : SubmitsAll means m table s before
  pub tells : letter_of (m.says before) ≡ letter
  pub leaves : s' ≡ m.next before

-- a slot for each letter of a run
abbrev pub Plays : {S : Type 0} → (S → Meaning) → Machine S → List Submission → List ℕ → S → S → Type 0
Plays means m table run s s' = FoldsTo (Turns means m table) s run s'
