-- What becomes of a row at a slot, where it comes at that slot and where it does not.
use Rattle.std.proofs.Common.{◌≡◌, ◌≢◌, ℕ, sym, subst, arith}
use Rattle.server.specs.Machine.{Machine}
use Rattle.server.specs.Meaning.{Meaning}
use Rattle.test_support.specs.Runs.{Submits}
use Rattle.test_support.specs.declared.submission.Submission.{Submission}

pub submitted : {S : Type 0} (means : S → Meaning) (m : Machine S) (slot : ℕ) (s : S) (row : Submission) (s' t : S) → row.slot ≡ slot → Submits means m row.slot s row s' → t ≡ s' → Submits means m slot s row t
submitted means m slot s row s' t here step same = subst (λ q. Submits means m slot s row q) (sym same) (subst (λ at. Submits means m at s row s') here step)

pub passed_by : {S : Type 0} (means : S → Meaning) (m : Machine S) (slot : ℕ) (s : S) (row : Submission) (t : S) → row.slot ≢ slot → t ≡ s → Submits means m slot s row t
passed_by means m slot s row t elsewhere same = record { answered = λ here. absurd (elsewhere here); leaves = grind arith }
