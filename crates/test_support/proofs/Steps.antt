-- One step more of a list's items, as a loop over a slice takes it.
use Rattle.std.proofs.Common.{ℕ, ◌+◌, ◌<◌, List, length, get_or, take, sym, subst}
use Rattle.std.specs.List.{FoldsTo}
use Rattle.std.proofs.lemmas.Fn.{FoldsTo-push}
use Rattle.std.proofs.lemmas.List.{take_more}

pub step_more : {P A : Type 0} (R : P → A → P → Type 0) (p : P) (xs : List A) (i : ℕ) (d : A) (q r : P) → i < length xs → FoldsTo R p (take i xs) q → R q (get_or xs i d) r → FoldsTo R p (take (i + 1) xs) r
step_more R p xs i d q r low before step = subst (λ ys. FoldsTo R p ys r) (sym (take_more xs i d low)) (FoldsTo-push R p (take i xs) q (get_or xs i d) r before step)
