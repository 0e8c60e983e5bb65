-- What stands before the first mark is the first part, and what stands behind it holds the others.
use Rattle.std.proofs.Common.{◌≡◌, ℕ, suc, ◌+◌, ◌<◌, ◌≤◌, true, false, not, cond, eqb, List, [], ◌∷◌, ◌++◌, length, get_or, ap, ◌∙◌, arith}
use Rattle.marks.specs.Marks.{span_to, before, behind, parts}
use Rattle.std.proofs.lemmas.Bool.{eqb-true}
use Rattle.std.proofs.lemmas.List.Splits.{length-slice_split, slice_split_none, slice_split_first}
use Rattle.std.proofs.lemmas.List.Sums.{prefix_len-le-length, split_at_first, passes_at_first, fails_before_first}

module _ (m b : ℕ) (bs : List ℕ) where
  pub span_here : eqb b m ≡ true → span_to m (b ∷ bs) ≡ 0
  span_here e = ap (λ t. cond (not t) (1 + span_to m bs) 0) e

  pub span_pass : eqb b m ≡ false → span_to m (b ∷ bs) ≡ suc (span_to m bs)
  span_pass e = omega (arith, ap (λ t. cond (not t) (1 + span_to m bs) 0) e)

-- the search never passes the end
pub span_le : (m : ℕ) (bs : List ℕ) → span_to m bs ≤ length bs
span_le m bs = prefix_len-le-length (λ b. not (eqb b m)) bs

-- a text with a mark is what stands before it, the mark, and what stands behind it
pub whole : (m : ℕ) (bs : List ℕ) → span_to m bs < length bs → bs ≡ before m bs ++ m ∷ behind m bs
whole m bs h =
    split_at_first (λ b. eqb b m) bs 0 h
    ∙ ap (λ b. before m bs ++ b ∷ behind m bs) (eqb-true (get_or bs (span_to m bs) 0) m (passes_at_first (λ b. eqb b m) bs 0 h))

-- there is always a part
pub parts_some : (m : ℕ) (bs : List ℕ) → 0 < length (parts m bs)
parts_some m bs = omega (arith, length-slice_split (λ b. eqb b m) bs)

-- a text without a mark is its one part
pub parts_all : (m : ℕ) (bs : List ℕ) → length bs ≤ span_to m bs → parts m bs ≡ bs ∷ []
parts_all m bs h = slice_split_none (λ b. eqb b m) bs (λ k d here. fails_before_first (λ b. eqb b m) bs k d (omega (arith, h, here)))

-- a text with a mark has the part before it, and then the parts of what stands behind it
pub parts_more : (m : ℕ) (bs : List ℕ) → span_to m bs < length bs → parts m bs ≡ before m bs ∷ parts m (behind m bs)
parts_more m bs h = slice_split_first (λ b. eqb b m) bs 0 h
