-- The rows of starts as lists, and what a write to one row makes of them.
use Rattle.std.proofs.Common.{◌≡◌, ℕ, zero, suc, ◌<◌, ◌≤◌, Bool, true, false, cond, eqb, leb, ◌+◌, List, [], ◌∷◌, ◌++◌, map, length, get_or, set, All, sym, refl, ap, ◌∙◌, subst, arith, lt-ltb, eqb-true}
use mathlib.Core.Path.{fun_ext}
use lib.ListN.{length-map}
use lib.Seq.{map-set}
use borrow.Author.Tests.{eqb-false}
use Rattle.std.proofs.lemmas.List.{get_or-map, get_or-set_same, get_or-set_other, get_or_past}
use Rattle.tables.specs.declared.table.Table.{Table}
use Rattle.tables.specs.Tables.{listed, extended}
use Rattle.join.specs.Starts.{at_row, pushed, put_in, starts_of}

-- ## One row

pub pushed_row : (v w : List ℕ) (s : ℕ) → w ≡ extended 8 v (s ∷ []) → w ≡ pushed s v
pushed_row v w s e =
    let n : length v + 1 ≡ suc (length v) = omega arith in
    e ∙ ap (λ (k : ℕ). cond (leb k 8) (v ++ (s ∷ [])) v) n

-- ## All rows

module _ {N : ℕ} (rs : List (Table ℕ N)) (c : ℕ) where
  pub row_at : (d : Table ℕ N) → c < length rs → starts_of rs c ≡ listed (get_or rs c d)
  row_at d l = get_or-map listed rs c d [] l

  pub rows_put : (r d : Table ℕ N) (f : List ℕ → List ℕ) → c < length rs → listed r ≡ f (listed (get_or rs c d)) → starts_of (set rs c r) ≡ at_row c f (starts_of rs)
  rows_put r d f l e = fun_ext (λ k. by k (eqb k c) refl)
    where
      here : starts_of (set rs c r) c ≡ f (starts_of rs c)
      here = ap (λ (xs : List (List ℕ)). get_or xs c []) (map-set listed rs c r) ∙ get_or-set_same (map listed rs) c (listed r) [] (omega (arith, l, length-map rs listed)) ∙ e ∙ ap f (sym (row_at d l))

      by : (k : ℕ) (t : Bool) → eqb k c ≡ t → starts_of (set rs c r) k ≡ cond t (f (starts_of rs k)) (starts_of rs k)
      by k true t = subst (λ (j : ℕ). starts_of (set rs c r) j ≡ f (starts_of rs j)) (sym (eqb-true k c t)) here
      by k false t = ap (λ (xs : List (List ℕ)). get_or xs k []) (map-set listed rs c r) ∙ get_or-set_other (map listed rs) c k (listed r) [] (eqb-false k c t)

  -- nobody's row is empty
  pub no_row : length rs ≤ c → starts_of rs c ≡ []
  no_row l = get_or_past (map listed rs) c [] (omega (arith, l, length-map rs listed))

-- rows of which each is empty
pub no_rows : {N : ℕ} (rs : List (Table ℕ N)) → All (λ r. listed r ≡ []) rs → starts_of rs ≡ (λ k. [])
no_rows {N} rs e = fun_ext (by rs e)
  where
    by : (rs : List (Table ℕ N)) → All (λ r. listed r ≡ []) rs → (k : ℕ) → starts_of rs k ≡ []
    by [] e k = refl
    by (r ∷ rs) e zero = e 0 r (omega arith)
    by (r ∷ rs) e (suc k) = by rs (λ j d h. e (suc j) d (omega (arith, h))) k

pub same_row : (ss : ℕ → List ℕ) (c : ℕ) (f : List ℕ → List ℕ) → f (ss c) ≡ ss c → ss ≡ at_row c f ss
same_row ss c f e = fun_ext (λ k. by k (eqb k c) refl)
  where
    by : (k : ℕ) (t : Bool) → eqb k c ≡ t → ss k ≡ cond t (f (ss k)) (ss k)
    by k true t = subst (λ (j : ℕ). ss j ≡ f (ss j)) (sym (eqb-true k c t)) (sym e)
    by k false t = refl

pub put_known : (ss ss' : ℕ → List ℕ) (c s : ℕ) → c < 8 → ss' ≡ at_row c (pushed s) ss → ss' ≡ put_in c s ss
put_known ss ss' c s l e = e ∙ sym (ap (λ (b : Bool). cond {A = ℕ → List ℕ} b (at_row c (pushed s) ss) ss) (lt-ltb c 8 l))
