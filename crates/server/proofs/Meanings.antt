-- Meanings, client by client.
use Rattle.std.proofs.Common.{◌≡◌, ℕ, Bool, true, false, cond, eqb, ◌≢◌, sym, refl, ap, subst, eq-eqb, ne_eqb, eqb-true}
use mathlib.Core.Path.{fun_ext}
use borrow.Author.Tests.{eqb-false}
use Rattle.server.specs.Meaning.{Client}
use Rattle.server.specs.Calls.{at}

-- what holds of a client after client c was changed: at c it is owed of the change
pub at_elim : (P : Client → Type 0) (c k : ℕ) (f : Client → Client) (xs : ℕ → Client) → (k ≡ c → P (f (xs k))) → (k ≢ c → P (xs k)) → P (at c f xs k)
at_elim P c k f xs here there = by (eqb k c) refl
  where
    by : (t : Bool) → eqb k c ≡ t → P (cond t (f (xs k)) (xs k))
    by true e = here (eqb-true k c e)
    by false e = there (eqb-false k c e)

pub at_here : (c : ℕ) (f : Client → Client) (xs : ℕ → Client) → at c f xs c ≡ f (xs c)
at_here c f xs = ap (λ (t : Bool). cond t (f (xs c)) (xs c)) (eq-eqb c c refl)

pub at_other : (c k : ℕ) (f : Client → Client) (xs : ℕ → Client) → k ≢ c → at c f xs k ≡ xs k
at_other c k f xs ne = ap (λ (t : Bool). cond t (f (xs k)) (xs k)) (ne_eqb k c ne)

-- clients that are changed at c and nowhere else
pub at_is : (c : ℕ) (f : Client → Client) (xs ys : ℕ → Client) → ys c ≡ f (xs c) → ((k : ℕ) → k ≢ c → ys k ≡ xs k) → ys ≡ at c f xs
at_is c f xs ys here there = fun_ext (λ k. by k (eqb k c) refl)
  where
    by : (k : ℕ) (t : Bool) → eqb k c ≡ t → ys k ≡ cond t (f (xs k)) (xs k)
    by k true e = subst (λ (j : ℕ). ys j ≡ f (xs j)) (sym (eqb-true k c e)) here
    by k false e = there k (eqb-false k c e)
