-- The loop of the test whether two servers fit.
use Rattle.std.proofs.Common.{◌≡◌, ℕ, ◌+◌, Bool, true, false, ◌&&◌, sym, refl, ap, ◌∙◌, add-one}
use Rattle.server.specs.declared.view.View.{View}
use Rattle.server.specs.Meaning.{Meaning}
use Rattle.server.specs.Calls.{view_of}
use Rattle.join.specs.Fit.{all_below}

-- a test of the clients below i
abbrev pub up_to : ℕ → (View → View → Bool) → Meaning → Meaning → Bool
up_to i test m n = all_below i (λ k. test (view_of (m.client k)) (view_of (n.client k)))

and_assoc : (a b d : Bool) → (a && b) && d ≡ a && (b && d)
and_assoc true b d = refl
and_assoc false b d = refl

-- one client more
pub more : (i : ℕ) (test : View → View → Bool) (m n : Meaning) (z flag r : Bool) (a b : View) → flag ≡ (z && up_to i test m n) → a ≡ view_of (m.client i) → b ≡ view_of (n.client i) → r ≡ test a b → (flag && r) ≡ (z && up_to (i + 1) test m n)
more i test m n z flag r a b e ea eb er =
    ap (λ (f : Bool). f && r) e ∙ ap (λ (s : Bool). (z && up_to i test m n) && s) (er ∙ ap (λ (v : View). test v b) ea ∙ ap (test (view_of (m.client i))) eb)
    ∙ and_assoc z (up_to i test m n) (test (view_of (m.client i)) (view_of (n.client i)))
    ∙ ap (λ (k : ℕ). z && up_to k test m n) (sym (add-one i))
