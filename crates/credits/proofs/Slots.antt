-- A slot and a submission of the server: what they answer and leave, and that the balance is kept.
use Rattle.std.proofs.Common.{◌≡◌, ℕ, ◌<◌, ◌≤◌, Bool, cond, ltb, List, Option, sym, ap, ◌∙◌, subst, lt-ltb}
use mathlib.Core.Logic.{∥∥₁_map, ∥∥₁_map₂}
use Rattle.server.specs.Meaning.{Meaning}
use Rattle.server.specs.Calls.{SlotAnswer, Slotted, submitted}
use Rattle.clients.specs.Held.{Kept}
use Rattle.clients.specs.Serving.{slot_says, slot_leaves}
use Rattle.clients.proofs.Kept.{slot_slotted}
use Rattle.credits.specs.declared.shares.Share.{Share}
use Rattle.credits.specs.Shares.{by_place, served, earned}
use Rattle.credits.specs.Balanced.{Balanced}
use Rattle.credits.specs.Balancing.{balanced_slot, balanced_submitted}

-- a submission, where the balance is known behind a truncation
pub submitted_balanced : (m m' : Meaning) (D : ℕ) (xs : List Share) (c label len : ℕ) → 1 ≤ D → m' ≡ submitted m c label len → ∥ Balanced m D xs ∥₁ → ∥ Balanced m' D xs ∥₁
submitted_balanced m m' D xs c label len some e b =
    ∥∥₁_map b (λ h. subst (λ (v : Meaning). Balanced v D xs) (sym e) (balanced_submitted D m xs c label len some h))

module _ (m m' : Meaning) (who : Option ℕ) (went : m' ≡ slot_leaves m who) where
  pub slot_serves : (r : SlotAnswer) → m.now < 4294967296 → r ≡ slot_says m who → Slotted m r m'
  slot_serves r counted e =
      subst (λ (a : SlotAnswer). Slotted m a m') (sym e) (subst (Slotted m (slot_says m who)) (sym went) (slot_slotted m who counted))

  -- a slot before the counter's end, and the shares that it earns
  module _ (D : ℕ) (xs xs' : List Share) (chose : who ≡ served m D xs) (gained : xs' ≡ by_place (earned m D who) 0 xs) (early : m.now < 4294967295) where
    goes : m' ≡ slot_leaves m (served m D xs)
    goes = went ∙ ap (slot_leaves m) chose

    gains : xs' ≡ cond (ltb m.now 4294967295) (by_place (earned m D (served m D xs)) 0 xs) xs
    gains =
        gained ∙ ap (λ (o : Option ℕ). by_place (earned m D o) 0 xs) chose
        ∙ sym (ap (λ (d : Bool). cond {A = List Share} d (by_place (earned m D (served m D xs)) 0 xs) xs) (lt-ltb m.now 4294967295 early))

    pub slot_balanced : 1 ≤ D → ∥ Kept m ∥₁ → ∥ Balanced m D xs ∥₁ → ∥ Balanced m' D xs' ∥₁
    slot_balanced some kept balanced = ∥∥₁_map₂ kept balanced (λ k b.
        subst (λ (n : Meaning). Balanced n D xs') (sym goes)
        (subst (Balanced (slot_leaves m (served m D xs)) D) (sym gains) (balanced_slot D m some k xs b)))
