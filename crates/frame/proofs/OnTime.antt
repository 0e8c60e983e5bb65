-- A reservation keeps a frame's server unused; a reservation, a submission and a slot keep its clients on time.
use Rattle.std.proofs.Common.{◌≡◌, ℕ, ◌*◌, ◌≤◌, true, List, length, Ok, Option, sym, ap, ◌∙◌, subst, arith, leb-true}
use Rattle.std.proofs.Math.Logic.{∥∥₁_map, ∥∥₁_map₂}
use Rattle.server.specs.declared.rate.Rate.{Rate}
use Rattle.server.specs.declared.rate.Terms.{Terms}
use Rattle.server.specs.Meaning.{Meaning}
use Rattle.server.specs.Calls.{submitted}
use Rattle.server.specs.Laws.{Unused}
use Rattle.clients.specs.Held.{Kept}
use Rattle.clients.specs.Serving.{rate_ok, admitted, slot_leaves}
use Rattle.clients.proofs.Kept.{unused_admitted}
use Rattle.frame.specs.Frames.{owner_at, owned}
use Rattle.frame.specs.Paced.{Paced}
use Rattle.frame.specs.Pacing.{paced_admitted, paced_submitted, paced_slot}
use Rattle.frame.specs.States.{State, carries, next_terms, terms_say}

pub reserve_unused : (m m' : Meaning) (t : Terms) → ∥ Unused m ∥₁ → m' ≡ admitted m t → ∥ Unused m' ∥₁
reserve_unused m m' t unused leaves = ∥∥₁_map unused (λ u. subst Unused (sym leaves) (unused_admitted m t u))

-- who is told terms has a rate in range, and slots that carry it
told : (s : State) (x : Rate) (t : Terms) → Ok t ≡ terms_say s x → (rate_ok x ≡ true) × (carries s x ≡ true) × (t ≡ next_terms s x)
told s x t said = grind arith

module _ (m m' : Meaning) (os : List (Option ℕ)) (some : 1 ≤ length os) (paced : ∥ Paced m os ∥₁) where
  -- a call that leaves m'
  kept_by : {n : Meaning} → m' ≡ n → (Paced m os → Paced n os) → ∥ Paced m' os ∥₁
  kept_by e f = ∥∥₁_map paced (λ h. subst (λ (n : Meaning). Paced n os) (sym e) (f h))

  pub reserve_paced : (x : Rate) (t : Terms) → Ok t ≡ terms_say (record { clients = m; owners = os }) x → m' ≡ admitted m t → ∥ Paced m' os ∥₁
  reserve_paced x t said leaves =
      let r = told (record { clients = m; owners = os }) x t said in
      kept_by (leaves ∙ ap (admitted m) r.2) (paced_admitted m os some x r.0 (leb-true (x.p * length os) (owned m.count os * x.q) r.1))

  pub submit_paced : (c label len : ℕ) → m' ≡ submitted m c label len → ∥ Paced m' os ∥₁
  submit_paced c label len leaves = kept_by leaves (paced_submitted m os some c label len)

  pub slot_paced : (t : ℕ) (o : Option ℕ) → ∥ Kept m ∥₁ → t ≡ m.now → o ≡ owner_at os t → m' ≡ slot_leaves m o → ∥ Paced m' os ∥₁
  slot_paced t o kept now owner leaves = ∥∥₁_map₂ kept paced (λ k h. subst (λ (n : Meaning). Paced n os) (sym (leaves ∙ ap (slot_leaves m) (owner ∙ ap (owner_at os) now))) (paced_slot m os some k h))
