-- The loops over a server's shares: what the places that they read hold, and one place more.
use Rattle.std.proofs.Common.{◌≡◌, ℕ, ◌+◌, ◌*◌, ◌%◌, ◌^◌, ◌<◌, ◌≤◌, Bool, true, false, List, [], ◌∷◌, ◌++◌, length, get_or, take, drop, set, Option, Some, None, eqb, sym, refl, ap, ◌∙◌, subst, arith}
use lib.Bits.{bit_or}
use Rattle.std.specs.Option.{option_eq}
use Rattle.std.proofs.lemmas.Bool.Decides.{nat_tests}
use Rattle.std.proofs.lemmas.List.{length-take-le, get_or-take}
use Rattle.server.specs.Meaning.{Meaning}
use Rattle.clients.specs.Serving.{waits}
use Rattle.credits.specs.declared.shares.Role.{Role}
use Rattle.credits.specs.declared.shares.Share.{Share}
use Rattle.credits.specs.Shares.{no_share, Small, Pays, eligible, by_place, byte_of, chosen, role, next_credit, share_after, earned}
use Rattle.credits.specs.Places.{length_by_place, by_place_more, written_next, written_more}
use Rattle.credits.proofs.Bytes.{byte_set, byte_clear}

-- whether the client is the one served
pub chosen_is : (who : Option ℕ) (k : ℕ) → option_eq eqb who (Some k) ≡ chosen who k
chosen_is None k = refl
chosen_is (Some c) k = grind (arith, nat_tests)

-- ## A place among the first n

module _ (n i : ℕ) (xs : List Share) (here : i < n) (most : n ≤ length xs) where
  place_in : get_or (take n xs) i no_share ≡ get_or xs i no_share
  place_in = get_or-take n xs i no_share here

  within : i < length (take n xs)
  within = omega (arith, length-take-le n xs most)

  pub small_at : Small (take n xs) → (get_or xs i no_share).credit + (get_or xs i no_share).step < 2 ^ 32
  small_at f = subst (λ (x : Share). x.credit + x.step < 2 ^ 32) place_in (f i no_share within)

  pub pays_at : (D : ℕ) (who : Option ℕ) → Pays D who (take n xs) → chosen who i ≡ true → D ≤ (get_or xs i no_share).credit + (get_or xs i no_share).step
  pays_at D who f e = subst (λ (x : Share). D ≤ x.credit + x.step) place_in (f i within e)

-- ## The byte of the eligible clients

-- where `ys` is the row that the loop goes along, which is `xs`
module _ (i : ℕ) (xs ys : List Share) (same : ys ≡ xs) (l : i < length ys) (m : Meaning) (D byte : ℕ) (inv : byte ≡ byte_of (by_place (eligible m D) 0 (take i xs))) where
  here : i < length xs
  here = subst (λ (zs : List Share). i < length zs) same l

  so_far : length (by_place (eligible m D) 0 (take i xs)) ≡ i
  so_far = length_by_place (eligible m D) 0 (take i xs) ∙ length-take-le i xs (let h : i ≤ length xs = omega (arith, here) in h)

  next : (b : Bool) → b ≡ eligible m D i (get_or ys i no_share) → by_place (eligible m D) 0 (take i xs) ++ (b ∷ []) ≡ by_place (eligible m D) 0 (take (i + 1) xs)
  next b e =
      ap (λ z. by_place (eligible m D) 0 (take i xs) ++ (z ∷ [])) (e ∙ ap (λ (zs : List Share). eligible m D i (get_or zs i no_share)) same)
      ∙ sym (by_place_more (eligible m D) xs i here)

  pub byte_eligible : i < 8 → true ≡ eligible m D i (get_or ys i no_share) → bit_or byte ((1 * 2 ^ i) % 2 ^ 8) ≡ byte_of (by_place (eligible m D) 0 (take (i + 1) xs))
  byte_eligible few e =
      ap (λ (b : ℕ). bit_or b ((1 * 2 ^ i) % 2 ^ 8)) inv ∙ byte_set (by_place (eligible m D) 0 (take i xs)) i so_far few ∙ ap byte_of (next true e)

  pub byte_other : false ≡ eligible m D i (get_or ys i no_share) → byte ≡ byte_of (by_place (eligible m D) 0 (take (i + 1) xs))
  byte_other e = inv ∙ byte_clear (by_place (eligible m D) 0 (take i xs)) i so_far ∙ ap byte_of (next false e)

-- ## The credits after a slot

module _ (m : Meaning) (D : ℕ) (who : Option ℕ) (i : ℕ) (old new : List Share) (l : i < length old)
    (inv : new ≡ by_place (earned m D who) 0 (take i old) ++ drop i old) where
  pub unearned : get_or new i no_share ≡ get_or old i no_share
  unearned = written_next (earned m D who) i old new inv l

  pub earned_more : (r : Role) (e : ℕ) → r ≡ role (waits m i) (chosen who i) → e ≡ next_credit D r (get_or new i no_share)
      → set new i (record { step = (get_or new i no_share).step; cap = (get_or new i no_share).cap; credit = e }) ≡ by_place (earned m D who) 0 (take (i + 1) old) ++ drop (i + 1) old
  earned_more r e er ee = written_more (earned m D who) i old new inv _ l
      (ap (λ (n : ℕ). record { step = (get_or new i no_share).step; cap = (get_or new i no_share).cap; credit = n }) ee
      ∙ ap (λ (a : Role). share_after D a (get_or new i no_share)) er
      ∙ ap (earned m D who i) unearned)
