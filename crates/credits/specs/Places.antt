-- Shares place by place: what a function of each place and its share does to a row, as a loop goes along it.
use Rattle.std.specs.Prelude.{◌≡◌, ℕ, suc, ◌+◌, ◌<◌, ◌≤◌, List, [], ◌∷◌, ◌++◌, length, get_or, take, drop, set, slice_index_or, slice_set, refl}
use Rattle.std.proofs.Common.{sym, ap, ◌∙◌, append_assoc, arith}
use Rattle.std.proofs.lemmas.List.{length-take-le, take_more, drop_more, take_at, get_or_at, set_at}
use Rattle.credits.specs.declared.shares.Share.{Share}
use Rattle.credits.specs.Shares.{by_place, no_share}

module _ {Y : Type 0} (f : ℕ → Share → Y) where
  pub length_by_place : (k : ℕ) (xs : List Share) → length (by_place f k xs) ≡ length xs
  length_by_place k [] = refl
  length_by_place k (x ∷ xs) = ap suc (length_by_place (suc k) xs)

  by-place-push : (k : ℕ) (xs : List Share) (y : Share) → by_place f k (xs ++ (y ∷ [])) ≡ by_place f k xs ++ (f (k + length xs) y ∷ [])
  by-place-push k [] y = ap (λ j. f j y ∷ []) (let z : k ≡ k + 0 = omega arith in z)
  by-place-push k (x ∷ xs) y =
      ap (λ ys. f k x ∷ ys) (by-place-push (suc k) xs y)
      ∙ ap (λ j. f k x ∷ (by_place f (suc k) xs ++ (f j y ∷ []))) (let z : suc k + length xs ≡ k + suc (length xs) = omega arith in z)

  -- one place more
  pub by_place_more : (xs : List Share) (i : ℕ) → i < length xs → by_place f 0 (take (i + 1) xs) ≡ by_place f 0 (take i xs) ++ (f i (slice_index_or xs i no_share) ∷ [])
  by_place_more xs i h =
      let m : 0 + length (take i xs) ≡ i = omega (arith, length-take-le i xs (let l : i ≤ length xs = omega arith in l)) in
      ap (by_place f 0) (take_more xs i no_share h) ∙ by-place-push 0 (take i xs) (slice_index_or xs i no_share)
      ∙ ap (λ j. by_place f 0 (take i xs) ++ (f j (slice_index_or xs i no_share) ∷ [])) m

-- a loop that writes each place of the first n, the first i of them written
module _ (f : ℕ → Share → Share) (i : ℕ) (old new : List Share) (inv : new ≡ by_place f 0 (take i old) ++ drop i old) where
  front_long : i ≤ length old → length (by_place f 0 (take i old)) ≡ i
  front_long l = length_by_place f 0 (take i old) ∙ length-take-le i old l

  -- the next place is as it was
  pub written_next : i < length old → slice_index_or new i no_share ≡ slice_index_or old i no_share
  written_next h =
      ap (λ (a : List Share). get_or a i no_share) (inv ∙ ap (λ r. by_place f 0 (take i old) ++ r) (drop_more old i no_share h))
      ∙ get_or_at (by_place f 0 (take i old)) (slice_index_or old i no_share) (drop (i + 1) old) no_share i (front_long (omega arith))

  pub written_more : (y : Share) → i < length old → y ≡ f i (slice_index_or old i no_share) → slice_set new i y ≡ by_place f 0 (take (i + 1) old) ++ drop (i + 1) old
  written_more y h e =
      ap (λ (a : List Share). set a i y) (inv ∙ ap (λ r. by_place f 0 (take i old) ++ r) (drop_more old i no_share h))
      ∙ set_at (by_place f 0 (take i old)) (slice_index_or old i no_share) (drop (i + 1) old) y i (front_long (omega arith))
      ∙ ap (λ z. by_place f 0 (take i old) ++ (z ∷ drop (i + 1) old)) e
      ∙ sym (append_assoc (by_place f 0 (take i old)) (f i (slice_index_or old i no_share) ∷ []) (drop (i + 1) old))
      ∙ ap (λ (a : List Share). a ++ drop (i + 1) old) (sym (by_place_more f old i h))

  pub written_all : i ≤ length old → take i new ≡ by_place f 0 (take i old)
  written_all h = ap (take i) inv ∙ take_at (by_place f 0 (take i old)) (drop i old) i (front_long h)
