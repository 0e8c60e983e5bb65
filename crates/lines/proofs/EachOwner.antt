-- The loop over the owners: what is stored, with the owners of what is left behind it, stays the owners of the text.
use Rattle.std.proofs.Common.{◌≡◌, ℕ, ◌+◌, ◌<◌, ◌≤◌, cond, List, [], ◌∷◌, ◌++◌, length, get_or, drop, Some, None, Option, sym, refl, ap, ◌∙◌, append_assoc, append-nil, arith, length-append}
use Rattle.std.proofs.lemmas.Bool.{lt-ltb}
use Rattle.std.proofs.lemmas.Bool.Decides.{nat_tests}
use Rattle.std.proofs.lemmas.List.{at_drop_more, at_drop_all}
use Rattle.lines.specs.Frames.{owner_of, with_owner, owners_of, owners_in}
use Rattle.lines.specs.Tables.{pushed}
use Rattle.lines.specs.Owners.{Owner}

-- owners stored so far, in front of what is left
abbrev pub stored : List Owner → Option (List Owner) → Option (List Owner)
stored os None = None
stored os (Some others) = Some (os ++ others)

stored_first : (os : List Owner) (o : Owner) (others : Option (List Owner)) → stored os (with_owner (Some o) others) ≡ stored (os ++ o ∷ []) others
stored_first os o None = refl
stored_first os o (Some others) = ap Some (sym (append_assoc os (o ∷ []) others))

-- one more is stored where fewer than 256 are
stored_push : (os : List Owner) (o : Owner) (i : ℕ) → length os ≡ i → i < 256 → pushed 256 os o ≡ os ++ o ∷ []
stored_push os o i e h = ap (λ t. cond t (os ++ o ∷ []) os) (lt-ltb (length os) 256 (omega arith))

module _ (text : List ℕ) (i : ℕ) (here : i < length text) (os : List Owner) where
  first : (q : Option Owner) → q ≡ owner_of (get_or text i 0) → owners_of (drop i text) ≡ with_owner q (owners_of (drop (i + 1) text))
  first q e = at_drop_more owners_of text i 0 here ∙ ap (λ q. with_owner q (owners_of (drop (i + 1) text))) (sym e)

  pub store_none : None ≡ owner_of (get_or text i 0) → stored os (owners_of (drop i text)) ≡ None
  store_none e = ap (stored os) (first None e)

  -- there is room for one owner more than 255, though the text be longer
  pub store_more : length os ≡ i → i < 256 → (after : List Owner) (o : Owner) → Some o ≡ owner_of (get_or text i 0) → after ≡ pushed 256 os o
      → (length after ≡ i + 1) × (stored os (owners_of (drop i text)) ≡ stored after (owners_of (drop (i + 1) text)))
  store_more count room after o e is =
      let p = is ∙ stored_push os o i count room in (
        omega (arith, ap length p, length-append os (o ∷ []), count),
        ap (stored os) (first (Some o) e) ∙ stored_first os o (owners_of (drop (i + 1) text))
            ∙ ap (λ os. stored os (owners_of (drop (i + 1) text))) (sym p),
      )

pub stored_all : (text : List ℕ) (i : ℕ) (os : List Owner) → length text ≤ i → stored os (owners_of (drop i text)) ≡ Some os
stored_all text i os h = ap (stored os) (at_drop_all owners_of text i h) ∙ ap Some (append-nil os)

-- a text of 1 to 256 characters has the owners of its characters
pub sized : (text : List ℕ) → 0 < length text → length text ≤ 256 → owners_in text ≡ owners_of text
sized text some few = grind (arith, nat_tests)
