-- A row of waiting blocks: its starts in order, its units, and what is left when one goes.
use Rattle.std.proofs.Common.{◌≡◌, ℕ, suc, ◌+◌, ◌*◌, ◌≤◌, Bool, true, false, cond, leb, List, [], ◌∷◌, ◌++◌, length, refl, arith, leb-false, leb-true}
use Rattle.server.specs.declared.block.Block.{Block}
use Rattle.server.specs.Meaning.{units_left}
use Rattle.server.specs.Calls.{served, one_less}
use Rattle.server.specs.Laws.{Each, Shaped}
use Rattle.server.specs.Order.{InOrder}

-- ## A block comes last

pub order_push : (q a c : ℕ) (bs : List Block) (b : Block) → c ≤ b.start → InOrder q a c bs
    → InOrder q a (b.start + q * b.length) (bs ++ (b ∷ []))
order_push q a c [] b l h = (omega (arith, h), omega arith)
order_push q a c (x ∷ xs) b l h = (h.0, order_push q (x.start + q * x.length) c xs b l h.1)

pub each_push : (P : Block → Type 0) (bs : List Block) (b : Block) → Each P bs → P b → Each P (bs ++ (b ∷ []))
each_push P [] b h g = (g, tt)
each_push P (x ∷ xs) b h g = (h.0, each_push P xs b h.1 g)

pub left_push : (bs : List Block) (b : Block) → units_left (bs ++ (b ∷ [])) ≡ units_left bs + b.left
left_push [] b = omega arith
left_push (x ∷ xs) b = omega (arith, left_push xs b)

-- ## Bounds

pub order_from : (q a a' c : ℕ) (bs : List Block) → a' ≤ a → InOrder q a c bs → InOrder q a' c bs
order_from q a a' c [] l h = omega arith
order_from q a a' c (b ∷ bs) l h = (omega (arith, h.0), h.1)

-- each block of a row starts no sooner than the row
pub order_each : (q a c : ℕ) (P : Block → Type 0) (bs : List Block) → ((b : Block) → a ≤ b.start → P b) → InOrder q a c bs → Each P bs
order_each q a c P [] f h = tt
order_each q a c P (b ∷ bs) f h =
    (f b h.0, order_each q (b.start + q * b.length) c P bs (λ x l. f x (omega (arith, l, h.0))) h.1)

pub left_small : (bs : List Block) → Each Shaped bs → units_left bs ≤ 16 * length bs
left_small [] h = omega arith
left_small (b ∷ bs) h = omega (arith, left_small bs h.1, h.0.within, h.0.few)

-- ## One unit of the front goes

module _ (q : ℕ) where
  pub order_served : (a c : ℕ) (bs : List Block) → InOrder q a c bs → InOrder q a c (served bs)
  order_served a c [] h = h
  order_served a c (b ∷ bs) h = by (leb b.left 1)
    where
      by : (t : Bool) → InOrder q a c (cond t bs (one_less b ∷ bs))
      by true = order_from q (b.start + q * b.length) a c bs (omega (arith, h.0)) h.1
      by false = h

  pub shaped_served : (bs : List Block) → Each Shaped bs → Each Shaped (served bs)
  shaped_served [] h = h
  shaped_served (b ∷ bs) h = by (leb b.left 1) refl
    where
      by : (t : Bool) → leb b.left 1 ≡ t → Each Shaped (cond t bs (one_less b ∷ bs))
      by true e = h.1
      by false e = (record { some = omega (arith, leb-false b.left 1 e); within = omega (arith, h.0.within); few = h.0.few }, h.1)

  pub left_served : (bs : List Block) → units_left bs ≤ units_left (served bs) + 1
  left_served [] = omega arith
  left_served (b ∷ bs) = by (leb b.left 1) refl
    where
      by : (t : Bool) → leb b.left 1 ≡ t → b.left + units_left bs ≤ units_left (cond t bs (one_less b ∷ bs)) + 1
      by true e = omega (arith, leb-true b.left 1 e)
      by false e = omega arith

  pub length_served : (bs : List Block) → length (served bs) ≤ length bs
  length_served [] = omega arith
  length_served (b ∷ bs) = by (leb b.left 1)
    where
      by : (t : Bool) → length (cond t bs (one_less b ∷ bs)) ≤ suc (length bs)
      by true = omega arith
      by false = omega arith
