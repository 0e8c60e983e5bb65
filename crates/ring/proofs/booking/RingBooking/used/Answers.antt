use Rattle.std.proofs.Common.{◌≡◌, ℕ, zero, suc, ◌+◌, ◌≤◌, List, [], ◌∷◌, length, get_or, take, refl, ap, ◌∙◌, arith, rules}
use Rattle.std.specs.List.{sum_by}
use Rattle.std.proofs.lemmas.List.Sums.{sum_by-cons}
use Rattle.ring.specs.declared.shares.Share.{Share}
use Rattle.ring.specs.Sums.{sum}
use Rattle.ring.specs.Shares.{no_share}
use Rattle.ring.proofs.booking.RingBooking.used.Goals as goal

from_front : (k : ℕ) (f : ℕ → ℕ) → sum (suc k) f ≡ f 0 + sum k (λ j. f (suc j))
from_front zero f = omega arith
from_front (suc k) f = omega (arith, from_front k f)

-- along the first n of a list, and by the places in it
along : (n : ℕ) (xs : List Share) → n ≤ length xs → sum_by (λ x. x.quantum) (take n xs) ≡ sum n (λ k. (get_or xs k no_share).quantum)
along zero xs h = refl
along (suc n) [] h = absurd (omega arith)
along (suc n) (x ∷ xs) h = omega (
  arith,
  sum_by-cons (λ (y : Share). y.quantum) x (take n xs),
  along n xs (omega arith),
  from_front n (λ k. (get_or (x ∷ xs) k no_share).quantum),
)

pub returns : goal.returns
returns c =
    let b = c.args.self.now in
    let s = b.shares in
    let total : c.sum.result ≡ sum_by (λ (x : Share). x.quantum) c.reserved.result.now = search rules in
    total ∙ ap (sum_by (λ (x : Share). x.quantum)) c.reserved.ensures.are ∙ along s.count s.reserved (omega (arith, b.few, b.full))
