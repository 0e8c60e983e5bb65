-- That two servers stand together is a proposition, so that a chain may keep it in its type.
use Rattle.std.specs.Prelude.{◌≡◌, ℕ, ◌+◌, ◌*◌, List, [], ◌∷◌, refl}
use Rattle.std.specs.Coded.{×_prop, Π_prop, →_prop, Unit-prop, le_prop, Coded, Coded-set, coded_ℕ, coded×, code_by}
use Rattle.server.specs.declared.block.Block.{Block}
use Rattle.server.specs.declared.rate.Rate.{Rate}
use Rattle.server.specs.Meaning.{Client, Meaning}
use Rattle.server.specs.Order.{InOrder}
use Rattle.join.specs.Link.{Behind, Linked, Stands}

coded_rate : Coded Rate
coded_rate = code_by (ℕ × ℕ) (coded× coded_ℕ coded_ℕ) (λ r. (r.p, r.q)) (λ x. record { p = x.0; q = x.1 }) (λ _. refl)

number_prop : (a b : ℕ) → IsProp (a ≡ b)
number_prop a b = Coded-set coded_ℕ a b

order_prop : (q from clock : ℕ) (bs : List Block) → IsProp (InOrder q from clock bs)
order_prop q from clock [] = le_prop
order_prop q from clock (b ∷ bs) = ×_prop le_prop (order_prop q (b.start + q * b.length) clock bs)

behind_prop : (late : ℕ) (ss : List ℕ) (bs : List Block) → IsProp (Behind late ss bs)
behind_prop late [] [] = Unit-prop
behind_prop late [] (b ∷ bs) = λ u. absurd u
behind_prop late (s ∷ ss) [] = λ u. absurd u
behind_prop late (s ∷ ss) (b ∷ bs) = ×_prop le_prop (behind_prop late ss bs)

linked_prop : (x y : Client) (ss : List ℕ) → IsProp (Linked x y ss)
linked_prop x y ss u v = λ i. record {
  same = Coded-set coded_rate y.terms.rate x.terms.rate u.same v.same i;
  sum = le_prop u.sum v.sum i;
  few = le_prop u.few v.few i;
  order = order_prop x.terms.rate.q 0 x.clock x.waiting u.order v.order i;
  follows = le_prop u.follows v.follows i;
  behind = behind_prop x.terms.latency ss y.waiting u.behind v.behind i;
}

pub stands_prop : (count t : ℕ) (ss : ℕ → List ℕ) (m n : Meaning) → IsProp (Stands count t ss m n)
stands_prop count t ss m n u v = λ i. record {
  eight = le_prop u.eight v.eight i;
  counted = le_prop u.counted v.counted i;
  counts = →_prop (×_prop (number_prop m.count count) (number_prop n.count count)) u.counts v.counts i;
  times = →_prop (×_prop (number_prop m.now t) (number_prop n.now t)) u.times v.times i;
  links = Π_prop (λ k. →_prop (linked_prop (m.client k) (n.client k) (ss k))) u.links v.links i;
}
