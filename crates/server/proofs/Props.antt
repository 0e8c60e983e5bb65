-- That a meaning is lawful is a proposition, so that it may be read off a truncated fact.
use Rattle.std.proofs.Common.{ℕ, ◌+◌, ◌*◌, ◌≤◌, List, [], ◌∷◌}
use mathlib.Core.HLevel.{Unit-prop, Π_prop, →_prop, ×_prop}
use native.Mathlib.Bridge.{le_prop}
use Rattle.server.specs.declared.block.Block.{Block}
use Rattle.server.specs.declared.rate.Terms.{Terms}
use Rattle.server.specs.Meaning.{Client, Meaning}
use Rattle.server.specs.Laws.{Each, Shaped, Ranged, ClientLaws, Lawful}

each_prop : (P : Block → Type 0) → ((b : Block) → IsProp (P b)) → (bs : List Block) → IsProp (Each P bs)
each_prop P h [] = Unit-prop
each_prop P h (b ∷ bs) = ×_prop (h b) (each_prop P h bs)

shaped_prop : (b : Block) → IsProp (Shaped b)
shaped_prop b u v = λ i. record { some = le_prop u.some v.some i; within = le_prop u.within v.within i; few = le_prop u.few v.few i }

ranged_prop : (x : Terms) → IsProp (Ranged x)
ranged_prop x u v = λ i. record {
  slow = le_prop u.slow v.slow i;
  rate = le_prop u.rate v.rate i;
  small = le_prop u.small v.small i;
  least = le_prop u.least v.least i;
  most = le_prop u.most v.most i;
}

laws_prop : (t : ℕ) (x : Client) → IsProp (ClientLaws t x)
laws_prop t x u v = λ i. record {
  ranged = ranged_prop x.terms u.ranged v.ranged i;
  eight = le_prop u.eight v.eight i;
  shaped = each_prop Shaped shaped_prop x.waiting u.shaped v.shaped i;
  debt = each_prop (λ b. x.terms.rate.p * (t + 1) ≤ b.start + x.terms.latency) (λ b. le_prop) x.waiting u.debt v.debt i;
  clocked = le_prop u.clocked v.clocked i;
}

pub lawful_prop : (m : Meaning) → IsProp (Lawful m)
lawful_prop m u v = λ i. record {
  eight = le_prop u.eight v.eight i;
  counted = le_prop u.counted v.counted i;
  each = Π_prop (λ k. →_prop (laws_prop m.now (m.client k))) u.each v.each i;
}
