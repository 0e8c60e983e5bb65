-- What the type of a server says of its slot counter and its shares.
use Rattle.std.proofs.Common.{◌≡◌, ◌*◌, ◌<◌, ◌≤◌, arith, length-take-le}
use Rattle.std.proofs.Math.Logic.{∥∥₁_elim}
use Rattle.std.proofs.Math.Bridge.{le_prop}
use Rattle.tables.specs.Tables.{listed}
use Rattle.clients.specs.Meant.{meaning}
use Rattle.credits.specs.declared.credit_server.CreditServer.{CreditServer}
use Rattle.credits.specs.Shares.{caps, Small}
use Rattle.credits.specs.Balancing.{balanced_caps, balanced_small}

module _ (x : CreditServer) where
  few : (meaning x.clients).count ≤ 8
  few = ∥∥₁_elim x.clients.kept le_prop (λ k. k.eight)

  pub counted : (meaning x.clients).now < 4294967296
  counted = ∥∥₁_elim x.clients.kept le_prop (λ k. k.counted)

  -- there is one for each client
  pub one_each : x.shares.count ≡ (meaning x.clients).count
  one_each =
      let l = length-take-le x.shares.count x.shares.items (omega (arith, x.shares.full, x.shares.few)) in
      let a : x.shares.count ≤ (meaning x.clients).count = ∥∥₁_elim x.balanced le_prop (λ h. omega (arith, l, h.each)) in
      let b : (meaning x.clients).count ≤ x.shares.count = ∥∥₁_elim x.balanced le_prop (λ h. omega (arith, l, h.each)) in
      omega arith

  -- each credit and step fit a word together
  pub shares_small : Small (listed x.shares)
  shares_small = balanced_small (meaning x.clients) x.denominator (listed x.shares) x.balanced x.most few

  -- and so do the caps
  pub caps_small : caps (listed x.shares) ≤ 512 * x.denominator
  caps_small = balanced_caps (meaning x.clients) x.denominator (listed x.shares) x.balanced few
