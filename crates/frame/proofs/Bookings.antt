-- A reservation in a frame, of any clients and owners: what it leaves.
use Rattle.std.proofs.Common.{◌≡◌, ℕ, ◌-◌, ◌*◌, ◌≤◌, Bool, true, cond, ◌&&◌, List, length, Option, sym, ap, ◌∙◌, subst, le-leb}
use Rattle.server.specs.declared.rate.Rate.{Rate}
use Rattle.server.specs.Meaning.{Meaning}
use Rattle.clients.specs.Held.{latency_for}
use Rattle.clients.specs.Serving.{rate_ok, admitted}
use Rattle.frame.specs.Frames.{owned, theta}
use Rattle.frame.specs.States.{State, carries, next_terms, reserved}

module _ (m : Meaning) (os : List (Option ℕ)) (some : 1 ≤ length os) (most : length os ≤ 256) (slots own : ℕ) (n : length os ≡ slots) (o : own ≡ owned m.count os) where
  module _ (x : Rate) (ok : true ≡ rate_ok x) (enough : x.p * slots ≤ own * x.q) where
    same : latency_for x.p x.q (slots - own) ≡ latency_for x.p x.q (theta m.count os)
    same = ap (latency_for x.p x.q) (ap (λ (k : ℕ). k - own) (sym n) ∙ ap (λ (k : ℕ). length os - k) o)

    share : x.p * length os ≤ owned m.count os * x.q
    share = subst (λ (k : ℕ). x.p * k ≤ owned m.count os * x.q) (sym n) (subst (λ (k : ℕ). x.p * slots ≤ k * x.q) o enough)

    carried : carries (record { clients = m; owners = os }) x ≡ true
    carried = le-leb (x.p * length os) (owned m.count os * x.q) share

    module _ (lat : ℕ) (e : lat ≡ latency_for x.p x.q (slots - own)) (m' : Meaning) (leaves : m' ≡ admitted m (record { rate = x; latency = lat })) where
      joins : m' ≡ admitted m (next_terms (record { clients = m; owners = os }) x)
      joins = leaves ∙ ap (λ (k : ℕ). admitted m (record { rate = x; latency = k })) (e ∙ same)

      pub reserved_is : ◌≡◌ {A = State} (record { clients = m'; owners = os }) (reserved (record { clients = m; owners = os }) x)
      reserved_is =
          let after : Meaning → State = λ c. record { clients = c; owners = os } in
          let t : (rate_ok x && carries (after m) x) ≡ true = ap (λ (b : Bool). b && carries (after m) x) (sym ok) ∙ carried in
          ap after joins ∙ sym (ap (λ (b : Bool). cond {A = State} b (after (admitted m (next_terms (after m) x))) (after m)) t)
