-- Two servers that fit stand together, unused; two that do not make a chain of no clients.
use Rattle.std.proofs.Common.{◌≡◌, ℕ, zero, suc, ◌+◌, ◌<◌, ◌≤◌, Bool, true, false, cond, ◌&&◌, eqb, List, [], length, Ok, Err, sym, refl, ap, ◌∙◌, subst, arith, eqb-true, leb-true}
use borrow.Author.Tests.{eqb-false}
use Rattle.std.proofs.lemmas.Bool.{and_parts}
use Rattle.std.proofs.lemmas.List.{nil_from_length}
use Rattle.server.specs.declared.block.Block.{Block}
use Rattle.server.specs.declared.rate.Rate.{Rate}
use Rattle.server.specs.Meaning.{Client, Meaning}
use Rattle.server.specs.Laws.{Lawful, Unused}
use Rattle.server.specs.Order.{InOrder}
use Rattle.join.specs.declared.fit.Misfit.TheVariants.{Differ, Used, Late}
use Rattle.server.specs.Calls.{view_of}
use Rattle.join.specs.Fit.{all_below, each, have_same_rate, idle, are_idle, is_in_reach, Answer, fitting, chain_clients}
use Rattle.join.specs.Link.{whole, chained, Behind, Linked, Stands}

each_below : (n : ℕ) (f : ℕ → Bool) → all_below n f ≡ true → (k : ℕ) → k < n → f k ≡ true
each_below zero f e k h = absurd (omega (arith, h))
each_below (suc n) f e k h =
    let s = and_parts (all_below n f) (f n) e in
    by (eqb k n) refl (each_below n f s.0 k) s.1
  where
    by : (b : Bool) → eqb k n ≡ b → (k < n → f k ≡ true) → f n ≡ true → f k ≡ true
    by true t below here = ap f (eqb-true k n t) ∙ here
    by false t below here = let ne : k ≡ n → ⊥ = eqb-false k n t in below (omega (arith, h, ne))

-- two clients of which no block has come
record Fresh (x y : Client) : Type 0 where
  same : y.terms.rate ≡ x.terms.rate
  sum : x.terms.latency + y.terms.latency ≤ 4194304
  first-clock : x.clock ≡ 0
  second-clock : y.clock ≡ 0
  first-none : x.waiting ≡ []
  second_none : y.waiting ≡ []

same_is : (a b : Rate) → (eqb a.p b.p && eqb a.q b.q) ≡ true → b ≡ a
same_is a b e =
    let s = and_parts (eqb a.p b.p) (eqb a.q b.q) e in
    let p : a.p ≡ b.p = eqb-true a.p b.p s.0 in
    let q : a.q ≡ b.q = eqb-true a.q b.q s.1 in
    ap (λ (k : ℕ). record { p = k; q = b.q }) (sym p) ∙ ap (λ (k : ℕ). record { p = a.p; q = k }) (sym q)

idle_is : (x : Client) → idle (view_of x) ≡ true → (x.clock ≡ 0) × (x.waiting ≡ [])
idle_is x e =
    let s = and_parts (eqb x.clock 0) (eqb (length x.waiting) 0) e in
    (eqb-true x.clock 0 s.0, nil_from_length x.waiting (eqb-true (length x.waiting) 0 s.1))

linked_fresh : (x y : Client) → Fresh x y → Linked x y []
linked_fresh x y f = record {
  same = f.same;
  sum = f.sum;
  few = omega (arith, ap (λ (w : List Block). length w) f.first-none, ap (λ (w : List Block). length w) f.second_none);
  order = subst (λ (w : List Block). InOrder x.terms.rate.q 0 x.clock w) (sym f.first-none) (omega arith);
  follows = omega (arith, f.second-clock);
  behind = subst (λ (w : List Block). Behind x.terms.latency [] w) (sym f.second_none) tt;
}

-- what fitting two servers tells of them
record Fits (m n : Meaning) : Type 0 where
  counts : n.count ≡ m.count
  first-now : m.now ≡ 0
  second-now : n.now ≡ 0
  fresh : (k : ℕ) → k < m.count → Fresh (m.client k) (n.client k)

fits_is : (m n : Meaning) → (eqb m.count n.count && each have_same_rate m n) ≡ true → ((eqb m.now 0 && eqb n.now 0) && each are_idle m n) ≡ true → each is_in_reach m n ≡ true → Fits m n
fits_is m n a b d =
    let a' = and_parts (eqb m.count n.count) (each have_same_rate m n) a in
    let b' = and_parts (eqb m.now 0 && eqb n.now 0) (each are_idle m n) b in
    let t = and_parts (eqb m.now 0) (eqb n.now 0) b'.0 in
    record {
      counts = sym (eqb-true m.count n.count a'.0);
      first-now = eqb-true m.now 0 t.0;
      second-now = eqb-true n.now 0 t.1;
      fresh = λ k h.
          let i = and_parts (idle (view_of (m.client k))) (idle (view_of (n.client k))) (each_below m.count (λ j. are_idle (view_of (m.client j)) (view_of (n.client j))) b'.1 k h) in
          let x = idle_is (m.client k) i.0 in
          let y = idle_is (n.client k) i.1 in
          record {
            same = same_is (m.client k).terms.rate (n.client k).terms.rate (each_below m.count (λ j. have_same_rate (view_of (m.client j)) (view_of (n.client j))) a'.1 k h);
            sum = leb-true ((m.client k).terms.latency + (n.client k).terms.latency) 4194304 (each_below m.count (λ j. is_in_reach (view_of (m.client j)) (view_of (n.client j))) d k h);
            first-clock = x.0;
            second-clock = y.0;
            first-none = x.1;
            second_none = y.1;
          };
    }

module _ (m n : Meaning) (count : ℕ) (e : count ≡ chain_clients (fitting m n) m) where
  -- where the chain has a client, the two fit
  do-fit : 0 < count → Fits m n × (count ≡ m.count)
  do-fit some = by (eqb m.count n.count && each have_same_rate m n) ((eqb m.now 0 && eqb n.now 0) && each are_idle m n) (each is_in_reach m n) (fits_is m n) e
    where
      by : (a b d : Bool) → (a ≡ true → b ≡ true → d ≡ true → Fits m n) → count ≡ chain_clients (cond {A = Answer} a (cond {A = Answer} b (cond {A = Answer} d (Ok tt) (Err Late)) (Err Used)) (Err Differ)) m → Fits m n × (count ≡ m.count)
      by true true true f z = (f refl refl refl, z)
      by true true false f z = absurd (omega (arith, some, z))
      by true false d f z = absurd (omega (arith, some, z))
      by false b d f z = absurd (omega (arith, some, z))

  at_most : Lawful m → count ≤ 8
  at_most l = by (fitting m n) e
    where
      by : (a : Answer) → count ≡ chain_clients a m → count ≤ 8
      by (Ok u) z = omega (arith, z, l.eight)
      by (Err u) z = omega (arith, z)

  fresh_at : (k : ℕ) → k < count → Fresh (m.client k) (n.client k)
  fresh_at k h =
      let d = do-fit (omega (arith, h)) in
      d.0.fresh k (omega (arith, h, d.1))

  pub begin_stands : Lawful m → Stands count 0 (λ k. []) m n
  begin_stands l = record {
    eight = at_most l;
    counted = omega arith;
    counts = λ h. let d = do-fit h in (sym d.1, d.0.counts ∙ sym d.1);
    times = λ h. let d = do-fit h in (d.0.first-now, d.0.second-now);
    links = λ k h. linked_fresh (m.client k) (n.client k) (fresh_at k h);
  }

  pub begin_unused : Unused (chained count 0 (λ k. []) m n)
  begin_unused = record {
    start = refl;
    clocks = λ k h. (fresh_at k h).first-clock;
    empty = λ k h. ap whole (fresh_at k h).first-none;
  }
