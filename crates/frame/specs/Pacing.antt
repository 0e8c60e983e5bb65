-- The calls keep a frame's clients on time, and so within the laws.
use Rattle.std.specs.Prelude.{◌≡◌, ℕ, suc, ◌+◌, ◌*◌, ◌<◌, ◌≤◌, Bool, true, false, ◌&&◌, ltb, ◌≢◌, List, length, Some, None, Option, ◌==◌, nat_lt, refl}
use Rattle.std.proofs.Common.{sym, ap, subst, ◌∙◌, ⊎_elim, arith, mul-add, mul-le-mul, ltb-true, ltb-false, eq-eqb, ne_eqb, lt-ltb}
use Rattle.std.proofs.lemmas.Bool.{cases_eq, and_parts, cond-true, cond-false, cond_both}
use Rattle.server.specs.declared.rate.Rate.{Rate}
use Rattle.server.specs.declared.rate.Terms.{Terms}
use Rattle.server.specs.Meaning.{Client, Meaning}
use Rattle.server.specs.Calls.{at, granted, submitted, entered, serve, ticked, served_to}
use Rattle.server.specs.Laws.{ClientLaws, Lawful}
use Rattle.server.proofs.Meanings.{at_elim}
use Rattle.clients.specs.Held.{Held, Kept, reach, latency_for}
use Rattle.clients.specs.View.{new_client}
use Rattle.clients.specs.Serving.{rate_ok, terms_ok, admitted, waits, served_client, goes_on, slot_leaves}
use Rattle.clients.proofs.Clients.{reach_entered, reach_ticked, reach_gone, reach_empty, laws_on_time}
use Rattle.clients.proofs.Kept.{rate_ranged, ranged_terms, admitted_elim, admitted_now}
use Rattle.frame.specs.Frames.{owner_at, mine, owned, window, theta}
use Rattle.frame.specs.Paced.{Share, Paced}
use Rattle.frame.specs.Windows.{window_first, window_holds}

-- ## One client

module _ (os : List (Option ℕ)) (some : 1 ≤ length os) (t k : ℕ) where
  -- a client that nothing holds back is kept on time by its slots
  idle-ahead : (x : Client) → x.terms.rate.p ≤ x.terms.rate.q → x.terms.rate.p * length os ≤ owned k os * x.terms.rate.q → x.terms.rate.p * t ≤ reach t x
      → (w : ℕ) → x.terms.rate.p * (t + w) ≤ reach t x + x.terms.rate.p * theta k os + x.terms.rate.q * window k os t w
  idle-ahead x rate enough early w =
      omega (arith, window_holds k os x.terms.rate.p x.terms.rate.q rate enough some t w, mul-add x.terms.rate.p t w)

  share_new : (x : Terms) → x.rate.p ≤ x.rate.q → x.rate.p * length os ≤ owned k os * x.rate.q → x.latency ≡ latency_for x.rate.p x.rate.q (theta k os) → Share os t k (new_client x)
  share_new x rate enough late = record { enough = enough; late = late; ahead = idle-ahead (new_client x) rate enough (reach_empty t (new_client x) refl) }

  share_entered : (label len : ℕ) (x : Client) → Share os t k x → Share os t k (entered t label len x)
  share_entered label len x h = record { enough = h.enough; late = h.late; ahead = λ w. omega (arith, h.ahead w, reach_entered t label len x) }

  module _ (x : Client) (held : Held t x) (h : Share os t k x) where
    -- the slot is not the client's
    share-passed : mine k (owner_at os t) ≡ 0 → Share os (t + 1) k x
    share-passed e = record {
      enough = h.enough;
      late = h.late;
      ahead = λ w.
          let a : x.terms.rate.p * (t + suc w) ≡ x.terms.rate.p * (t + 1 + w) = ap (λ (j : ℕ). x.terms.rate.p * j) (let z : t + suc w ≡ t + 1 + w = omega arith in z) in
          let b : x.terms.rate.q * window k os t (suc w) ≡ x.terms.rate.q * window k os (t + 1) w = ap (λ (j : ℕ). x.terms.rate.q * j) (let z : window k os t (suc w) ≡ window k os (t + 1) w = omega (arith, e, window_first k os t w) in z) in
          omega (arith, h.ahead (suc w), a, b, reach_ticked t x);
    }

    -- the slot is the client's, and a unit of it goes
    share-served : mine k (owner_at os t) ≡ 1 → 0 < length x.waiting → Share os (t + 1) k (serve x)
    share-served e waiting = record {
      enough = h.enough;
      late = h.late;
      ahead = λ w.
          let a : x.terms.rate.p * (t + suc w) ≡ x.terms.rate.p * (t + 1 + w) = ap (λ (j : ℕ). x.terms.rate.p * j) (let z : t + suc w ≡ t + 1 + w = omega arith in z) in
          let b : x.terms.rate.q * window k os t (suc w) ≡ x.terms.rate.q * (1 + window k os (t + 1) w) = ap (λ (j : ℕ). x.terms.rate.q * j) (let z : window k os t (suc w) ≡ 1 + window k os (t + 1) w = omega (arith, e, window_first k os t w) in z) in
          omega (arith, h.ahead (suc w), a, b, reach_gone t x waiting held, mul-add x.terms.rate.q 1 (window k os (t + 1) w));
    }

    -- on time with θ, and so within the laws
    share_laws : ClientLaws t x
    share_laws = laws_on_time (theta k os) t x held h.late
        (let a : x.terms.rate.p * (t + 0) ≡ x.terms.rate.p * t = ap (λ (j : ℕ). x.terms.rate.p * j) (let z : t + 0 ≡ t = omega arith in z) in
        omega (arith, a, h.ahead 0))

-- the slot is the client's, and it has no block
share_idle : (os : List (Option ℕ)) (some : 1 ≤ length os) (t k : ℕ) (x : Client) → Held t x → Share os t k x → length x.waiting ≡ 0 → Share os (t + 1) k x
share_idle os some t k x held h none = record {
  enough = h.enough;
  late = h.late;
  ahead = idle-ahead os some (t + 1) k x held.ranged.rate h.enough (reach_empty (t + 1) x none);
}

mine_other : (k c : ℕ) → k ≢ c → mine k (Some c) ≡ 0
mine_other k c ne = cond-false (c == k) 1 0 (ne_eqb c k (λ e. ne (sym e)))

mine_own : (k c : ℕ) → k ≡ c → mine k (Some c) ≡ 1
mine_own k c e = cond-true (c == k) 1 0 (eq-eqb c k (sym e))

-- ## All clients

module _ (m : Meaning) (os : List (Option ℕ)) (some : 1 ≤ length os) where
  pub paced_lawful : Kept m → Paced m os → Lawful m
  paced_lawful kept h = record { eight = kept.eight; counted = kept.counted; each = λ k l. share_laws os some m.now k (m.client k) (kept.each k l) (h k l) }

  pub paced_submitted : (c label len : ℕ) → Paced m os → Paced (submitted m c label len) os
  paced_submitted c label len h =
      cond_both (granted m c len) (record { count = m.count; now = m.now; client = at c (entered m.now label len) m.client }) m (λ n. Paced n os)
      (λ _ k l. at_elim (Share os m.now k) c k (entered m.now label len) m.client (λ _. share_entered os some m.now k label len (m.client k) (h k l)) (λ _. h k l))
      (λ _. h)

  module _ (kept : Kept m) (h : Paced m os) where
    on_none : owner_at os m.now ≡ None → Paced (ticked m) os
    on_none e k l = share-passed os some m.now k (m.client k) (kept.each k l) (h k l) (ap (mine k) e)

    on-served : (c : ℕ) → owner_at os m.now ≡ Some c → waits m c ≡ true → Paced (served_to c m) os
    on-served c e w k l =
        let g = and_parts (nat_lt c m.count) (nat_lt 0 (length (m.client c).waiting)) w in
        at_elim (Share os (m.now + 1) k) c k serve m.client
        (λ z. share-served os some m.now k (m.client k) (kept.each k l) (h k l) (ap (mine k) e ∙ mine_own k c z)
        (subst (λ (j : ℕ). 0 < length (m.client j).waiting) (sym z) (ltb-true 0 (length (m.client c).waiting) g.1)))
        (λ z. share-passed os some m.now k (m.client k) (kept.each k l) (h k l) (ap (mine k) e ∙ mine_other k c z))

    on-idle : (c : ℕ) → owner_at os m.now ≡ Some c → waits m c ≡ false → Paced (ticked m) os
    on-idle c e w k l = ⊎_elim
        (λ (z : k ≡ c). share_idle os some m.now k (m.client k) (kept.each k l) (h k l) (none z))
        (λ z. share-passed os some m.now k (m.client k) (kept.each k l) (h k l) (ap (mine k) e ∙ mine_other k c z))
        (cases_eq k c)
      where
        none : k ≡ c → length (m.client k).waiting ≡ 0
        none z =
            let v : ltb 0 (length (m.client k).waiting) ≡ false = ap (λ (b : Bool). b && nat_lt 0 (length (m.client k).waiting)) (sym (lt-ltb k m.count l)) ∙ subst (λ (j : ℕ). waits m j ≡ false) (sym z) w in
            omega (arith, ltb-false 0 (length (m.client k).waiting) v)

    on-owner : (o : Option ℕ) → owner_at os m.now ≡ o → Paced (goes_on m (served_client m o)) os
    on-owner None e = on_none e
    on-owner (Some c) e = cond_both (waits m c) (Some c) None (λ o. Paced (goes_on m o) os) (on-served c e) (on-idle c e)

    pub paced_slot : Paced (slot_leaves m (owner_at os m.now)) os
    paced_slot =
        let o = owner_at os m.now in
        cond_both (nat_lt m.now 4294967295) (goes_on m (served_client m o)) m (λ n. Paced n os) (λ _. on-owner o refl) (λ _. h)

  -- ## A reservation

  -- a client whose slots carry its rate comes in on time
  pub paced_admitted : (x : Rate) → rate_ok x ≡ true → x.p * length os ≤ owned m.count os * x.q → Paced m os
      → Paced (admitted m (record { rate = x; latency = latency_for x.p x.q (theta m.count os) })) os
  paced_admitted x ok enough h =
      let terms : Terms = record { rate = x; latency = latency_for x.p x.q (theta m.count os) } in
      λ k l. subst (λ (t : ℕ). Share os t k ((admitted m terms).client k)) (sym (admitted_now m terms))
      (admitted_elim (Share os m.now) m terms (share_new os some m.now m.count terms (rate_ranged x ok).1 enough refl) h k l)

latency_ranged : (p q θ : ℕ) → 1 ≤ p → p ≤ q → q ≤ 1024 → θ ≤ 256 → (p ≤ latency_for p q θ) × (latency_for p q θ ≤ 4194304)
latency_ranged p q θ slow rate small few =
    (omega (arith, rate), omega (arith, small, mul-le-mul {n₂ = 1024} {m₂ = 256} (let l : p ≤ 1024 = omega arith in l) few))

module _ (m : Meaning) (os : List (Option ℕ)) (some : 1 ≤ length os) (most : length os ≤ 256) (x : Rate) (ok : rate_ok x ≡ true) where
  abbrev terms : Terms
  terms = record { rate = x; latency = latency_for x.p x.q (theta m.count os) }

  ranged : (x.p ≤ terms.latency) × (terms.latency ≤ 4194304)
  ranged = let r = rate_ranged x ok in latency_ranged x.p x.q (theta m.count os) r.0 r.1 r.2 (omega arith)

  pub latency_fits : latency_for x.p x.q (theta m.count os) ≤ 4194304
  latency_fits = ranged.1

  -- so no rate in range is turned away for its latency
  pub terms_fit : terms_ok terms ≡ true
  terms_fit = ranged_terms terms ok ranged.0 ranged.1
