-- What is reserved keeps within the ring total and its ranges, and opens as a sound ring.
use Rattle.std.proofs.Common.{◌≡◌, ℕ, ◌+◌, ◌-◌, ◌*◌, ◌/◌, ◌<◌, ◌≤◌, min, Bool, true, false, cond, ◌&&◌, eqb, ltb, leb, ◌≢◌, List, length, get_or, set, take, Ok, Err, Result, sym, refl, ap, ◌∙◌, subst, ⊎_elim, mul-le-mul_right, mul-le-mul, mul-le-mul_left, arith, le-ltb, lt-ltb, eqb-true, leb-true}
use mathlib.Core.Path.{fun_ext}
use native.Mathlib.Nat.{le_of_mul-le-mul_left}
use borrow.Author.Tests.{eqb-false, clash}
use Rattle.std.proofs.Math.ListN.{get_or-map}
use Rattle.std.proofs.lemmas.List.{length-take, get_or-take, get_or-set_same, get_or-set_other}
use Rattle.std.proofs.lemmas.Bool.{and_parts, cases_eq, cases_lt}
use Rattle.server.specs.declared.rate.Rate.{Rate}
use Rattle.server.specs.declared.rate.Terms.{Terms}
use Rattle.server.specs.Meaning.{Client, Meaning}
use Rattle.server.specs.Calls.{at}
use Rattle.server.specs.Laws.{Unused}
use Rattle.clients.specs.declared.booking.NotAdmitted.{NotAdmitted}
use Rattle.clients.specs.Held.{latency_for}
use Rattle.clients.specs.View.{vacant, new_client}
use Rattle.clients.specs.Serving.{no_clients, rate_ok, terms_ok, admits, admission, admitted}
use Rattle.clients.proofs.Kept.{rate_ranged, ranged_terms, terms_whole}
use Rattle.ring.specs.declared.shares.Share.{Share as Reserved}
use Rattle.ring.specs.declared.shares.Shares.{Shares}
use Rattle.ring.specs.declared.turns.Place.{Place}
use Rattle.ring.specs.declared.turns.Ring.{Ring}
use Rattle.ring.specs.Sums.{sum}
use Rattle.ring.specs.Shares.{count_in, no_share, share_in, rate_in, quantum_in, quantum_ok, carries, Carried, theta, terms_in}
use Rattle.ring.specs.Turns.{place_of, quantum_of, deficit_of}
use Rattle.ring.specs.Paced.{Share}
use Rattle.ring.specs.Search.{Sound, gone_round}
use Rattle.ring.specs.States.{first_clients, fresh_place, fresh_ring}
use Rattle.ring.specs.SumsLemmas.{by_test, sum_le, sum_more, others_split}
use Rattle.ring.specs.Giving.{share_new}
use Rattle.ring.specs.Pacing.{resting}

-- ## One more

module _ (s : Shares) (x : Rate) (quantum : ℕ) (full : length s.reserved ≡ 8) (few : s.count < 8) where
  abbrev share : Reserved
  share = record { rate = x; quantum = quantum }

  abbrev more : Shares
  more = record { total = s.total; count = s.count + 1; reserved = set s.reserved s.count share }

  share-new : share_in more s.count ≡ share
  share-new = get_or-set_same s.reserved s.count share no_share (omega (arith, full))

  share-old : (k : ℕ) → k ≢ s.count → share_in more k ≡ share_in s k
  share-old k n = get_or-set_other s.reserved s.count k share no_share n

  pub within_more : sum s.count (quantum_in s) + quantum ≤ s.total → sum (s.count + 1) (quantum_in more) ≤ s.total
  within_more h =
      let new : quantum_in more s.count ≡ quantum = ap (λ (y : Reserved). y.quantum) share-new in
      omega (
        arith,
        sum_more s.count (quantum_in more),
        new,
        sum_le s.count (quantum_in more) (quantum_in s) (λ j l. omega (arith, ap (λ (y : Reserved). y.quantum) (share-old j (λ z. omega arith)))),
      )

  -- `Carried`, of a share
  abbrev Carries : Reserved → Type 0
  Carries y = (rate_ok y.rate ≡ true) × (quantum_ok y.quantum ≡ true) × (carries s.total y.rate y.quantum ≡ true)

  pub carried_more : rate_ok x ≡ true → quantum_ok quantum ≡ true → carries s.total x quantum ≡ true → ((k : ℕ) → k < s.count → Carried s k) → (k : ℕ) → k < s.count + 1 → Carried more k
  carried_more r q c h k l = ⊎_elim
      (λ (e : k ≡ s.count). subst (Carried more) (sym e) (subst Carries (sym share-new) (r, q, c)))
      (λ n. subst Carries (sym (share-old k n)) (h k (omega (arith, l, n))))
      (cases_eq k s.count)

-- ## The latency

round_small : (n φ : ℕ) → 0 < φ → φ * ((n + (φ - 1)) / φ) ≤ n + φ
round_small n φ h = omega arith

-- p·θ + q·16 for a share that carries the rate
latency_small : (p q φ total count : ℕ) → p ≤ q → q ≤ 1024 → 16 ≤ φ → φ ≤ 1024 → p * total ≤ φ * q → count ≤ 8 → latency_for p q (theta count total φ) ≤ 4194304
latency_small p q φ total count rate small least most enough few =
    let up : φ * (((total - φ) * (φ + 15) + (φ - 1)) / φ) ≤ (total - φ) * (φ + 15) + φ = round_small ((total - φ) * (φ + 15)) φ (omega arith) in
    let less : p * (total - φ) ≤ p * total = mul-le-mul_left p (omega arith) in
    bound (((total - φ) * (φ + 15) + (φ - 1)) / φ) ((total - φ) * (φ + 15)) (total - φ) refl up (omega (arith, less, enough))
  where
    bound : (m n r : ℕ) → n ≡ r * (φ + 15) → φ * m ≤ n + φ → p * r ≤ φ * q → p * (m + (count - 1) * 15) + q * 16 ≤ 4194304
    bound m n r e up enough =
        let x : p * (φ * m) ≤ p * (n + φ) = mul-le-mul_left p up in
        let y : (p * r) * (φ + 15) ≤ (φ * q) * (φ + 15) = mul-le-mul_right (φ + 15) enough in
        let w : p * n ≡ p * (r * (φ + 15)) = ap (λ (k : ℕ). p * k) e in
        let z : φ * (p * m) ≤ φ * (q * (φ + 15) + p) = omega arith in
        let v : p * m ≤ q * (φ + 15) + p = le_of_mul-le-mul_left {k = φ} z (omega arith) in
        let u : q * (φ + 15) ≤ 1024 * 1039 = mul-le-mul {n₂ = 1024} {m₂ = 1039} small (omega arith) in
        let t : p * (count - 1) ≤ 1024 * 7 = mul-le-mul {n₂ = 1024} {m₂ = 7} (omega arith) (omega arith) in
        omega arith

module _ (s : Shares) (within : sum (count_in s) (quantum_in s) ≤ s.total) (carried : (k : ℕ) → k < count_in s → Carried s k) where
  -- a quantum is within its range and within the total
  quantum_ranged : (k : ℕ) → k < count_in s → (16 ≤ quantum_in s k) × (quantum_in s k ≤ 1024) × (quantum_in s k ≤ s.total)
  quantum_ranged k l =
      let a = and_parts (leb 16 (quantum_in s k)) (leb (quantum_in s k) 1024) (carried k l).1 in
      (leb-true 16 (quantum_in s k) a.0, leb-true (quantum_in s k) 1024 a.1, omega (arith, others_split (count_in s) k (quantum_in s) l, within))

  rate-carried : (k : ℕ) → k < count_in s → (rate_in s k).p * s.total ≤ quantum_in s k * (rate_in s k).q
  rate-carried k l = leb-true ((rate_in s k).p * s.total) (quantum_in s k * (rate_in s k).q) (carried k l).2

  latency_most : count_in s ≤ 8 → (k : ℕ) → k < count_in s → (terms_in s k).latency ≤ 4194304
  latency_most few k l =
      let r = rate_ranged (rate_in s k) (carried k l).0 in
      let q = quantum_ranged k l in
      latency_small (rate_in s k).p (rate_in s k).q (quantum_in s k) s.total (count_in s) r.1 r.2 q.0 q.1 (rate-carried k l) few

  -- so no reserved client is turned away for its latency
  terms-ok : count_in s ≤ 8 → (k : ℕ) → k < count_in s → terms_ok (terms_in s k) ≡ true
  terms-ok few k l =
      let r = rate_ranged (rate_in s k) (carried k l).0 in
      ranged_terms (terms_in s k) (carried k l).0
      (omega (arith, r.1)) (latency_most few k l)

  -- ## Opening

  pub none_first : no_clients ≡ first_clients s 0
  none_first = let f : (ℕ → Client) → Meaning = λ xs. record { count = 0; now = 0; client = xs } in
      ap f (fun_ext (λ k. ap (λ (b : Bool). new_client (cond {A = Terms} b (terms_in s k) vacant)) (sym (le-ltb k 0 (omega arith)))))

  admits_first : count_in s ≤ 8 → (n : ℕ) → n < count_in s → admits (first_clients s n) (terms_in s n) ≡ true
  admits_first few n l = ap (λ (b : Bool). b && terms_ok (terms_in s n)) (lt-ltb n 8 (omega (arith, few))) ∙ terms-ok few n l

  admission_first : count_in s ≤ 8 → (n : ℕ) → n < count_in s → admission (first_clients s n) (terms_in s n) ≡ Ok tt
  admission_first few n l = ap (λ (b : Bool). cond {A = Result (Unit {0}) NotAdmitted} b (Ok tt) (Err record {})) (admits_first few n l)

  next_first : count_in s ≤ 8 → (n : ℕ) → n < count_in s → admitted (first_clients s n) (terms_in s n) ≡ first_clients s (n + 1)
  next_first few n l =
      let f : (ℕ → Client) → Meaning = λ xs. record { count = n + 1; now = 0; client = xs } in
      ap (λ (b : Bool). cond {A = Meaning} b (record { count = n + 1; now = 0; client = at n (λ _. new_client (terms_in s n)) (first_clients s n).client }) (first_clients s n)) (admits_first few n l)
      ∙ ap f (fun_ext place)
    where
      place : (k : ℕ) → at n (λ _. new_client (terms_in s n)) (first_clients s n).client k ≡ (first_clients s (n + 1)).client k
      place k = by_test (eqb k n)
          (λ b. cond {A = Client} b (new_client (terms_in s n)) (new_client (cond {A = Terms} (ltb k n) (terms_in s k) vacant))
          ≡ new_client (cond {A = Terms} (ltb k (n + 1)) (terms_in s k) vacant))
          (λ e.
          let z = eqb-true k n e in
          ap (λ (j : ℕ). new_client (terms_in s j)) (sym z)
          ∙ ap (λ (b : Bool). new_client (cond {A = Terms} b (terms_in s k) vacant)) (sym (lt-ltb k (n + 1) (omega (arith, z)))))
          (λ e.
          let n' = eqb-false k n e in
          ap (λ (b : Bool). new_client (cond {A = Terms} b (terms_in s k) vacant)) (same n'))
        where
          same : k ≢ n → ltb k n ≡ ltb k (n + 1)
          same n' = ⊎_elim (λ (l : k < n). lt-ltb k n l ∙ sym (lt-ltb k (n + 1) (omega arith))) (λ g. le-ltb k n g ∙ sym (le-ltb k (n + 1) (omega (arith, g, n')))) (cases_lt k n)

  -- the share that comes in next, as a loop over the reserved finds it
  module _ (few : count_in s ≤ 8) (xs : List Reserved) (list : xs ≡ take (count_in s) s.reserved) (n : ℕ) (l : n < length xs) where
    abbrev next : Reserved
    next = get_or xs n no_share

    low : n < count_in s
    low = omega (arith, l, ap (λ (ys : List Reserved). length ys) list, length-take (count_in s) s.reserved)

    next-is : next ≡ share_in s n
    next-is = ap (λ (ys : List Reserved). get_or ys n no_share) list ∙ get_or-take (count_in s) s.reserved n no_share low

    pub next_ranged : (16 ≤ next.quantum) × (next.quantum ≤ s.total)
    next_ranged = let q = quantum_ranged n low in subst (λ (y : Reserved). (16 ≤ y.quantum) × (y.quantum ≤ s.total)) (sym next-is) (q.0, q.2)

    -- with the terms that the code makes of it
    module _ (θ : ℕ) (e : θ ≡ theta (count_in s) s.total next.quantum) (terms : Terms) (f : terms ≡ record { rate = next.rate; latency = min (latency_for next.rate.p next.rate.q θ) 4294967295 }) where
      terms-are : terms ≡ terms_in s n
      terms-are =
          let late : Reserved → Terms = λ y. record { rate = y.rate; latency = latency_for y.rate.p y.rate.q (theta (count_in s) s.total y.quantum) } in
          let whole : late next ≡ terms_in s n = ap late next-is in
          f ∙ ap (λ (k : ℕ). record { rate = next.rate; latency = min (latency_for next.rate.p next.rate.q k) 4294967295 }) e
          ∙ terms_whole next.rate (latency_for next.rate.p next.rate.q (theta (count_in s) s.total next.quantum)) (omega (arith, ap (λ (t : Terms). t.latency) whole, latency_most few n low)) ∙ whole

      -- it is granted, and the table has it then
      pub next_in : (m : Meaning) → m ≡ first_clients s n → (admission m terms ≡ Ok tt) × (admitted m terms ≡ first_clients s (n + 1))
      next_in m h = (
        ap (λ (y : Meaning). admission y terms) h ∙ ap (admission (first_clients s n)) terms-are ∙ admission_first few n low,
        ap (λ (y : Meaning). admitted y terms) h ∙ ap (admitted (first_clients s n)) terms-are ∙ next_first few n low,
      )

  pub unused_first : Unused (first_clients s (count_in s))
  unused_first = record { start = refl; clocks = λ k l. refl; empty = λ k l. refl }

  -- the ring as it opens
  abbrev m₀ : Meaning
  m₀ = first_clients s (count_in s)

  abbrev r₀ : Ring
  r₀ = fresh_ring s

  place-first : (k : ℕ) → place_of r₀ k ≡ fresh_place (share_in s k)
  place-first k = get_or-map fresh_place s.reserved k no_share

  quantum-first : (k : ℕ) → quantum_of r₀ k ≡ quantum_in s k
  quantum-first k = ap (λ (p : Place). p.quantum) (place-first k)

  pub within_first : sum (count_in s) (quantum_of r₀) ≤ s.total
  within_first = omega (arith, within, sum_le (count_in s) (quantum_of r₀) (quantum_in s) (λ k l. omega (arith, quantum-first k)))

  each_first : (k : ℕ) → k < count_in s → Share (count_in s) s.total (quantum_of r₀ k) (deficit_of r₀ k) false (m₀.client k)
  each_first k l =
      let q = quantum_ranged k l in
      let y : new_client (terms_in s k) ≡ m₀.client k =
      ap (λ (b : Bool). new_client (cond {A = Terms} b (terms_in s k) vacant)) (sym (lt-ltb k (count_in s) l)) in
      subst (λ (x : Client). Share (count_in s) s.total (quantum_of r₀ k) (deficit_of r₀ k) false x) y
      (subst (λ (p : Place). Share (count_in s) s.total p.quantum p.deficit false (new_client (terms_in s k))) (sym (place-first k))
      (share_new (count_in s) s.total (quantum_in s k) (terms_in s k) q.0 q.1 (rate-carried k l) refl))

  pub sound_first : Sound (first_clients s (count_in s)) (fresh_ring s)
  sound_first = record {
    within = λ z. omega arith;
    paced = record {
      each = each_first;
      there = λ z. absurd (clash z);
      own = λ z. absurd (clash z);
      seen = λ z. absurd (clash z);
      bound = λ c l. resting m₀ r₀ c (gone_round (count_in s) (count_in s - 1) c) l each_first (λ z. absurd (clash z)) refl;
    };
  }
