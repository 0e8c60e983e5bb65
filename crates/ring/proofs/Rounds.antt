-- Turns that are sought round the ring keep its clients on time.
use Rattle.std.proofs.Common.{◌≡◌, ℕ, zero, suc, ◌+◌, ◌-◌, ◌<◌, ◌≤◌, Bool, true, false, cond, ◌&&◌, ltb, ◌≢◌, ◌⊎◌, List, length, set, Some, None, Option, sym, refl, ap, ◌∙◌, subst, inl, inr, ⊎_elim, arith, ltb-false, ltb-true, lt-ltb, le-leb, leb-true}
use borrow.Author.Tests.{clash, lt-leb}
use Rattle.std.proofs.lemmas.List.{set-set, length-set}
use Rattle.std.proofs.lemmas.Bool.{and_parts, cases_eq, cases_lt}
use Rattle.server.specs.declared.block.Block.{Block}
use Rattle.server.specs.Meaning.{Meaning}
use Rattle.server.specs.Calls.{at, entered, granted, submitted, ticked, served_to}
use Rattle.clients.specs.Held.{Kept}
use Rattle.clients.specs.Serving.{waits, front_of, served_client, goes_on, slot_leaves}
use Rattle.ring.specs.declared.turns.Place.{Place}
use Rattle.ring.specs.declared.turns.Ring.{Ring}
use Rattle.ring.specs.declared.turns.Rest.{Rest}
use Rattle.ring.specs.declared.turns.Turn.TheVariants.{Open}
use Rattle.ring.specs.Sums.{sum}
use Rattle.ring.specs.Turns.{quantum_of, deficit_of, stands_open, client_of, next_of, seek, turn_in, length_of, begun_with, rest_of, turn_to, ring_after}
use Rattle.ring.specs.Paced.{Paced}
use Rattle.ring.specs.Search.{ahead, gone_round, Sound}
use Rattle.ring.specs.SumsLemmas.{by_test}
use Rattle.ring.specs.Giving.{rest_client}
use Rattle.ring.specs.Pacing.{mine_yes, deficit_here, quanta_kept, paced_came, paced_idle, paced_opened, paced_gave}

-- ## Places round the ring

ahead_is : (K t j : ℕ) → ((t < j) × (ahead K t j ≡ j - t - 1)) ⊎ ((j ≤ t) × (ahead K t j ≡ j + K - t - 1))
ahead_is K t j = by_test (ltb t j)
    (λ b. ((t < j) × (cond b (j - t - 1) (j + K - t - 1) ≡ j - t - 1)) ⊎ ((j ≤ t) × (cond b (j - t - 1) (j + K - t - 1) ≡ j + K - t - 1)))
    (λ e. inl (ltb-true t j e, refl)) (λ e. inr (ltb-false t j e, refl))

next_is : (K t : ℕ) → ((t + 1 < K) × (next_of K t ≡ t + 1)) ⊎ ((K ≤ t + 1) × (next_of K t ≡ 0))
next_is K t = by_test (ltb (t + 1) K)
    (λ b. ((t + 1 < K) × (cond b (t + 1) 0 ≡ t + 1)) ⊎ ((K ≤ t + 1) × (cond b (t + 1) 0 ≡ 0)))
    (λ e. inl (ltb-true (t + 1) K e, refl)) (λ e. inr (ltb-false (t + 1) K e, refl))

pub next_small : (K t : ℕ) → K ≤ 8 → next_of K t < 8
next_small K t h = omega (arith, next_is K t)

module _ (K t : ℕ) (h : t < K) where
  next-lt : next_of K t < K
  next-lt = omega (arith, next_is K t)

  ahead-next : ahead K t (next_of K t) ≡ 0
  ahead-next = omega (arith, ahead_is K t (next_of K t), next_is K t)

  ahead-self : ahead K t t ≡ K - 1
  ahead-self = omega (arith, ahead_is K t t)

  ahead-lt : (j : ℕ) → j < K → ahead K t j < K
  ahead-lt j i = omega (arith, ahead_is K t j)

  ahead-other : (j : ℕ) → j < K → j ≢ t → ahead K t j < K - 1
  ahead-other j i n = omega (arith, ahead_is K t j, n)

  ahead_apart : (i j : ℕ) → i < K → j < K → i ≢ j → ahead K t i ≢ ahead K t j
  ahead_apart i j a b n e = omega (arith, ahead_is K t i, ahead_is K t j, n, e)

  -- seen from u, those behind u keep their order
  ahead-moved : (u j : ℕ) → u < K → j < K → ahead K t u < ahead K t j → ahead K u j + ahead K t u + 1 ≡ ahead K t j
  ahead-moved u j a b l = omega (arith, ahead_is K t u, ahead_is K t j, ahead_is K u j)

-- ## The search

-- u is the first after t that has a block
record First (K : ℕ) (has : ℕ → Bool) (t u : ℕ) : Type 0 where
  low : u < K
  there : has u ≡ true
  first : (j : ℕ) → j < K → has j ≡ true → ahead K t u ≤ ahead K t j

-- what a search of n clients after t found
abbrev Found : (K : ℕ) (has : ℕ → Bool) (n t : ℕ) → Option ℕ → Type 0
Found K has n t None = (j : ℕ) → j < K → ahead K t j < n → has j ≡ false
Found K has n t (Some u) = First K has t u

module _ (K : ℕ) (has : ℕ → Bool) where
  -- the next client has none: what is found from there on is found
  passed : (n t : ℕ) → t < K → has (next_of K t) ≡ false → (o : Option ℕ) → Found K has n (next_of K t) o → Found K has (suc n) t o
  passed n t h e None s = λ j i l. ⊎_elim
      (λ (z : j ≡ next_of K t). ap has z ∙ e)
      (λ z.
      let low = next-lt K t h in
      let a = ahead-next K t h in
      let apart = ahead_apart K t h j (next_of K t) i low z in
      s j i (omega (arith, ahead-moved K t h (next_of K t) j low i (omega (arith, apart, a)), l)))
      (cases_eq j (next_of K t))
  passed n t h e (Some u) s =
      let low = next-lt K t h in
      let a = ahead-next K t h in
      let moved : (j : ℕ) → j < K → has j ≡ true → ahead K (next_of K t) j + 1 ≡ ahead K t j = λ j i w.
      (let apart = ahead_apart K t h j (next_of K t) i low (λ z. clash (sym e ∙ ap has (sym z) ∙ w)) in omega (arith, a, ahead-moved K t h (next_of K t) j low i (omega (arith, apart, a)))) in
      record { low = s.low; there = s.there; first = λ j i w. omega (arith, s.first j i w, moved j i w, moved u s.low s.there) }

  finds : (n t : ℕ) → t < K → Found K has n t (seek K has n (next_of K t))
  finds zero t h = λ j i l. absurd (omega arith)
  finds (suc n) t h = by_test (has (next_of K t))
      (λ b. Found K has (suc n) t (cond {A = Option ℕ} b (Some (next_of K t)) (seek K has n (next_of K (next_of K t)))))
      (λ e. record { low = next-lt K t h; there = e; first = λ j i w. omega (arith, ahead-next K t h) })
      (λ e. passed n t h e (seek K has n (next_of K (next_of K t))) (finds n (next_of K t) (next-lt K t h)))

pub seek_passes : (K : ℕ) (has : ℕ → Bool) (n c : ℕ) → 0 < n → has c ≡ false → seek K has n c ≡ seek K has (n - 1) (next_of K c)
seek_passes K has zero c some e = absurd (omega arith)
seek_passes K has (suc n) c some e =
    ap (λ (b : Bool). cond {A = Option ℕ} b (Some c) (seek K has n (next_of K c))) e ∙ ap (λ (k : ℕ). seek K has k (next_of K c)) (let z : n ≡ suc n - 1 = omega arith in z)

pub seek_stops : (K : ℕ) (has : ℕ → Bool) (n c : ℕ) → 0 < n → has c ≡ true → seek K has n c ≡ Some c
seek_stops K has zero c some e = absurd (omega arith)
seek_stops K has (suc n) c some e = ap (λ (b : Bool). cond {A = Option ℕ} b (Some c) (seek K has n (next_of K c))) e

-- ## Who has had a turn before whom

module _ (K t : ℕ) (h : t < K) where
  round-own : (j : ℕ) → j < K → j ≢ t → gone_round K t t j ≡ false
  round-own j i n = lt-leb (ahead K t t) (ahead K t j) (omega (arith, ahead-self K t h, ahead-other K t h j i n))

  round-seen : (c : ℕ) → c < K → gone_round K t c t ≡ true
  round-seen c i = le-leb (ahead K t c) (ahead K t t) (omega (arith, ahead-self K t h, ahead-lt K t h c i))

waits_parts : (m : Meaning) (c : ℕ) → waits m c ≡ true → (c < m.count) × (0 < length (m.client c).waiting)
waits_parts m c e =
    let a = and_parts (ltb c m.count) (ltb 0 (length (m.client c).waiting)) e in
    (ltb-true c m.count a.0, ltb-true 0 (length (m.client c).waiting) a.1)

pub waits_from : (m : Meaning) (c : ℕ) → c < m.count → 0 < length (m.client c).waiting → waits m c ≡ true
waits_from m c l w = ap (λ (b : Bool). b && ltb 0 (length (m.client c).waiting)) (lt-ltb c m.count l) ∙ lt-ltb 0 (length (m.client c).waiting) w

waits_none : (m : Meaning) (c : ℕ) → c < m.count → waits m c ≡ false → length (m.client c).waiting ≡ 0
waits_none m c l e = ⊎_elim (λ (w : 0 < length (m.client c).waiting). absurd (clash (sym e ∙ waits_from m c l w))) (λ n. omega (arith, n)) (cases_lt 0 (length (m.client c).waiting))

-- ## A slot

module _ (m : Meaning) (r : Ring) (kept : Kept m) (full : length r.places ≡ 8) (fits : sum m.count (quantum_of r) ≤ r.total) where
  -- a unit of the open turn's client
  round-gave : stands_open r.turn ≡ true → Paced m r (gone_round m.count (client_of r.turn)) → Paced (served_to (client_of r.turn) m) (turn_to r (client_of r.turn) (rest_of (client_of r.turn) (deficit_of r (client_of r.turn)) (m.client (client_of r.turn)).waiting)) (gone_round m.count (client_of r.turn))
  round-gave o P =
      let l = P.there o in
      paced_gave m r (gone_round m.count (client_of r.turn)) (gone_round m.count (client_of r.turn)) kept full fits P o
      (λ _ j i n. round-own m.count (client_of r.turn) l j i n) (λ _ c i n. round-seen m.count (client_of r.turn) l c i) (λ c i n w j _ _ g. g)

  -- the first after the turn opens its own
  round-opened : stands_open r.turn ≡ false → client_of r.turn < m.count → Paced m r (gone_round m.count (client_of r.turn)) → (u : ℕ) → First m.count (waits m) (client_of r.turn) u
      → Paced m (turn_to r u (record { deficit = deficit_of r u + quantum_of r u - length_of (front_of (m.client u).waiting); turn = Open u })) (gone_round m.count u)
  round-opened closed h P u f =
      let behind : (c : ℕ) → c < m.count → c ≢ u → 0 < length (m.client c).waiting → ahead m.count (client_of r.turn) u < ahead m.count (client_of r.turn) c = λ c i n w.
      (let apart = ahead_apart m.count (client_of r.turn) h c u i f.low n in omega (arith, f.first c i (waits_from m c i w), apart)) in
      paced_opened m r (gone_round m.count (client_of r.turn)) (gone_round m.count u) kept full fits P u closed f.low (waits_parts m u f.there).1
      (λ j i n. round-own m.count u f.low j i n)
      (λ c i n. round-seen m.count u f.low c i)
      (λ c i n w. lt-leb (ahead m.count (client_of r.turn) c) (ahead m.count (client_of r.turn) u) (behind c i n w))
      (λ c i n w j e _ g.
      let l = leb-true (ahead m.count (client_of r.turn) c) (ahead m.count (client_of r.turn) j) g in
      let y = behind c i n w in
      le-leb (ahead m.count u c) (ahead m.count u j)
      (omega (arith, l, ahead-moved m.count (client_of r.turn) h u c f.low i y, ahead-moved m.count (client_of r.turn) h u j f.low e (omega (arith, l, y)))))

-- a submission keeps a ring sound
pub sound_submitted : (m : Meaning) (r : Ring) (c label len : ℕ) → Sound m r → Sound (submitted m c label len) r
sound_submitted m r c label len s = by (granted m c len)
  where
    by : (d : Bool) → Sound (cond {A = Meaning} d (record { count = m.count; now = m.now; client = at c (entered m.now label len) m.client }) m) r
    by true = record { within = s.within; paced = paced_came m r (gone_round m.count (client_of r.turn)) (gone_round m.count (client_of r.turn)) s.paced c label len s.paced.own s.paced.seen (λ _ _ _ _ _ _ g. g) }
    by false = s

-- what the search of all clients after the turn found
searched : (m : Meaning) (r : Ring) → Sound m r → Found m.count (waits m) m.count (client_of r.turn) (seek m.count (waits m) m.count (next_of m.count (client_of r.turn)))
searched m r s = ⊎_elim
    (λ (h : 0 < m.count). finds m.count (waits m) m.count (client_of r.turn) (s.within h))
    (λ z.
    let e : m.count ≡ 0 = omega (arith, z) in
    subst (λ (n : ℕ). Found m.count (waits m) m.count (client_of r.turn) (seek m.count (waits m) n (next_of m.count (client_of r.turn)))) (sym e) (λ j i _. absurd (omega (arith, i, e))))
    (cases_lt 0 m.count)

-- whose turn it is has a block
pub turn_known : (m : Meaning) (r : Ring) → Sound m r → (c : ℕ) → turn_in m r ≡ Some c → (c < m.count) × (0 < length (m.client c).waiting)
turn_known m r s c = by_test (stands_open r.turn)
    (λ b. cond {A = Option ℕ} b (Some (client_of r.turn)) (seek m.count (waits m) m.count (next_of m.count (client_of r.turn))) ≡ Some c → (c < m.count) × (0 < length (m.client c).waiting))
    (λ o e.
    let z : client_of r.turn ≡ c = cc in
    let l = s.paced.there o in
    subst (λ (k : ℕ). (k < m.count) × (0 < length (m.client k).waiting)) z (l, ((s.paced.each (client_of r.turn) l).inside (mine_yes r (client_of r.turn) o refl)).0))
    (λ o e. waits_parts m c (subst (Found m.count (waits m) m.count (client_of r.turn)) e (searched m r s)).there)

turn_again : (r : Ring) (u : ℕ) (x y : Rest) → turn_to (turn_to r u x) u y ≡ turn_to r u y
turn_again r u x y =
    let f : List Place → Ring = λ ps. record { total = r.total; places = ps; turn = y.turn } in
    let p : ℕ → Place = λ q. record { quantum = q; deficit = y.deficit } in
    ap f (set-set r.places u (record { quantum = quantum_of r u; deficit = x.deficit }) (p (quantum_of (turn_to r u x) u)))
    ∙ ap (λ (q : ℕ → ℕ). f (set r.places u (p (q u)))) (quanta_kept r u x)

leaves_none : (m : Meaning) → m.now < 4294967295 → slot_leaves m None ≡ ticked m
leaves_none m early = ap (λ (b : Bool). cond {A = Meaning} b (ticked m) m) (lt-ltb m.now 4294967295 early)

pub leaves_served : (m : Meaning) (c : ℕ) → m.now < 4294967295 → c < m.count → 0 < length (m.client c).waiting → slot_leaves m (Some c) ≡ served_to c m
leaves_served m c early l w =
    ap (λ (b : Bool). cond {A = Meaning} b (goes_on m (served_client m (Some c))) m) (lt-ltb m.now 4294967295 early)
    ∙ ap (λ (b : Bool). goes_on m (cond {A = Option ℕ} b (Some c) None)) (waits_from m c l w)

-- a ring whose turn has moved to c
turned_sound : (m : Meaning) (r : Ring) (c d : ℕ) (bs : List Block) → c < m.count → Paced m (turn_to r c (rest_of c d bs)) (gone_round m.count c) → Sound m (turn_to r c (rest_of c d bs))
turned_sound m r c d bs l P =
    let e = sym (rest_client c d bs) in
    record {
      within = λ _. subst (λ (k : ℕ). k < m.count) e l;
      paced = subst (λ (k : ℕ). Paced m (turn_to r c (rest_of c d bs)) (gone_round m.count k)) e P;
    }

sound_is : {m m' : Meaning} {r r' : Ring} → m ≡ m' → r ≡ r' → Sound m r → Sound m' r'
sound_is {m} {m'} {r} {r'} e f s = subst (λ (x : Ring). Sound m' x) f (subst (λ (x : Meaning). Sound x r) e s)

module _ (m : Meaning) (r : Ring) (kept : Kept m) (full : length r.places ≡ 8) (fits : sum m.count (quantum_of r) ≤ r.total) (early : m.now < 4294967295) (s : Sound m r) where
  sound-open : stands_open r.turn ≡ true → Sound (slot_leaves m (Some (client_of r.turn))) (ring_after m r (Some (client_of r.turn)))
  sound-open o =
      let l = s.paced.there o in
      let w = ((s.paced.each (client_of r.turn) l).inside (mine_yes r (client_of r.turn) o refl)).0 in
      let x : Sound (served_to (client_of r.turn) m) (turn_to r (client_of r.turn) (rest_of (client_of r.turn) (deficit_of r (client_of r.turn)) (m.client (client_of r.turn)).waiting)) =
      turned_sound (served_to (client_of r.turn) m) r (client_of r.turn) (deficit_of r (client_of r.turn)) (m.client (client_of r.turn)).waiting l (round-gave m r kept full fits o s.paced) in
      sound_is (sym (leaves_served m (client_of r.turn) early l w))
      (ap (λ (b : Bool). turn_to r (client_of r.turn) (rest_of (client_of r.turn) (cond b (deficit_of r (client_of r.turn)) (deficit_of r (client_of r.turn) + quantum_of r (client_of r.turn) - length_of (front_of (m.client (client_of r.turn)).waiting))) (m.client (client_of r.turn)).waiting)) (sym o))
      x

  sound-found : stands_open r.turn ≡ false → (o : Option ℕ) → Found m.count (waits m) m.count (client_of r.turn) o → Sound (slot_leaves m o) (ring_after m r o)
  sound-found closed None f = sound_is (sym (leaves_none m early)) refl (record {
    within = s.within;
    paced = paced_idle m r (gone_round m.count (client_of r.turn)) (λ c l. waits_none m c l (f c l (ahead-lt m.count (client_of r.turn) (s.within (omega arith)) c l))) s.paced;
  })
  sound-found closed (Some u) f =
      let w = (waits_parts m u f.there).1 in
      let begun : Rest = record { deficit = deficit_of r u + quantum_of r u - length_of (front_of (m.client u).waiting); turn = Open u } in
      let opened : Ring = turn_to r u begun in
      let fits' : sum m.count (quantum_of opened) ≤ r.total = subst (λ (q : ℕ → ℕ). sum m.count q ≤ r.total) (sym (quanta_kept r u begun)) fits in
      let P = round-opened m r kept full fits closed (s.within (omega (arith, f.low))) s.paced u f in
      let x : Sound (served_to u m) (turn_to opened u (rest_of u (deficit_of opened u) (m.client u).waiting)) =
      turned_sound (served_to u m) opened u (deficit_of opened u) (m.client u).waiting f.low
      (round-gave m opened kept (length-set r.places u (record { quantum = quantum_of r u; deficit = begun.deficit }) ∙ full) fits' refl P) in
      let here : deficit_of opened u ≡ begun.deficit = deficit_here r u begun (omega (arith, kept.eight, full, f.low)) in
      let same : begun.deficit ≡ begun_with m r u = ap (λ (b : Bool). cond b (deficit_of r u) (deficit_of r u + quantum_of r u - length_of (front_of (m.client u).waiting))) (sym closed) in
      sound_is (sym (leaves_served m u early f.low w))
      (ap (λ (d : ℕ). turn_to opened u (rest_of u d (m.client u).waiting)) (here ∙ same) ∙ turn_again r u begun (rest_of u (begun_with m r u) (m.client u).waiting))
      x

  -- and so does a slot
  pub sound_slot : Sound (slot_leaves m (turn_in m r)) (ring_after m r (turn_in m r))
  sound_slot = by_test (stands_open r.turn)
      (λ b. let who = cond {A = Option ℕ} b (Some (client_of r.turn)) (seek m.count (waits m) m.count (next_of m.count (client_of r.turn))) in Sound (slot_leaves m who) (ring_after m r who))
      sound-open
      (λ o. sound-found o (seek m.count (waits m) m.count (next_of m.count (client_of r.turn))) (searched m r s))
