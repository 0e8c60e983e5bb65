-- The first server of a chain serves a slot, and what departs goes to the second: the chain means the same.
use Rattle.std.specs.Prelude.{◌≡◌, ℕ, ◌+◌, ◌*◌, ◌<◌, ◌≤◌, Bool, true, false, cond, List, length, Ok, Err, ◌==◌, nat_le, nat_lt, refl}
use Rattle.std.proofs.Common.{sym, ap, subst, arith, eqb-true, lt-ltb, le-leb}
use Rattle.server.specs.declared.block.Departure.{Departure}
use Rattle.server.specs.declared.block.Served.TheVariants.{Nothing, Unit as OneUnit, Departed}
use Rattle.server.specs.Meaning.{Client, Meaning}
use Rattle.server.specs.Calls.{SlotAnswer, at, serve, entered, served_to, granted, submitted, Went, Slotted}
use Rattle.server.specs.Laws.{Each, Lawful}
use Rattle.server.proofs.Meanings.{at_elim}
use Rattle.server.proofs.Answers.{unit_stays, departed_length}
use Rattle.join.specs.Starts.{at_row, pushed, put_in, noted}
use Rattle.join.specs.Link.{joined, Linked, handed}
use Rattle.join.specs.Steps.{linked_unit, linked_passed}

-- the first has answered, and what departed was submitted to the second
pub record Passed (count : ℕ) (ss ss' : ℕ → List ℕ) (m m' n n' : Meaning) : Type 0 where
  pub links : (k : ℕ) → k < count → Linked (m'.client k) (n'.client k) (ss' k)
  pub same : (k : ℕ) → joined (m'.client k) (n'.client k) (ss' k) ≡ joined (m.client k) (n.client k) (ss k)
  pub ticks : m'.now ≡ m.now + 1
  pub stays : n'.now ≡ n.now
  pub first : m'.count ≡ m.count
  pub second : n'.count ≡ n.count

module _ (count t : ℕ) (ss : ℕ → List ℕ) (m n : Meaning) (eight : count ≤ 8) (cm : m.count ≡ count) (cn : n.count ≡ count) (tm : m.now ≡ t) (tn : n.now ≡ t + 1)
    (links : (k : ℕ) → k < count → Linked (m.client k) (n.client k) (ss k)) (lawful : Lawful m) where
  passed-nothing : (m' : Meaning) → Went m Nothing m' → Passed count ss ss m m' n n
  passed-nothing m' w = subst (λ (z : Meaning). Passed count ss ss m z n n) (sym w)
      (record { links = links; same = λ k. refl; ticks = refl; stays = refl; first = refl; second = refl })

  passed-unit : (m' : Meaning) (c : ℕ) → Went m (OneUnit c) m' → Passed count ss ss m m' n n
  passed-unit m' c w =
      let known : c < count = omega (arith, w.known, cm) in
      let step = linked_unit (m.client c) (n.client c) (ss c) (unit_stays c c (m.client c).waiting w.says) (links c known) in
      subst (λ (z : Meaning). Passed count ss ss m z n n) (sym w.leaves)
      (record {
        links = λ k h. at_elim (λ x. Linked x (n.client k) (ss k)) c k serve m.client (λ e. subst (λ (j : ℕ). Linked (serve (m.client j)) (n.client j) (ss j)) (sym e) step.0) (λ ne. links k h);
        same = λ k. at_elim (λ x. joined x (n.client k) (ss k) ≡ joined (m.client k) (n.client k) (ss k)) c k serve m.client
            (λ e. subst (λ (j : ℕ). joined (serve (m.client j)) (n.client j) (ss j) ≡ joined (m.client j) (n.client j) (ss j)) (sym e) step.1) (λ ne. refl);
        ticks = refl;
        stays = refl;
        first = refl;
        second = refl;
      })

  module _ (d : Departure) (m' : Meaning) (w : Went m (Departed d) m') where
    abbrev c : ℕ
    c = d.client

    known : d.client < count
    known = omega (arith, w.known, cm)

    -- the second takes what departs from the first
    takes : granted n d.client d.length ≡ true
    takes =
        let u = departed_length d.client (m.client d.client).waiting d w.says (lawful.each d.client w.known).shaped in
        let t1 : nat_lt d.client n.count ≡ true = lt-ltb d.client n.count (omega (arith, cn, known)) in
        let t2 : nat_lt 0 d.length ≡ true = lt-ltb 0 d.length u.0 in
        let t3 : nat_le d.length 16 ≡ true = le-leb d.length 16 u.1 in
        let t4 : nat_lt (length (n.client d.client).waiting) 8 ≡ true = lt-ltb (length (n.client d.client).waiting) 8 (omega (arith, w.waits, (links d.client known).few)) in
        simp (t1, t2, t3, t4)

    abbrev more : Client → Client
    more = entered n.now d.label d.length

    abbrev next : Meaning
    next = record { count = n.count; now = n.now; client = at d.client more n.client }

    next_is : submitted n d.client d.label d.length ≡ next
    next_is = ap (λ (b : Bool). cond {A = Meaning} b next n) takes

    abbrev rows : ℕ → List ℕ
    rows = at_row d.client (pushed d.start) ss

    rows_is : put_in d.client d.start ss ≡ rows
    rows_is = ap (λ (b : Bool). cond {A = ℕ → List ℕ} b rows ss) (lt-ltb d.client 8 (omega (arith, known, eight)))

    step : (u : ℕ) → u ≡ t + 1 → Linked (serve (m.client c)) (entered u d.label d.length (n.client c)) (pushed d.start (ss c))
        × (joined (serve (m.client c)) (entered u d.label d.length (n.client c)) (pushed d.start (ss c)) ≡ joined (m.client c) (n.client c) (ss c))
    step u e =
        subst (λ (v : ℕ). Linked (serve (m.client c)) (entered v d.label d.length (n.client c)) (pushed d.start (ss c))
        × (joined (serve (m.client c)) (entered v d.label d.length (n.client c)) (pushed d.start (ss c)) ≡ joined (m.client c) (n.client c) (ss c))) (sym e)
        (linked_passed (m.client c) (n.client c) (ss c) t c d (m.client c).waiting w.says
        (subst (λ (v : ℕ). Each (λ b. (m.client c).terms.rate.p * (v + 1) ≤ b.start + (m.client c).terms.latency) (m.client c).waiting) tm (lawful.each c w.known).debt)
        (links c known))

    after-linked : (k : ℕ) → k < count → Linked (at c serve m.client k) (at c more n.client k) (rows k)
    after-linked k h = by (k == c) refl
      where
        by : (b : Bool) → (k == c) ≡ b → Linked (cond b (serve (m.client k)) (m.client k)) (cond b (more (n.client k)) (n.client k)) (cond {A = List ℕ} b (pushed d.start (ss k)) (ss k))
        by true e = subst (λ (j : ℕ). Linked (serve (m.client j)) (more (n.client j)) (pushed d.start (ss j))) (sym (eqb-true k c e)) (step n.now tn).0
        by false e = links k h

    after-joined : (k : ℕ) → joined (at c serve m.client k) (at c more n.client k) (rows k) ≡ joined (m.client k) (n.client k) (ss k)
    after-joined k = by (k == c) refl
      where
        by : (b : Bool) → (k == c) ≡ b → joined (cond b (serve (m.client k)) (m.client k)) (cond b (more (n.client k)) (n.client k)) (cond {A = List ℕ} b (pushed d.start (ss k)) (ss k)) ≡ joined (m.client k) (n.client k) (ss k)
        by true e = subst (λ (j : ℕ). joined (serve (m.client j)) (more (n.client j)) (pushed d.start (ss j)) ≡ joined (m.client j) (n.client j) (ss j)) (sym (eqb-true k c e)) (step n.now tn).1
        by false e = refl

    passed-departed : Passed count ss (put_in d.client d.start ss) m m' n (submitted n d.client d.label d.length)
    passed-departed =
        subst (λ (z : Meaning). Passed count ss (put_in d.client d.start ss) m z n (submitted n d.client d.label d.length)) (sym w.leaves)
        (subst (λ (z : Meaning). Passed count ss (put_in d.client d.start ss) m (served_to c m) n z) (sym next_is)
        (subst (λ (z : ℕ → List ℕ). Passed count ss z m (served_to c m) n next) (sym rows_is)
        (record {
          links = after-linked;
          same = after-joined;
          ticks = refl;
          stays = refl;
          first = refl;
          second = refl;
        })))

  pub passed : (r : SlotAnswer) (m' : Meaning) → t < 4294967295 → Slotted m r m' → Passed count ss (noted r ss) m m' n (handed r n)
  passed (Ok Nothing) m' early w = passed-nothing m' w.1
  passed (Ok (OneUnit c)) m' early w = passed-unit m' c w.1
  passed (Ok (Departed d)) m' early w = passed-departed d m' w.1
  passed (Err e) m' early w = absurd (omega (arith, w.0, tm, early))
