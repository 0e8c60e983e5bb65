-- A submission to a chain: what it answers, what it leaves, and that the chain still stands.
use Rattle.std.proofs.Common.{◌≡◌, ℕ, ◌+◌, ◌*◌, ◌/◌, ◌<◌, ◌≤◌, min, max, Bool, true, cond, List, length, Ok, sym, ap, ◌∙◌, subst, mul-le-mul, arith}
use native.Mathlib.Nat.{min-eq_left}
use Rattle.server.specs.declared.view.View.{View}
use Rattle.server.specs.Meaning.{Client, Meaning}
use Rattle.server.specs.Calls.{DueAnswer, asked, view_of, at, start_at, due_of, entered, granting, granted, submitted}
use Rattle.server.specs.Laws.{Lawful}
use Rattle.server.proofs.Meanings.{at_elim, at_is, at_here, at_other}
use Rattle.server.proofs.Grants.{asked_ok, grants, granting_is, clock_small}
use Rattle.join.specs.Link.{joined, chained, Linked, Stands}
use Rattle.join.specs.Steps.{joined_length, linked_entered, joined_entered}

module _ (count t : ℕ) (ss : ℕ → List ℕ) (m n : Meaning) (S : Stands count t ss m n) (c : ℕ) (known : c < count) where
  abbrev J : Meaning
  J = chained count t ss m n

  abbrev x : Client
  x = J.client c

  some : 0 < count
  some = omega (arith, known)

  -- what the two servers tell of a client, as the chain tells it
  pub view_both : (a b : View) → Ok a ≡ asked m c view_of → Ok b ≡ asked n c view_of → (late w : ℕ) → late ≡ min (a.terms.latency + b.terms.latency) 4294967295 → w ≡ min (a.waiting + b.waiting) 255
      → record { terms = record { rate = a.terms.rate; latency = late }; clock = a.clock; waiting = w } ≡ view_of x
  view_both a b ea eb late w el ew =
      let a-is = (asked_ok m c a view_of ea).1 in
      let b-is = (asked_ok n c b view_of eb).1 in
      let l = joined_length t (m.client c) (n.client c) (ss c) (S.links c known) in
      let late-is : late ≡ (m.client c).terms.latency + (n.client c).terms.latency = omega (arith, el, ap (λ (v : View). v.terms.latency) a-is, ap (λ (v : View). v.terms.latency) b-is, (S.links c known).sum) in
      let w-is : w ≡ length x.waiting = omega (arith, ew, ap (λ (v : View). v.waiting) a-is, ap (λ (v : View). v.waiting) b-is, l, (S.links c known).few) in
      let view : View → ℕ → ℕ → View = λ v i j. record { terms = record { rate = v.terms.rate; latency = i }; clock = v.clock; waiting = j } in
      ap (λ (v : View). view v late w) a-is ∙ ap (λ (i : ℕ). view (view_of (m.client c)) i w) late-is ∙ ap (view (view_of (m.client c)) ((m.client c).terms.latency + (n.client c).terms.latency)) w-is

  module _ (label len : ℕ) (low : 0 < len) (high : len ≤ 16) (room : length x.waiting < 8) where
    abbrev both_room : length (m.client c).waiting + length (n.client c).waiting < 8
    both_room = omega (arith, room, joined_length t (m.client c) (n.client c) (ss c) (S.links c known))

    pub chain_grants : granted J c len ≡ true
    chain_grants = grants J c len known low high room

    first-grants : granted m c len ≡ true
    first-grants = grants m c len (omega (arith, (S.counts some).0, known)) low high (omega (arith, both_room))

    abbrev next : Meaning
    next = record { count = m.count; now = m.now; client = at c (entered m.now label len) m.client }

    next_is : submitted m c label len ≡ next
    next_is = ap (λ (b : Bool). cond {A = Meaning} b next m) first-grants

    pub submit_leaves : (m' : Meaning) → m' ≡ submitted m c label len → chained count t ss m' n ≡ submitted J c label len
    submit_leaves m' e =
        let after : Meaning = record { count = count; now = t; client = at c (entered t label len) J.client } in
        ap (λ (v : Meaning). chained count t ss v n) (e ∙ next_is)
        ∙ ap (λ (f : ℕ → Client). record { count = count; now = t; client = f })
        (at_is c (entered t label len) J.client (λ k. joined (next.client k) (n.client k) (ss k))
        (ap (λ (y : Client). joined y (n.client c) (ss c)) (at_here c (entered m.now label len) m.client)
        ∙ joined_entered m.now label len (m.client c) (n.client c) (ss c) ∙ ap (λ (u : ℕ). entered u label len (J.client c)) (S.times some).0)
        (λ k ne. ap (λ (y : Client). joined y (n.client k) (ss k)) (at_other c k (entered m.now label len) m.client ne)))
        ∙ sym (ap (λ (b : Bool). cond {A = Meaning} b after J) chain_grants)

    pub submit_stands : (m' : Meaning) → m' ≡ submitted m c label len → Stands count t ss m' n
    submit_stands m' e =
        subst (λ (v : Meaning). Stands count t ss v n) (sym (e ∙ next_is))
        (record {
          eight = S.eight;
          counted = S.counted;
          counts = S.counts;
          times = S.times;
          links = λ k h. at_elim (λ y. Linked y (n.client k) (ss k)) c k (entered m.now label len) m.client
              (λ z. subst (λ (j : ℕ). Linked (entered m.now label len (m.client j)) (n.client j) (ss j)) (sym z) (linked_entered m.now label len (m.client c) (n.client c) (ss c) both_room (S.links c known)))
              (λ ne. S.links k h);
        })

    pub submit_says : Lawful J → (p late clock start due : ℕ) → start ≡ max (p * t) clock → due ≡ min (start + late) 18446744073709551615 / p
        → p ≡ x.terms.rate.p → late ≡ x.terms.latency → clock ≡ x.clock → ◌≡◌ {A = DueAnswer} (Ok due) (granting J c len)
    submit_says l p late clock start due es ed ep el ec =
        let h = l.each c known in
        let s : start ≡ start_at t x = es ∙ ap (λ (u : ℕ). max (u * t) clock) ep ∙ ap (λ (k : ℕ). max (x.terms.rate.p * t) k) ec in
        let far : x.terms.rate.p * t ≤ 1024 * 4294967296 = mul-le-mul {n₂ = 1024} {m₂ = 4294967296} (omega (arith, h.ranged.rate, h.ranged.small)) (omega (arith, S.counted)) in
        let fits : min (start + late) 18446744073709551615 ≡ start + late = min-eq_left (omega (arith, s, far, el, h.ranged.most, clock_small t x S.counted h)) in
        let d : due ≡ due_of x (start_at t x) = ed ∙ ap (λ (k : ℕ). k / p) fits ∙ ap (λ (u : ℕ). (start + late) / u) ep ∙ ap (λ (k : ℕ). (k + late) / x.terms.rate.p) s ∙ ap (λ (k : ℕ). (start_at t x + k) / x.terms.rate.p) el in
        let ok : ℕ → DueAnswer = λ k. Ok k in
        ap ok d ∙ sym (granting_is J c len chain_grants)
