-- The second server of a chain serves a slot: the chain has gone one slot on.
use Rattle.std.specs.Prelude.{◌≡◌, ℕ, ◌+◌, ◌<◌, Bool, cond, ◌≢◌, List, drop, Ok, Err, slice_index, refl}
use Rattle.std.proofs.Common.{sym, ap, subst, ◌∙◌, arith, eq-eqb, ne_eqb}
use Rattle.server.specs.declared.block.Departure.{Departure}
use Rattle.server.specs.declared.block.Served.{Served}
use Rattle.server.specs.declared.block.Served.TheVariants.{Nothing, Unit as OneUnit, Departed}
use Rattle.server.specs.Meaning.{Client, Meaning}
use Rattle.server.specs.Calls.{SlotAnswer, at, serve, served_to, Serves, Went, Slotted}
use Rattle.server.proofs.Meanings.{at_elim, at_here, at_other, at_is}
use Rattle.server.proofs.Answers.{block_departs, unit_stays}
use Rattle.join.specs.Starts.{at_row, told, staying}
use Rattle.join.specs.Link.{joined, chained, Linked, Stands}
use Rattle.join.specs.Steps.{stay, linked_left, joined_left, joined_length, retold, gone_joined}

pub row_here : (c : ℕ) (f : List ℕ → List ℕ) (ss : ℕ → List ℕ) → at_row c f ss c ≡ f (ss c)
row_here c f ss = ap (λ (b : Bool). cond {A = List ℕ} b (f (ss c)) (ss c)) (eq-eqb c c refl)

pub row_other : (c k : ℕ) (f : List ℕ → List ℕ) (ss : ℕ → List ℕ) → k ≢ c → at_row c f ss k ≡ ss k
row_other c k f ss ne = ap (λ (b : Bool). cond {A = List ℕ} b (f (ss k)) (ss k)) (ne_eqb k c ne)

-- the second has answered, and the starts that stay are ss'
pub record Left (count t : ℕ) (ss ss' : ℕ → List ℕ) (m n n' : Meaning) (s : Served) : Type 0 where
  pub links : (k : ℕ) → k < count → Linked (m.client k) (n'.client k) (ss' k)
  pub went : Went (chained count t ss m n) s (chained count (t + 1) ss' m n')
  pub ticks : n'.now ≡ n.now + 1
  pub same : n'.count ≡ n.count

module _ (count t : ℕ) (ss : ℕ → List ℕ) (m n : Meaning) (S : Stands count t ss m n) (some : 0 < count) where
  -- client c of the second is served
  module _ (c : ℕ) (s : Served) (v : Serves n c s (served_to c n)) (ss' : ℕ → List ℕ) (here : ss' c ≡ stay (ss c) (n.client c).waiting) (there : (k : ℕ) → k ≢ c → ss' k ≡ ss k) where
    known : c < count
    known = omega (arith, v.known, (S.counts some).1)

    all-linked : (k : ℕ) → k < count → Linked (m.client k) (at c serve n.client k) (ss' k)
    all-linked k h = at_elim (λ y. Linked (m.client k) y (ss' k)) c k serve n.client
        (λ e. subst (λ (j : ℕ). Linked (m.client j) (serve (n.client j)) (ss' j)) (sym e)
        (subst (Linked (m.client c) (serve (n.client c))) (sym here) (linked_left (m.client c) (n.client c) (ss c) (S.links c known))))
        (λ ne. subst (Linked (m.client k) (n.client k)) (sym (there k ne)) (S.links k h))

    leaves : chained count (t + 1) ss' m (served_to c n) ≡ served_to c (chained count t ss m n)
    leaves = ap (λ (f : ℕ → Client). record { count = count; now = t + 1; client = f })
        (at_is c serve (λ k. joined (m.client k) (n.client k) (ss k)) (λ k. joined (m.client k) (at c serve n.client k) (ss' k))
        (ap (λ (y : Client). joined (m.client c) y (ss' c)) (at_here c serve n.client) ∙ ap (joined (m.client c) (serve (n.client c))) here
        ∙ joined_left (m.client c) (n.client c) (ss c) (S.links c known) v.waits)
        (λ k ne. ap (λ (y : Client). joined (m.client k) y (ss' k)) (at_other c k serve n.client ne) ∙ ap (joined (m.client k) (n.client k)) (there k ne)))

    serves : Serves (chained count t ss m n) c (retold (slice_index (ss c) 0) s) (chained count (t + 1) ss' m (served_to c n))
    serves = record {
      known = known;
      waits = omega (arith, v.waits, joined_length t (m.client c) (n.client c) (ss c) (S.links c known));
      says = ap (retold (slice_index (ss c) 0)) v.says ∙ gone_joined (m.client c).terms.latency c (ss c) (n.client c).waiting _ (S.links c known).behind v.waits;
      leaves = leaves;
    }

  left-departed : (d : Departure) (n' : Meaning) → Went n (Departed d) n' → Left count t ss (staying (Ok (Departed d)) ss) m n n' (told (Ok (Departed d)) ss)
  left-departed d n' w =
      let c = d.client in
      let v : Serves n c (Departed d) (served_to c n) = record { known = w.known; waits = w.waits; says = w.says; leaves = refl } in
      let here : at_row c (drop 1) ss c ≡ stay (ss c) (n.client c).waiting =
      row_here c (drop 1) ss ∙ sym (ap (λ (b : Bool). cond {A = List ℕ} b (drop 1 (ss c)) (ss c)) (block_departs c (n.client c).waiting d w.says)) in
      let there : (k : ℕ) → k ≢ c → at_row c (drop 1) ss k ≡ ss k = λ k ne. row_other c k (drop 1) ss ne in
      subst (λ (z : Meaning). Left count t ss (at_row c (drop 1) ss) m n z (told (Ok (Departed d)) ss)) (sym w.leaves)
      (record { links = all-linked c (Departed d) v (at_row c (drop 1) ss) here there; went = serves c (Departed d) v (at_row c (drop 1) ss) here there; ticks = refl; same = refl })

  left-unit : (c : ℕ) (n' : Meaning) → Went n (OneUnit c) n' → Left count t ss ss m n n' (OneUnit c)
  left-unit c n' w =
      let v : Serves n c (OneUnit c) (served_to c n) = record { known = w.known; waits = w.waits; says = w.says; leaves = refl } in
      let here : ss c ≡ stay (ss c) (n.client c).waiting = sym (ap (λ (b : Bool). cond {A = List ℕ} b (drop 1 (ss c)) (ss c)) (unit_stays c c (n.client c).waiting w.says)) in
      subst (λ (z : Meaning). Left count t ss ss m n z (OneUnit c)) (sym w.leaves)
      (record { links = all-linked c (OneUnit c) v ss here (λ k ne. refl); went = serves c (OneUnit c) v ss here (λ k ne. refl); ticks = refl; same = refl })

  left-nothing : (n' : Meaning) → Went n Nothing n' → Left count t ss ss m n n' Nothing
  left-nothing n' w =
      subst (λ (z : Meaning). Left count t ss ss m n z Nothing) (sym w) (record { links = S.links; went = refl; ticks = refl; same = refl })

  pub left : (r : SlotAnswer) (n' : Meaning) → t < 4294967295 → Slotted n r n' → Left count t ss (staying r ss) m n n' (told r ss)
  left (Ok Nothing) n' early w = left-nothing n' w.1
  left (Ok (OneUnit c)) n' early w = left-unit c n' w.1
  left (Ok (Departed d)) n' early w = left-departed d n' w.1
  left (Err e) n' early w = absurd (omega (arith, w.0, (S.times some).1, early))
