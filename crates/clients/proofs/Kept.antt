-- What every scheduler's clients keep through the calls, and that a slot for a chosen client is a slot.
use Rattle.std.proofs.Common.{◌≡◌, ℕ, ◌+◌, ◌<◌, ◌≤◌, min, Bool, true, false, cond, ◌&&◌, ltb, leb, List, [], ◌∷◌, length, Some, None, Ok, Err, Option, sym, refl, ap, ◌∙◌, subst, arith, ltb-false, ltb-true, lt-ltb, le-leb, leb-true}
use native.Mathlib.Nat.{min-eq_left}
use Rattle.std.proofs.lemmas.Bool.{and_parts}
use Rattle.std.proofs.lemmas.Bool.Decides.{nat_tests}
use Rattle.server.specs.declared.block.Block.{Block}
use Rattle.server.specs.declared.block.Departure.{Departure}
use Rattle.server.specs.declared.block.Served.{Served}
use Rattle.server.specs.declared.block.Served.TheVariants.{Unit as OneUnit, Departed}
use Rattle.server.specs.declared.rate.Rate.{Rate}
use Rattle.server.specs.declared.rate.Terms.{Terms}
use Rattle.server.specs.declared.refusal.Refusal.TheVariants.{Ended}
use Rattle.server.specs.Meaning.{Client, Meaning}
use Rattle.server.specs.Calls.{SlotAnswer, granted, submitted, entered, at, gone, serve, ticked, served_to, Went, Slotted}
use Rattle.server.specs.Laws.{Ranged, Unused}
use Rattle.server.proofs.Meanings.{at_elim}
use Rattle.server.proofs.Grants.{granted_parts}
use Rattle.clients.specs.Held.{Held, Kept}
use Rattle.clients.specs.View.{new_client}
use Rattle.clients.specs.Serving.{no_clients, rate_ok, terms_ok, admits, admitted, waits, served_client, gives, goes_on, slot_says, slot_leaves}
use Rattle.clients.proofs.Clients.{held_new, held_ticked, held_served, held_entered}

-- ## A client comes in

pub rate_ranged : (x : Rate) → rate_ok x ≡ true → (1 ≤ x.p) × (x.p ≤ x.q) × (x.q ≤ 1024)
rate_ranged x e = by x.p x.q e
  where
    by : (p q : ℕ) → (leb 1 p && (leb p q && leb q 1024)) ≡ true → (1 ≤ p) × (p ≤ q) × (q ≤ 1024)
    by p q e = (grind (arith, nat_tests), grind (arith, nat_tests), grind (arith, nat_tests))

pub terms_ranged : (x : Terms) → terms_ok x ≡ true → Ranged x
terms_ranged x e =
    let a = and_parts (rate_ok x.rate) (leb x.rate.p x.latency && leb x.latency 4194304) e in
    let b = and_parts (leb x.rate.p x.latency) (leb x.latency 4194304) a.1 in
    let r = rate_ranged x.rate a.0 in
    record { slow = r.0; rate = r.1; small = r.2; least = leb-true x.rate.p x.latency b.0; most = leb-true x.latency 4194304 b.1 }

-- terms of a rate and a latency within their ranges
pub ranged_terms : (x : Terms) → rate_ok x.rate ≡ true → x.rate.p ≤ x.latency → x.latency ≤ 4194304 → terms_ok x ≡ true
ranged_terms x r l m =
    let a : leb x.rate.p x.latency ≡ true = le-leb x.rate.p x.latency l in
    let b : leb x.latency 4194304 ≡ true = le-leb x.latency 4194304 m in
    simp (r, a, b)

-- a latency within its range fits into 32 bits
pub terms_whole : (x : Rate) (late : ℕ) → late ≤ 4194304 → ◌≡◌ {A = Terms} (record { rate = x; latency = min late 4294967295 }) (record { rate = x; latency = late })
terms_whole x late most =
    let made : ℕ → Terms = λ k. record { rate = x; latency = k } in
    ap made (min-eq_left (omega (arith, most)))

-- the newcomer's place
pub admitted_elim : (P : ℕ → Client → Type 0) (m : Meaning) (x : Terms) → P m.count (new_client x) → ((k : ℕ) → k < m.count → P k (m.client k))
    → (k : ℕ) → k < (admitted m x).count → P k ((admitted m x).client k)
admitted_elim P m x new old k l = by (admits m x) l
  where
    by : (d : Bool) → k < (cond {A = Meaning} d (record { count = m.count + 1; now = m.now; client = at m.count (λ _. new_client x) m.client }) m).count
        → P k ((cond {A = Meaning} d (record { count = m.count + 1; now = m.now; client = at m.count (λ _. new_client x) m.client }) m).client k)
    by true h = at_elim (P k) m.count k (λ _. new_client x) m.client (λ e. subst (λ (j : ℕ). P j (new_client x)) (sym e) new) (λ ne. old k (omega (arith, h, ne)))
    by false h = old k h

pub admitted_now : (m : Meaning) (x : Terms) → (admitted m x).now ≡ m.now
admitted_now m x = by (admits m x)
  where
    by : (d : Bool) → (cond {A = Meaning} d (record { count = m.count + 1; now = m.now; client = at m.count (λ _. new_client x) m.client }) m).now ≡ m.now
    by true = refl
    by false = refl

pub unused_none : Unused no_clients
unused_none = record { start = refl; clocks = λ k l. absurd (omega arith); empty = λ k l. absurd (omega arith) }

pub unused_admitted : (m : Meaning) (x : Terms) → Unused m → Unused (admitted m x)
unused_admitted m x h = record {
  start = admitted_now m x ∙ h.start;
  clocks = admitted_elim (λ k y. y.clock ≡ 0) m x refl h.clocks;
  empty = admitted_elim (λ k y. y.waiting ≡ []) m x refl h.empty;
}

-- a client with a place and terms in range is refused by nothing
pub admits_full : (m : Meaning) (x : Terms) → terms_ok x ≡ true → admits m x ≡ false → 8 ≤ m.count
admits_full m x ok e =
    let a : (ltb m.count 8 && true) ≡ false = ap (λ (b : Bool). ltb m.count 8 && b) (sym ok) ∙ e in
    by (ltb m.count 8) refl a
  where
    by : (d : Bool) → ltb m.count 8 ≡ d → (d && true) ≡ false → 8 ≤ m.count
    by true t a = let z : ◌≡◌ {A = ℕ} 0 1 = cc in absurd (omega arith)
    by false t a = ltb-false m.count 8 t

pub kept_admitted : (m : Meaning) (x : Terms) → Kept m → Kept (admitted m x)
kept_admitted m x h = by (admits m x) refl
  where
    by : (d : Bool) → admits m x ≡ d → Kept (cond {A = Meaning} d (record { count = m.count + 1; now = m.now; client = at m.count (λ _. new_client x) m.client }) m)
    by true e =
        let g = and_parts (ltb m.count 8) (terms_ok x) e in
        record {
          eight = omega (arith, ltb-true m.count 8 g.0);
          counted = h.counted;
          each = λ k l. at_elim (Held m.now) m.count k (λ _. new_client x) m.client (λ _. held_new m.now x (terms_ranged x g.1)) (λ ne. h.each k (omega (arith, l, ne)));
        }
    by false e = h

-- ## A block comes in

pub kept_submitted : (m : Meaning) (c label len : ℕ) → Kept m → Kept (submitted m c label len)
kept_submitted m c label len h = by (granted m c len) refl
  where
    by : (d : Bool) → granted m c len ≡ d
        → Kept (cond {A = Meaning} d (record { count = m.count; now = m.now; client = at c (entered m.now label len) m.client }) m)
    by true e =
        let g = granted_parts m c len e in
        record {
          eight = h.eight;
          counted = h.counted;
          each = λ k l. at_elim (Held m.now) c k (entered m.now label len) m.client
              (λ z. held_entered m.now label len (m.client k) g.1 g.2 (subst (λ (j : ℕ). length (m.client j).waiting < 8) (sym z) g.3) (h.each k l))
              (λ _. h.each k l);
        }
    by false e = h

-- ## A slot

kept_ticked : (m : Meaning) → m.now < 4294967295 → Kept m → Kept (ticked m)
kept_ticked m early h = record { eight = h.eight; counted = omega (arith, early); each = λ k l. held_ticked m.now (m.client k) (h.each k l) }

kept_served : (m : Meaning) (c : ℕ) → m.now < 4294967295 → Kept m → Kept (served_to c m)
kept_served m c early h = record {
  eight = h.eight;
  counted = omega (arith, early);
  each = λ k l. at_elim (Held (m.now + 1)) c k serve m.client (λ z. held_served m.now (m.client k) (h.each k l)) (λ _. held_ticked m.now (m.client k) (h.each k l));
}

kept_on : (m : Meaning) (who : Option ℕ) → m.now < 4294967295 → Kept m → Kept (goes_on m who)
kept_on m None early h = kept_ticked m early h
kept_on m (Some c) early h = kept_served m c early h

pub kept_slot : (m : Meaning) (who : Option ℕ) → Kept m → Kept (slot_leaves m who)
kept_slot m who h = by (ltb m.now 4294967295) refl
  where
    by : (d : Bool) → ltb m.now 4294967295 ≡ d → Kept (cond {A = Meaning} d (goes_on m (served_client m who)) m)
    by true e = kept_on m (served_client m who) (ltb-true m.now 4294967295 e) h
    by false e = h

-- a unit of client c, which has a block, goes
went_served : (m : Meaning) (c : ℕ) → c < m.count → (bs : List Block) → bs ≡ (m.client c).waiting → 0 < length bs → Went m (gone c bs) (served_to c m)
went_served m c known [] e some = absurd (omega (arith, some))
went_served m c known (b ∷ bs) e some = by (leb b.left 1) refl
  where
    dep : Departure
    dep = record { client = c; label = b.label; length = b.length; start = b.start }

    says : (d : Bool) → leb b.left 1 ≡ d → cond {A = Served} d (Departed dep) (OneUnit c) ≡ gone c (m.client c).waiting
    says d f = ap (λ (t : Bool). cond {A = Served} t (Departed dep) (OneUnit c)) (sym f) ∙ ap (gone c) e

    there : 0 < length (m.client c).waiting
    there = subst (λ (ws : List Block). 0 < length ws) e some

    by : (d : Bool) → leb b.left 1 ≡ d → Went m (cond {A = Served} d (Departed dep) (OneUnit c)) (served_to c m)
    by true f = record { known = known; waits = there; says = says true f; leaves = refl }
    by false f = record { known = known; waits = there; says = says false f; leaves = refl }

went_on : (m : Meaning) (who : Option ℕ) → Went m (gives m (served_client m who)) (goes_on m (served_client m who))
went_on m None = refl
went_on m (Some c) = by (waits m c) refl
  where
    by : (d : Bool) → waits m c ≡ d → Went m (gives m (cond {A = Option ℕ} d (Some c) None)) (goes_on m (cond {A = Option ℕ} d (Some c) None))
    by true e =
        let g = and_parts (ltb c m.count) (ltb 0 (length (m.client c).waiting)) e in
        went_served m c (ltb-true c m.count g.0) (m.client c).waiting refl (ltb-true 0 (length (m.client c).waiting) g.1)
    by false e = refl

-- before the counter's end a slot goes on
pub slot_goes : (m : Meaning) (who : Option ℕ) → m.now < 4294967295 → goes_on m (served_client m who) ≡ slot_leaves m who
slot_goes m who early = sym (ap (λ (b : Bool). cond {A = Meaning} b (goes_on m (served_client m who)) m) (lt-ltb m.now 4294967295 early))

-- a slot for a chosen client is what the interface calls a slot
pub slot_slotted : (m : Meaning) (who : Option ℕ) → m.now < 4294967296 → Slotted m (slot_says m who) (slot_leaves m who)
slot_slotted m who counted = by (ltb m.now 4294967295) refl
  where
    by : (d : Bool) → ltb m.now 4294967295 ≡ d
        → Slotted m (cond {A = SlotAnswer} d (Ok (gives m (served_client m who))) (Err Ended)) (cond {A = Meaning} d (goes_on m (served_client m who)) m)
    by true e = (ltb-true m.now 4294967295 e, went_on m who)
    by false e = (omega (arith, ltb-false m.now 4294967295 e), refl, refl)

-- who is served is a client with a block
pub served_known : (m : Meaning) (who : Option ℕ) (c : ℕ) → served_client m who ≡ Some c → (who ≡ Some c) × (c < m.count) × (0 < length (m.client c).waiting)
served_known m None c e = let z : ◌≡◌ {A = ℕ} 0 1 = cc in absurd (omega arith)
served_known m (Some d) c e = by (waits m d) refl e
  where
    by : (t : Bool) → waits m d ≡ t → cond {A = Option ℕ} t (Some d) None ≡ Some c → (Some d ≡ Some c) × (c < m.count) × (0 < length (m.client c).waiting)
    by true w f =
        let s : d ≡ c = cc in
        let g = and_parts (ltb d m.count) (ltb 0 (length (m.client d).waiting)) w in
        (f, subst (λ (k : ℕ). k < m.count) s (ltb-true d m.count g.0), subst (λ (k : ℕ). 0 < length (m.client k).waiting) s (ltb-true 0 (length (m.client d).waiting) g.1))
    by false w f = let z : ◌≡◌ {A = ℕ} 0 1 = cc in absurd (omega arith)
