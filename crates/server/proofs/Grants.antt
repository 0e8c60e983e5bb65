-- Questions and submissions: when they are granted, and that every sum stays small.
use Rattle.std.proofs.Common.{◌≡◌, ℕ, ◌+◌, ◌*◌, ◌^◌, ◌<◌, ◌≤◌, Bool, true, false, cond, ◌&&◌, ltb, leb, length, Ok, Err, Result, sym, refl, ap, ◌∙◌, mul-le-mul, arith, ltb-true, lt-ltb, le-leb, leb-true}
use Rattle.std.proofs.lemmas.Bool.{and_parts}
use Rattle.server.specs.declared.refusal.Refusal.{Refusal}
use Rattle.server.specs.declared.refusal.Refusal.TheVariants.{NoClient, BadLength, Full}
use Rattle.server.specs.declared.view.View.{View}
use Rattle.server.specs.Meaning.{Client, Meaning, units_left}
use Rattle.server.specs.Calls.{asked, start_at, due_of, length_ok, accepting, granted, granting}
use Rattle.server.specs.Laws.{ClientLaws}
use Rattle.server.proofs.Rows.{left_small}

-- an answer about a client tells that there is one
pub asked_ok : {R : Type 0} (m : Meaning) (c : ℕ) (r : R) (f : Client → R) → ◌≡◌ {A = Result R Refusal} (Ok r) (asked m c f) → (c < m.count) × (r ≡ f (m.client c))
asked_ok {R} m c r f e = by (ltb c m.count) refl e
  where
    by : (d : Bool) → ltb c m.count ≡ d → ◌≡◌ {A = Result R Refusal} (Ok r) (cond {A = Result R Refusal} d (Ok (f (m.client c))) (Err NoClient)) → (c < m.count) × (r ≡ f (m.client c))
    by true t g = (ltb-true c m.count t, cc)
    by false t g = let z : ◌≡◌ {A = ℕ} 0 1 = cc in absurd (omega arith)

pub asked_known : {R : Type 0} (m : Meaning) (c : ℕ) (r : R) (f : Client → R) → c < m.count → r ≡ f (m.client c) → ◌≡◌ {A = Result R Refusal} (Ok r) (asked m c f)
asked_known {R} m c r f l e =
    let ok : R → Result R Refusal = λ v. Ok v in
    let none : Result R Refusal = Err NoClient in
    ap ok e ∙ sym (ap (λ (b : Bool). cond {A = Result R Refusal} b (ok (f (m.client c))) none) (lt-ltb c m.count l))

-- what is accepted has 1 to 16 units, and finds fewer than eight blocks
pub accepted : (v : View) (len : ℕ) → ◌≡◌ {A = Result (Unit {0}) Refusal} (Ok tt) (accepting v len) → (0 < len) × (len ≤ 16) × (v.waiting < 8)
accepted v len e = by (length_ok len) (ltb v.waiting 8) refl refl e
  where
    by : (a b : Bool) → length_ok len ≡ a → ltb v.waiting 8 ≡ b → ◌≡◌ {A = Result (Unit {0}) Refusal} (Ok tt) (cond a (cond b (Ok tt) (Err Full)) (Err BadLength)) → (0 < len) × (len ≤ 16) × (v.waiting < 8)
    by true true s t g =
        let p = and_parts (ltb 0 len) (leb len 16) s in
        (ltb-true 0 len p.0, leb-true len 16 p.1, ltb-true v.waiting 8 t)
    by true false s t g = let z : ◌≡◌ {A = ℕ} 0 1 = cc in absurd (omega arith)
    by false b s t g = let z : ◌≡◌ {A = ℕ} 0 1 = cc in absurd (omega arith)

pub grants : (m : Meaning) (c len : ℕ) → c < m.count → 0 < len → len ≤ 16 → length (m.client c).waiting < 8 → granted m c len ≡ true
grants m c len known some few room =
    let t1 : ltb c m.count ≡ true = lt-ltb c m.count known in
    let t2 : ltb 0 len ≡ true = lt-ltb 0 len some in
    let t3 : leb len 16 ≡ true = le-leb len 16 few in
    let t4 : ltb (length (m.client c).waiting) 8 ≡ true = lt-ltb (length (m.client c).waiting) 8 room in
    simp (t1, t2, t3, t4)

pub granted_parts : (m : Meaning) (c len : ℕ) → granted m c len ≡ true → (c < m.count) × (0 < len) × (len ≤ 16) × (length (m.client c).waiting < 8)
granted_parts m c len e =
    let a = and_parts (ltb c m.count) (length_ok len && ltb (length (m.client c).waiting) 8) e in
    let b = and_parts (length_ok len) (ltb (length (m.client c).waiting) 8) a.1 in
    let d = and_parts (ltb 0 len) (leb len 16) b.0 in
    (ltb-true c m.count a.0, ltb-true 0 len d.0, leb-true len 16 d.1, ltb-true (length (m.client c).waiting) 8 b.1)

pub granting_is : (m : Meaning) (c len : ℕ) → granted m c len ≡ true → granting m c len ≡ Ok (due_of (m.client c) (start_at m.now (m.client c)))
granting_is m c len e =
    let g = granted_parts m c len e in
    let t1 : ltb c m.count ≡ true = lt-ltb c m.count g.0 in
    let t2 : ltb 0 len ≡ true = lt-ltb 0 len g.1 in
    let t3 : leb len 16 ≡ true = le-leb len 16 g.2 in
    let t4 : ltb (length (m.client c).waiting) 8 ≡ true = lt-ltb (length (m.client c).waiting) 8 g.3 in
    simp (t1, t2, t3, t4)

-- the law of the clock keeps every sum within 64 bits
pub clock_small : (t : ℕ) (x : Client) → t < 4294967296 → ClientLaws t x → x.clock < 2 ^ 50
clock_small t x l h =
    let p = x.terms.rate.p in
    let q = x.terms.rate.q in
    let a : (p + q) * t ≤ 2048 * 4294967296 = mul-le-mul {n₂ = 2048} {m₂ = 4294967296} (omega (arith, h.ranged.rate, h.ranged.small)) (omega arith) in
    let b : q * units_left x.waiting ≤ 1024 * 128 = mul-le-mul {n₂ = 1024} {m₂ = 128} h.ranged.small (omega (arith, left_small x.waiting h.shaped, h.eight)) in
    omega (arith, a, b, h.clocked)
