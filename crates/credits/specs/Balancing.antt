-- The calls keep the clients' shares in balance, and so the clients within the laws.
use Rattle.std.specs.Prelude.{◌≡◌, ℕ, zero, suc, ◌+◌, ◌-◌, ◌*◌, ◌<◌, ◌≤◌, Bool, true, false, cond, ◌&&◌, ltb, List, [], ◌∷◌, ◌++◌, length, get_or, take, Some, None, Option, nat_eq, nat_lt, slice_index_or, refl}
use Rattle.std.proofs.Common.{sym, ap, subst, ◌∙◌, arith, mul-le-mul_left, ltb-true, ltb-false, lt-ltb, leb-true, eq-eqb, ne_eqb, eqb-true}
use Rattle.std.proofs.Math.Logic.{∥∥₁_elim}
use Rattle.std.proofs.Math.Bridge.{le_prop}
use Rattle.std.proofs.lemmas.List.{length_push}
use Rattle.std.proofs.lemmas.List.Sums.{sum_by-cons}
use Rattle.std.proofs.lemmas.Bool.{and_parts}
use Rattle.server.specs.declared.rate.Terms.{Terms}
use Rattle.server.specs.Meaning.{Client, Meaning}
use Rattle.server.specs.Calls.{at, granted, submitted, entered, serve}
use Rattle.server.specs.Laws.{ClientLaws, Lawful}
use Rattle.server.proofs.Meanings.{at_elim, at_here}
use Rattle.clients.specs.Held.{Kept}
use Rattle.clients.specs.View.{new_client}
use Rattle.clients.specs.Serving.{waits, served_client, goes_on, slot_leaves}
use Rattle.credits.specs.declared.shares.Share.{Share}
use Rattle.credits.specs.Shares.{steps, caps, credits, no_share, Small, affords, eligible, by_place, lowest, served, chosen, Pays, role, next_credit, share_after, earned}
use Rattle.credits.specs.Balanced.{Carried, Fits, AllFit, Balanced, Capped}
use Rattle.credits.specs.Fitting.{MovedFree, MovedPaid, fits_free, fits_after, fits_paid, moved_free, moved_after, moved_paid, fits_entered, fits_new, fits_laws}
use Rattle.credits.specs.Places.{length_by_place}

-- ## What it says of the sums

module _ (D t : ℕ) (cs : ℕ → Client) where
  -- the credits of the first clients are within their caps
  fit-capped : (R H C k j : ℕ) (xs : List Share) → AllFit D t R H C k cs xs → H + credits (take j xs) ≤ C + caps (take j xs)
  fit-capped R H C k zero [] g = omega (arith, g)
  fit-capped R H C k (suc j) [] g = omega (arith, g)
  fit-capped R H C k zero (x ∷ xs) g = omega (arith, g.0.within)
  fit-capped R H C k (suc j) (x ∷ xs) g =
      omega (arith, fit-capped (R - x.step) (H + x.credit) (C + x.cap) (suc k) j xs g.1, sum_by-cons (λ (s : Share). s.credit) x (take j xs), sum_by-cons (λ (s : Share). s.cap) x (take j xs))

  -- the steps are within what is left of the denominator
  fit-room : (R H C k : ℕ) (xs : List Share) → AllFit D t R H C k cs xs → steps xs ≤ R
  fit-room R H C k [] g = omega arith
  fit-room R H C k (x ∷ xs) g = omega (arith, g.0.carried.room, fit-room (R - x.step) (H + x.credit) (C + x.cap) (suc k) xs g.1, sum_by-cons (λ (s : Share). s.step) x xs)

  fit-caps : (R H C k : ℕ) (xs : List Share) → AllFit D t R H C k cs xs → caps xs ≤ 64 * D * length xs
  fit-caps R H C k [] g = omega arith
  fit-caps R H C k (x ∷ xs) g = omega (arith, g.0.carried.top, fit-caps (R - x.step) (H + x.credit) (C + x.cap) (suc k) xs g.1, sum_by-cons (λ (s : Share). s.cap) x xs)

  fit-within : (R H C k : ℕ) (xs : List Share) → AllFit D t R H C k cs xs → H ≤ C
  fit-within R H C k [] g = g
  fit-within R H C k (x ∷ xs) g = g.0.within

  fit_small : (R H C k j : ℕ) (d : Share) (xs : List Share) → D ≤ 1024 → R ≤ 1024 → j < length xs → AllFit D t R H C k cs xs
      → (get_or xs j d).credit + (get_or xs j d).step ≤ C + 65536 * length xs + 1024
  fit_small R H C k j s [] d r l g = absurd (omega (arith, l))
  fit_small R H C k zero s (x ∷ xs) d r l g = omega (arith, fit-within (R - x.step) (H + x.credit) (C + x.cap) (suc k) xs g.1, g.0.carried.top, g.0.carried.room)
  fit_small R H C k (suc j) s (x ∷ xs) d r l g =
      omega (arith, fit_small (R - x.step) (H + x.credit) (C + x.cap) (suc k) j s xs d (omega (arith, r)) (omega (arith, l)) g.1, g.0.carried.top)

module _ (m : Meaning) (D : ℕ) (xs : List Share) (b : ∥ Balanced m D xs ∥₁) where
  pub balanced_capped : Capped xs
  balanced_capped k = ∥∥₁_elim b le_prop (λ h. omega (arith, fit-capped D m.now m.client D 0 0 0 k xs h.fit))

  pub balanced_room : steps xs ≤ D
  balanced_room = ∥∥₁_elim b le_prop (λ h. fit-room D m.now m.client D 0 0 0 xs h.fit)

  pub balanced_caps : m.count ≤ 8 → caps xs ≤ 512 * D
  balanced_caps few = ∥∥₁_elim b le_prop (λ h.
      let l : length xs ≤ 8 = omega (arith, h.each) in
      omega (arith, fit-caps D m.now m.client D 0 0 0 xs h.fit, mul-le-mul_left {m = length xs} {n = 8} (64 * D) l))

  pub balanced_small : D ≤ 1024 → m.count ≤ 8 → Small xs
  balanced_small d few k s l = ∥∥₁_elim b le_prop (λ h. omega (arith, fit_small D m.now m.client D 0 0 0 k s xs d d l h.fit, h.each))

-- ## Whom a slot serves

module _ (m : Meaning) (D : ℕ) where
  -- it is a client with a block, and its share pays for a unit
  lowest-found : (k c : ℕ) (xs : List Share) → lowest k (by_place (eligible m D) k xs) ≡ Some c
      → (k ≤ c) × (c < k + length xs) × (eligible m D c (slice_index_or xs (c - k) no_share) ≡ true)
  lowest-found k c [] e = absurd cc
  lowest-found k c (x ∷ xs) e = by (lowest-found (suc k) c xs) (eligible m D k x) refl e
    where
      by : (lowest (suc k) (by_place (eligible m D) (suc k) xs) ≡ Some c → (suc k ≤ c) × (c < suc k + length xs) × (eligible m D c (slice_index_or xs (c - suc k) no_share) ≡ true))
          → (d : Bool) → eligible m D k x ≡ d → cond {A = Option ℕ} d (Some k) (lowest (suc k) (by_place (eligible m D) (suc k) xs)) ≡ Some c
          → (k ≤ c) × (c < k + suc (length xs)) × (eligible m D c (slice_index_or (x ∷ xs) (c - k) no_share) ≡ true)
      by ih true f g =
          let s : k ≡ c = cc in
          let z : 0 ≡ c - k = omega (arith, s) in
          (omega (arith, s), omega (arith, s), subst (λ (i : ℕ). eligible m D c (slice_index_or (x ∷ xs) i no_share) ≡ true) z (subst (λ (j : ℕ). eligible m D j x ≡ true) s f))
      by ih false f g =
          let r = ih g in
          let z : suc (c - suc k) ≡ c - k = omega (arith, r.0) in
          (omega (arith, r.0), omega (arith, r.1), subst (λ (i : ℕ). eligible m D c (slice_index_or (x ∷ xs) i no_share) ≡ true) z r.2)

  module _ (xs : List Share) where
    served-waits : (c : ℕ) → served m D xs ≡ Some c → waits m c ≡ true
    served-waits c e = (and_parts (waits m c) (affords D (slice_index_or xs (c - 0) no_share)) (lowest-found 0 c xs e).2).0

    -- the table serves the client that was chosen
    served-is : served_client m (served m D xs) ≡ served m D xs
    served-is = by (served m D xs) refl
      where
        by : (o : Option ℕ) → served m D xs ≡ o → served_client m o ≡ o
        by None e = refl
        by (Some c) e = ap (λ (b : Bool). cond {A = Option ℕ} b (Some c) None) (served-waits c e)

    pub served_pays : Pays D (served m D xs) xs
    served_pays k l = by (served m D xs) refl
      where
        by : (o : Option ℕ) → served m D xs ≡ o → chosen o k ≡ true → D ≤ (get_or xs k no_share).credit + (get_or xs k no_share).step
        by None e f = absurd cc
        by (Some c) e f =
            let s : c - 0 ≡ k = omega (arith, eqb-true k c f) in
            let a = (and_parts (waits m c) (affords D (slice_index_or xs (c - 0) no_share)) (lowest-found 0 c xs e).2).1 in
            leb-true D ((get_or xs k no_share).credit + (get_or xs k no_share).step) (subst (λ (i : ℕ). affords D (slice_index_or xs i no_share) ≡ true) s a)

-- ## A slot

module _ (D : ℕ) (m : Meaning) (some : 1 ≤ D) (kept : Kept m) where
  abbrev t : ℕ
  t = m.now

  has_block : (k : ℕ) → waits m k ≡ true → 0 < length (m.client k).waiting
  has_block k e = ltb-true 0 (length (m.client k).waiting) (and_parts (nat_lt k m.count) (nat_lt 0 (length (m.client k).waiting)) e).1

  no_block : (k : ℕ) → k < m.count → waits m k ≡ false → length (m.client k).waiting ≡ 0
  no_block k l e =
      let v : ltb 0 (length (m.client k).waiting) ≡ false = ap (λ (b : Bool). b && nat_lt 0 (length (m.client k).waiting)) (sym (lt-ltb k m.count l)) ∙ e in
      omega (arith, ltb-false 0 (length (m.client k).waiting) v)

  -- the clients below the one served
  after-fit : (c R H C H' k : ℕ) (xs : List Share) → c < k → k + length xs ≡ m.count → MovedPaid R H H' → AllFit D t R H C k m.client xs
      → AllFit D (t + 1) R H' C k (at c serve m.client) (by_place (earned m D (Some c)) k xs)
  after-fit c R H C H' k [] l n mv g = omega (arith, mv, g)
  after-fit c R H C H' k (x ∷ xs) l n mv g =
      let w = waits m k in
      let y = m.client k in
      let known : k < m.count = omega (arith, n) in
      let other : nat_eq k c ≡ false = ne_eqb k c (λ e. omega (arith, e, l)) in
      subst
      (λ (b : Bool). Fits D (t + 1) R H' C (cond b (serve y) y) (share_after D (role w b) x)
      × AllFit D (t + 1) (R - x.step) (H' + next_credit D (role w b) x) (C + x.cap) (suc k) (at c serve m.client) (by_place (earned m D (Some c)) (suc k) xs))
      (sym other) (
        fits_after D t R H C y x some g.0 w H' (no_block k known) mv,
        after-fit c (R - x.step) (H + x.credit) (C + x.cap) (H' + next_credit D (role w false) x) (suc k) xs (omega arith) (omega (arith, n))
            (moved_after D t R H C y x some g.0 w H' mv) g.1,
      )

  -- the client k after a slot
  client-on : (who : Option ℕ) (k : ℕ) → (goes_on m who).client k ≡ cond (chosen who k) (serve (m.client k)) (m.client k)
  client-on None k = refl
  client-on (Some c) k = refl

  not-above : (who : Option ℕ) (k : ℕ) (xs : List Share) → who ≡ lowest (suc k) (by_place (eligible m D) (suc k) xs) → chosen who k ≡ false
  not-above None k xs e = refl
  not-above (Some c) k xs e = let r = lowest-found m D (suc k) c xs (sym e) in ne_eqb k c (λ z. omega (arith, z, r.0))

  -- client k and those below it after a slot for the client o, where b is whether k is the one
  abbrev Onward : (R H' C k : ℕ) → Share → List Share → Option ℕ → Bool → Type 0
  Onward R H' C k x xs o b =
      Fits D (t + 1) R H' C (cond b (serve (m.client k)) (m.client k)) (share_after D (role (waits m k) b) x)
      × AllFit D (t + 1) (R - x.step) (H' + next_credit D (role (waits m k) b) x) (C + x.cap) (suc k) (goes_on m o).client (by_place (earned m D o) (suc k) xs)

  onward : (R H' C k : ℕ) (x : Share) (xs : List Share) (o : Option ℕ) (b : Bool) → chosen o k ≡ b → Onward R H' C k x xs o b
      → AllFit D (t + 1) R H' C k (goes_on m o).client (by_place (earned m D o) k (x ∷ xs))
  onward R H' C k x xs o b e g =
      let h : Onward R H' C k x xs o (chosen o k) = subst (Onward R H' C k x xs o) (sym e) g in
      (subst (λ (z : Client). Fits D (t + 1) R H' C z (share_after D (role (waits m k) (chosen o k)) x)) (sym (client-on o k)) h.0, h.1)

  -- the clients down to the one served
  free-fit : (who : Option ℕ) (R H C H' k : ℕ) (xs : List Share) → who ≡ lowest k (by_place (eligible m D) k xs) → k + length xs ≡ m.count → MovedFree D R H C H'
      → AllFit D t R H C k m.client xs → AllFit D (t + 1) R H' C k (goes_on m who).client (by_place (earned m D who) k xs)
  free-fit who R H C H' k [] e n mv g = mv.0
  free-fit who R H C H' k (x ∷ xs) e n mv g =
      by (λ z. free-fit who (R - x.step) (H + x.credit) (C + x.cap) (H' + next_credit D (role (waits m k) false) x) (suc k) xs z (omega (arith, n))) (eligible m D k x) refl e
    where
      known : k < m.count
      known = omega (arith, n)

      by : (who ≡ lowest (suc k) (by_place (eligible m D) (suc k) xs) → MovedFree D (R - x.step) (H + x.credit) (C + x.cap) (H' + next_credit D (role (waits m k) false) x)
          → AllFit D t (R - x.step) (H + x.credit) (C + x.cap) (suc k) m.client xs
          → AllFit D (t + 1) (R - x.step) (H' + next_credit D (role (waits m k) false) x) (C + x.cap) (suc k) (goes_on m who).client (by_place (earned m D who) (suc k) xs))
          → (d : Bool) → eligible m D k x ≡ d → who ≡ cond {A = Option ℕ} d (Some k) (lowest (suc k) (by_place (eligible m D) (suc k) xs))
          → AllFit D (t + 1) R H' C k (goes_on m who).client (by_place (earned m D who) k (x ∷ xs))
      by ih true f z =
          let a = and_parts (waits m k) (affords D x) f in
          subst (λ (o : Option ℕ). AllFit D (t + 1) R H' C k (goes_on m o).client (by_place (earned m D o) k (x ∷ xs))) (sym z)
          (onward R H' C k x xs (Some k) true (eq-eqb k k refl) (
            fits_paid D t R H C (m.client k) x some g.0 (waits m k) H' (kept.each k known) (has_block k a.0) a.1 mv,
            after-fit k (R - x.step) (H + x.credit) (C + x.cap) (H' + next_credit D (role (waits m k) true) x) (suc k) xs (omega arith) (omega (arith, n))
                (moved_paid D t R H C (m.client k) x some g.0 (waits m k) H' a.1 mv) g.1,
          ))
      by ih false f z =
          onward R H' C k x xs who false (not-above who k xs z) (
            fits_free D t R H C (m.client k) x some g.0 (waits m k) H' (no_block k known) f mv,
            ih z (moved_free D t R H C (m.client k) x some g.0 (waits m k) H' f mv) g.1,
          )

  module _ (xs : List Share) (b : Balanced m D xs) where
    balanced-on : (o : Option ℕ) → o ≡ served m D xs → Balanced (goes_on m o) D (by_place (earned m D o) 0 xs)
    balanced-on None e = record {
      each = length_by_place (earned m D None) 0 xs ∙ b.each;
      fit = free-fit None D 0 0 0 0 xs e (omega (arith, b.each)) (omega arith, omega arith) b.fit;
    }
    balanced-on (Some c) e = record {
      each = length_by_place (earned m D (Some c)) 0 xs ∙ b.each;
      fit = free-fit (Some c) D 0 0 0 0 xs e (omega (arith, b.each)) (omega arith, omega arith) b.fit;
    }

    pub balanced_slot : Balanced (slot_leaves m (served m D xs)) D (cond (nat_lt m.now 4294967295) (by_place (earned m D (served m D xs)) 0 xs) xs)
    balanced_slot = by (nat_lt m.now 4294967295)
      where
        by : (d : Bool) → Balanced (cond {A = Meaning} d (goes_on m (served_client m (served m D xs))) m) D (cond d (by_place (earned m D (served m D xs)) 0 xs) xs)
        by true = subst (λ (o : Option ℕ). Balanced (goes_on m o) D (by_place (earned m D (served m D xs)) 0 xs)) (sym (served-is m D xs)) (balanced-on (served m D xs) refl)
        by false = b

-- ## Other clients under the same shares

module _ (D t : ℕ) (cs cs' : ℕ → Client) where
  fit-like : (R H C k : ℕ) (xs : List Share)
      → ((j : ℕ) (R H C : ℕ) (x : Share) → j < k + length xs → Fits D t R H C (cs j) x → Fits D t R H C (cs' j) x) → AllFit D t R H C k cs xs → AllFit D t R H C k cs' xs
  fit-like R H C k [] f g = g
  fit-like R H C k (x ∷ xs) f g =
      (f k R H C x (omega arith) g.0, fit-like (R - x.step) (H + x.credit) (C + x.cap) (suc k) xs (λ j R H C y l. f j R H C y (omega (arith, l))) g.1)

pub balanced_submitted : (D : ℕ) (m : Meaning) (xs : List Share) (c label len : ℕ) → 1 ≤ D → Balanced m D xs → Balanced (submitted m c label len) D xs
balanced_submitted D m xs c label len some b = by (granted m c len)
  where
    by : (d : Bool) → Balanced (cond {A = Meaning} d (record { count = m.count; now = m.now; client = at c (entered m.now label len) m.client }) m) D xs
    by true = record {
      each = b.each;
      fit = fit-like D m.now m.client (at c (entered m.now label len) m.client) D 0 0 0 xs
          (λ j R H C x l h. at_elim (λ (y : Client). Fits D m.now R H C y x) c j (entered m.now label len) m.client
          (λ _. fits_entered D m.now R H C (m.client j) x some h label len) (λ _. h))
          b.fit;
    }
    by false = b

-- ## A reservation

-- with no clients there is nothing to balance
pub balanced_empty : (m : Meaning) (D : ℕ) (xs : List Share) → m.count ≡ 0 → ∥ Balanced m D (take m.count xs) ∥₁
balanced_empty m D xs z = ∣ subst (λ (n : ℕ). Balanced m D (take n xs)) (sym z) (record { each = sym z; fit = omega arith }) ∣₁

-- the same fact at sums that are the same
fits_at : (D t : ℕ) (cs : ℕ → Client) (y : Share) (R R' H H' C C' k k' : ℕ) → R ≡ R' → H ≡ H' → C ≡ C' → k ≡ k' → Fits D t R H C (cs k) y → Fits D t R' H' C' (cs k') y
fits_at D t cs y R R' H H' C C' k k' a b c d h =
    subst (λ (r : ℕ). Fits D t r H' C' (cs k') y) a
    (subst (λ (e : ℕ). Fits D t R e C' (cs k') y) b
    (subst (λ (v : ℕ). Fits D t R H v (cs k') y) c
    (subst (λ (i : ℕ). Fits D t R H C (cs i) y) d h)))

-- one client more, behind the others
fit_push : (D t R H C k : ℕ) (cs : ℕ → Client) (xs : List Share) (y : Share) → AllFit D t R H C k cs xs
    → (H + credits xs ≤ C + caps xs → Fits D t (R - steps xs) (H + credits xs) (C + caps xs) (cs (k + length xs)) y) → y.credit ≤ y.cap
    → AllFit D t R H C k cs (xs ++ (y ∷ []))
fit_push D t R H C k cs [] y g f low = (
  fits_at D t cs y (R - 0) R (H + 0) H (C + 0) C (k + 0) k (omega arith) (omega arith) (omega arith) (omega arith) (f (omega (arith, g))),
  omega (arith, g, low),
)
fit_push D t R H C k cs (x ∷ xs) y g f low =
    let a = sum_by-cons (λ (s : Share). s.step) x xs in
    let b = sum_by-cons (λ (s : Share). s.credit) x xs in
    let c = sum_by-cons (λ (s : Share). s.cap) x xs in (
      g.0,
      fit_push D t (R - x.step) (H + x.credit) (C + x.cap) (suc k) cs xs y g.1
          (λ l. fits_at D t cs y (R - steps (x ∷ xs)) (R - x.step - steps xs) (H + credits (x ∷ xs)) (H + x.credit + credits xs) (C + caps (x ∷ xs)) (C + x.cap + caps xs)
          (k + suc (length xs)) (suc k + length xs) (omega (arith, a)) (omega (arith, b)) (omega (arith, c)) (omega arith) (f (omega (arith, l, b, c))))
          low,
    )

pub balanced_push : (m : Meaning) (D n c : ℕ) (xs : List Share) (x : Terms) → Carried D (D - steps xs) (caps xs) x n c → Balanced m D xs
    → Balanced (record { count = m.count + 1; now = m.now; client = at m.count (λ _. new_client x) m.client }) D (xs ++ (record { step = n; cap = c; credit = c } ∷ []))
balanced_push m D n c xs x carried b =
    let cs = at m.count (λ _. new_client x) m.client in
    let y : Share = record { step = n; cap = c; credit = c } in
    let here : new_client x ≡ cs (0 + length xs) =
    sym (ap cs (let z : 0 + length xs ≡ m.count = omega (arith, b.each) in z) ∙ at_here m.count (λ _. new_client x) m.client) in
    record {
      each = length_push xs y ∙ ap (λ (k : ℕ). k + 1) b.each;
      fit = fit_push D m.now D 0 0 0 cs xs y
          (fit-like D m.now m.client cs D 0 0 0 xs
          (λ j R H C s l h. at_elim (λ (v : Client). Fits D m.now R H C v s) m.count j (λ _. new_client x) m.client (λ e. absurd (omega (arith, e, l, b.each))) (λ _. h))
          b.fit)
          (λ l. subst (λ (v : Client). Fits D m.now (D - steps xs) (0 + credits xs) (0 + caps xs) v y) here
          (fits_new D m.now (D - steps xs) (0 + credits xs) (0 + caps xs) n c x
          (subst (λ (k : ℕ). Carried D (D - steps xs) k x n c) (let z : caps xs ≡ 0 + caps xs = omega arith in z) carried) l))
          (omega arith);
    }

-- ## The laws

module _ (D : ℕ) (m : Meaning) (some : 1 ≤ D) (kept : Kept m) where
  fit-laws : (R H C k j : ℕ) (xs : List Share) → j < length xs → k + length xs ≡ m.count → AllFit D m.now R H C k m.client xs → ClientLaws m.now (m.client (k + j))
  fit-laws R H C k j [] l n g = absurd (omega (arith, l))
  fit-laws R H C k zero (x ∷ xs) l n g =
      subst (λ (i : ℕ). ClientLaws m.now (m.client i)) (let z : k ≡ k + 0 = omega arith in z)
      (fits_laws D m.now R H C (m.client k) x some g.0 (kept.each k (omega (arith, n))))
  fit-laws R H C k (suc j) (x ∷ xs) l n g =
      subst (λ (i : ℕ). ClientLaws m.now (m.client i)) (let z : suc k + j ≡ k + suc j = omega arith in z)
      (fit-laws (R - x.step) (H + x.credit) (C + x.cap) (suc k) j xs (omega (arith, l)) (omega (arith, n)) g.1)

  pub balanced_lawful : (xs : List Share) → Balanced m D xs → Lawful m
  balanced_lawful xs b = record {
    eight = kept.eight;
    counted = kept.counted;
    each = λ k l. subst (λ (i : ℕ). ClientLaws m.now (m.client i)) (let z : 0 + k ≡ k = omega arith in z)
        (fit-laws D 0 0 0 k xs (omega (arith, l, b.each)) (omega (arith, b.each)) b.fit);
  }
