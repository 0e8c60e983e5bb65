-- One client with its share through the calls.
use Rattle.std.specs.Prelude.{◌≡◌, ℕ, ◌+◌, ◌-◌, ◌*◌, ◌<◌, ◌≤◌, Bool, true, false, ◌&&◌, length, refl}
use Rattle.std.proofs.Common.{ap, arith, mul-le-mul_left, leb-true, leb-false}
use Rattle.server.specs.declared.rate.Terms.{Terms}
use Rattle.server.specs.Meaning.{Client}
use Rattle.server.specs.Calls.{serve, entered}
use Rattle.server.specs.Laws.{ClientLaws}
use Rattle.clients.specs.Held.{Held, reach}
use Rattle.clients.specs.View.{new_client}
use Rattle.clients.proofs.Clients.{reach_entered, reach_ticked, reach_gone, reach_empty, laws_on_time}
use Rattle.credits.specs.declared.shares.Share.{Share}
use Rattle.credits.specs.Shares.{theta, affords, role, next_credit, share_after}
use Rattle.credits.specs.Balanced.{Carried, Fits}
use Rattle.credits.specs.Numbers.{saved_waits, saved_idle, saved_served, early, ahead_higher, ahead_served, ahead_early, on_time}

-- how the higher clients' credits H moved to H' in a slot that served none of them, or one of them
abbrev pub MovedFree : (D R H C H' : ℕ) → Type 0
MovedFree D R H C H' = (H' ≤ C) × (H' + R ≤ H + D)

abbrev pub MovedPaid : (R H H' : ℕ) → Type 0
MovedPaid R H H' = H' + R ≤ H

-- ## A share that is not served

credit_most : (D : ℕ) (w : Bool) (s : Share) → next_credit D (role w false) s ≤ s.credit + s.step
credit_most D true s = omega arith
credit_most D false s = omega arith

-- not eligible, its credit stays within its cap
credit_low : (D : ℕ) (w : Bool) (s : Share) → (w && affords D s) ≡ false → D ≤ s.cap → next_credit D (role w false) s ≤ s.cap
credit_low D true s e high = omega (arith, leb-false D (s.credit + s.step) e)
credit_low D false s e high = omega arith

module _ (D t R H C : ℕ) (x : Client) (s : Share) (some : 1 ≤ D) (h : Fits D t R H C x s) where
  abbrev p : ℕ
  p = x.terms.rate.p

  abbrev q : ℕ
  q = x.terms.rate.q

  saved-unserved : (w : Bool) → (w ≡ false → length x.waiting ≡ 0)
      → D * p * (t + 1) + q * s.cap ≤ D * reach (t + 1) x + q * next_credit D (role w false) s
  saved-unserved true none = saved_waits D p q s.step s.cap s.credit t (reach t x) (reach (t + 1) x) h.carried.pays (reach_ticked t x) h.saved
  saved-unserved false none =
      saved_idle D p q s.step s.cap s.credit t (reach t x) (reach (t + 1) x) h.carried.pays (reach_ticked t x) (reach_empty (t + 1) x (none refl)) h.saved

  -- not eligible, and no higher client was served
  pub fits_free : (w : Bool) (H' : ℕ) → (w ≡ false → length x.waiting ≡ 0) → (w && affords D s) ≡ false → MovedFree D R H C H' → Fits D (t + 1) R H' C x (share_after D (role w false) s)
  fits_free w H' none e m = record {
    carried = h.carried;
    within = m.0;
    saved = saved-unserved w none;
    ahead = ahead_early p (t + 1) R H' C (reach (t + 1) x) m.0
        (early D p q s.cap (next_credit D (role w false) s) (t + 1) (reach (t + 1) x) some (credit_low D w s e h.carried.high) (saved-unserved w none));
  }

  -- a higher client was served
  pub fits_after : (w : Bool) (H' : ℕ) → (w ≡ false → length x.waiting ≡ 0) → MovedPaid R H H' → Fits D (t + 1) R H' C x (share_after D (role w false) s)
  fits_after w H' none m = record {
    carried = h.carried;
    within = omega (arith, m, h.within);
    saved = saved-unserved w none;
    ahead = ahead_higher p t R H C H' (reach t x) (reach (t + 1) x) m (reach_ticked t x) h.ahead;
  }

  -- served
  pub fits_paid : (w : Bool) (H' : ℕ) → Held t x → 0 < length x.waiting → affords D s ≡ true → MovedFree D R H C H' → Fits D (t + 1) R H' C (serve x) (share_after D (role w true) s)
  fits_paid w H' held waiting e m =
      let can : D ≤ s.credit + s.step = leb-true D (s.credit + s.step) e in
      let up : reach t x + q ≤ reach (t + 1) (serve x) = reach_gone t x waiting held in
      record {
        carried = h.carried;
        within = m.0;
        saved = saved_served D p q s.step s.cap s.credit t (reach t x) (reach (t + 1) (serve x)) h.carried.pays can up h.saved;
        ahead = ahead_served D p q s.step t R H C H' (reach t x) (reach (t + 1) (serve x)) h.carried.pays h.carried.room m.1 up h.ahead;
      }

  -- ## The sums with this client's credit

  pub moved_free : (w : Bool) (H' : ℕ) → (w && affords D s) ≡ false → MovedFree D R H C H' → MovedFree D (R - s.step) (H + s.credit) (C + s.cap) (H' + next_credit D (role w false) s)
  moved_free w H' e m = (omega (arith, m.0, credit_low D w s e h.carried.high), omega (arith, m.1, credit_most D w s, h.carried.room))

  pub moved_after : (w : Bool) (H' : ℕ) → MovedPaid R H H' → MovedPaid (R - s.step) (H + s.credit) (H' + next_credit D (role w false) s)
  moved_after w H' m = omega (arith, m, credit_most D w s, h.carried.room)

  pub moved_paid : (w : Bool) (H' : ℕ) → affords D s ≡ true → MovedFree D R H C H' → MovedPaid (R - s.step) (H + s.credit) (H' + next_credit D (role w true) s)
  moved_paid w H' e m = omega (arith, m.1, leb-true D (s.credit + s.step) e, h.carried.room)

  -- ## A block comes in

  pub fits_entered : (label len : ℕ) → Fits D t R H C (entered t label len x) s
  fits_entered label len =
      let z = reach_entered t label len x in
      record {
        carried = h.carried;
        within = h.within;
        saved = omega (arith, h.saved, ap (λ (f : ℕ). D * f) z);
        ahead = omega (arith, h.ahead, ap (λ (f : ℕ). R * f) z);
      }

  -- ## The laws

  -- on time with θ, and so within the laws
  pub fits_laws : Held t x → ClientLaws t x
  fits_laws held = laws_on_time (theta R C) t x held h.carried.late (on_time p t R H C (reach t x) (omega (arith, h.carried.some, h.carried.room)) h.ahead)

-- a client that is reserved, its credit at its cap
pub fits_new : (D t R H C n c : ℕ) (x : Terms) → Carried D R C x n c → H ≤ C → Fits D t R H C (new_client x) (record { step = n; cap = c; credit = c })
fits_new D t R H C n c x carried within =
    let r = reach_empty t (new_client x) refl in
    record {
      carried = carried;
      within = within;
      saved = omega (arith, mul-le-mul_left {m = x.rate.p * t} {n = reach t (new_client x)} D r);
      ahead = ahead_early x.rate.p t R H C (reach t (new_client x)) within r;
    }
