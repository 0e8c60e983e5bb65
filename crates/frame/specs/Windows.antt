-- Every run of slots holds the client's share of them, but for θ slots.
use Rattle.std.specs.Prelude.{◌≡◌, ℕ, zero, suc, ◌+◌, ◌-◌, ◌*◌, ◌<◌, ◌≤◌, List, length, get_or, drop, None, Option}
use Rattle.std.proofs.Common.{sym, ap, ◌∙◌, ⊎_elim, arith, mul-le-mul_left, mul-le-mul_right, mul-add, mod-eq_of_lt}
use Rattle.std.proofs.Math.Nat.{add-mod_right}
use Rattle.std.proofs.lemmas.List.FromFn.{length-map-range_with_len}
use Rattle.std.proofs.lemmas.List.{at_drop_all}
use Rattle.std.proofs.lemmas.List.Sums.{sum_by-cons, sum_by-drop_more, count_by-le-length}
use Rattle.std.proofs.lemmas.Bool.{cases_lt, cond_both}
use Rattle.frame.specs.Frames.{owner_at, owns, mine, owned, run, window, theta}

pub mine_small : (k : ℕ) (o : Option ℕ) → mine k o ≤ 1
mine_small k o = cond_both (owns k o) 1 0 (λ n. n ≤ 1) (λ _. omega arith) (λ _. omega arith)

module _ (k : ℕ) (os : List (Option ℕ)) where
  -- the first slot, and those behind it
  pub window_first : (t w : ℕ) → window k os t (suc w) ≡ mine k (owner_at os t) + window k os (t + 1) w
  window_first t w = sum_by-cons (mine k) (owner_at os t) (run os (t + 1) w)

  window-small : (t w : ℕ) → window k os t w ≤ w
  window-small t w = omega (arith, count_by-le-length (owns k) (run os t w), length-map-range_with_len (owner_at os) t w)

  -- two runs, one behind the other
  window-add : (t a b : ℕ) → window k os t (a + b) ≡ window k os t a + window k os (t + a) b
  window-add t zero b =
      let z : t + 0 ≡ t = omega arith in
      let y : 0 + b ≡ b = omega arith in
      omega (arith, ap (window k os t) y, ap (λ s. window k os s b) z)
  window-add t (suc a) b =
      let s : suc a + b ≡ suc (a + b) = omega arith in
      let u : t + 1 + a ≡ t + suc a = omega arith in
      omega (arith, ap (window k os t) s, window_first t (a + b), window_first t a, window-add (t + 1) a b, ap (λ j. window k os j b) u)

  -- from place i of the first round to its end
  round-rest : (i w : ℕ) → i + w ≡ length os → window k os i w ≡ owned k (drop i os)
  round-rest i zero e = sym (at_drop_all (owned k) os i (omega (arith, e)))
  round-rest i (suc w) e =
      let l : i < length os = omega (arith, e) in
      let here : mine k (owner_at os i) ≡ mine k (get_or os i None) = ap (λ j. mine k (get_or os j None)) (mod-eq_of_lt l) in
      omega (arith, window_first i w, here, round-rest (i + 1) w (omega (arith, e)), sum_by-drop_more (mine k) os i None l)

  -- one slot on, the run of a whole round loses one slot and gains its like
  round-shift : (t : ℕ) → window k os (t + 1) (length os) ≡ window k os t (length os)
  round-shift t =
      let n = length os in
      let a = window-add t n 1 in
      let b = window-add t 1 n in
      let same : owner_at os (t + n) ≡ owner_at os t = ap (λ j. get_or os j None) (add-mod_right t n) in
      let c : window k os t (n + 1) ≡ window k os t (1 + n) = ap (window k os t) (let z : n + 1 ≡ 1 + n = omega arith in z) in
      omega (arith, a, b, c, ap (mine k) same)

  pub round_owned : (t : ℕ) → window k os t (length os) ≡ owned k os
  round_owned zero = round-rest 0 (length os) (omega arith)
  round_owned (suc t) = ap (λ j. window k os j (length os)) (let z : suc t ≡ t + 1 = omega arith in z) ∙ round-shift t ∙ round_owned t

  -- within one round all but θ slots are the client's
  short-window : (t w : ℕ) → w ≤ length os → w ≤ theta k os + window k os t w
  short-window t w l =
      let n = length os in
      let r : w + (n - w) ≡ n = omega arith in
      let a = window-add t w (n - w) in
      let b : window k os t (w + (n - w)) ≡ owned k os = ap (window k os t) r ∙ round_owned t in
      omega (arith, a, b, window-small (t + w) (n - w), count_by-le-length (owns k) os)

  module _ (p q : ℕ) (rate : p ≤ q) (enough : p * length os ≤ owned k os * q) where
    short : (t w : ℕ) → w ≤ length os → p * w ≤ p * theta k os + q * window k os t w
    short t w s = omega (arith, mul-le-mul_left {m = w} {n = theta k os + window k os t w} p (short-window t w s), mul-le-mul_right {m = p} {n = q} (window k os t w) rate)

    -- one round more
    longer : (t w : ℕ) → length os < w → p * (w - length os) ≤ p * theta k os + q * window k os (t + length os) (w - length os)
        → p * w ≤ p * theta k os + q * window k os t w
    longer t w g rest =
        let n = length os in
        let w' = w - n in
        let e : n + w' ≡ w = omega arith in
        let split : window k os t w ≡ owned k os + window k os (t + n) w' = ap (window k os t) (sym e) ∙ window-add t n w' ∙ ap (λ (j : ℕ). j + window k os (t + n) w') (round_owned t) in
        let pw : p * w ≡ p * n + p * w' = ap (λ (j : ℕ). p * j) (sym e) ∙ mul-add p n w' in
        let qw : q * window k os t w ≡ q * owned k os + q * window k os (t + n) w' = ap (λ (j : ℕ). q * j) split ∙ mul-add q (owned k os) (window k os (t + n) w') in
        omega (arith, rest, pw, qw, enough)

    rounds : (a t w : ℕ) → w ≤ a * length os + length os → p * w ≤ p * theta k os + q * window k os t w
    rounds zero t w l = short t w (omega (arith, l))
    rounds (suc a) t w l = ⊎_elim (λ g. longer t w g (rounds a (t + length os) (w - length os) (omega (arith, l)))) (short t w) (cases_lt (length os) w)

    -- p·w ≤ p·θ + q·(slots owned among any w slots)
    pub window_holds : 1 ≤ length os → (t w : ℕ) → p * w ≤ p * theta k os + q * window k os t w
    window_holds some t w = rounds w t w (omega (arith, mul-le-mul_left {m = 1} {n = length os} w some))
