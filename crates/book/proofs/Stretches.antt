-- A busy stretch in the book alone: its starts stand one behind the other while it lasts.
use Rattle.std.proofs.Common.{◌≡◌, ℕ, ◌+◌, ◌*◌, ◌≤◌, Bool, true, false, cond, eqb, List, [], ◌∷◌, ◌++◌, length, drop, Ok, Err, sym, ap, ◌∙◌, subst, append-nil, mul-le-mul_left, mul-zero, mul-add, arith, length-append}
use lib.Seq.{drop-append-le}
use Rattle.std.proofs.lemmas.List.{drop_all}
use Rattle.server.specs.declared.block.Served.TheVariants.{Nothing, Unit as OneUnit, Departed}
use Rattle.server.specs.declared.rate.Rate.{Rate}
use Rattle.book.specs.declared.calls.Order.{Order}
use Rattle.book.specs.declared.calls.Event.{Event}
use Rattle.book.specs.declared.calls.Event.TheVariants.{Submit, Slot, Ask}
use Rattle.book.specs.Book.{Entry, Gone, Account, Book, start_in, enter, oldest, depart, change, fed, read, WaitingNear, units, Lasts}

-- the waiting blocks start one behind the other from tick `base` on, and the clock stands behind the last
abbrev Gapless : (q base : ℕ) → List Entry → ℕ → Type 0
Gapless q base [] clock = clock ≡ base
Gapless q base (i ∷ is) clock = (i.start ≡ base) × Gapless q (base + q * i.length) is clock

gapless_push : (q base : ℕ) (is : List Entry) (clock : ℕ) (j : Entry) → j.start ≡ clock → Gapless q base is clock → Gapless q base (is ++ (j ∷ [])) (clock + q * j.length)
gapless_push q base [] clock j e h = (e ∙ h, ap (λ (c : ℕ). c + q * j.length) h)
gapless_push q base (i ∷ is) clock j e h = (h.0, gapless_push q (base + q * i.length) is clock j e h.1)

-- a stretch from slot s, since n blocks of the client had departed
pub record Stretch (rate : Rate) (s n : ℕ) (x : Account) : Type 0 where
  pub rate_is : x.rate ≡ rate
  pub since : n ≤ length x.gone
  pub gapless : Gapless rate.q (rate.p * s + rate.q * units (drop n x.gone)) x.waiting x.clock

units_append : (a b : List Gone) → units (a ++ b) ≡ units a + units b
units_append [] b = omega arith
units_append (g ∷ gs) b = let h = units_append gs b in omega arith

-- ## It begins

pub stretch_begins : (rate : Rate) (t : ℕ) (o : Order) (x : Account) → x.rate ≡ rate → x.waiting ≡ [] → x.clock ≤ x.rate.p * t → Stretch rate t (length x.gone) (enter t o x)
stretch_begins rate t o x er ew idle =
    let none : rate.q * units (drop (length x.gone) x.gone) ≡ 0 = ap (λ (l : List Gone). rate.q * units l) (drop_all (length x.gone) x.gone (omega arith)) ∙ mul-zero rate.q in
    let base = rate.p * t + rate.q * units (drop (length x.gone) x.gone) in
    let e : x.rate.p * t ≡ rate.p * t = ap (λ (r : Rate). r.p * t) er in
    let start_is : start_in t x ≡ base = omega (arith, idle, e, none) in
    let i : Entry = record { label = o.label; length = o.length; start = start_in t x } in
    let clock_is : start_in t x + x.rate.q * o.length ≡ base + rate.q * o.length = ap (λ (s : ℕ). s + x.rate.q * o.length) start_is ∙ ap (λ (r : Rate). base + r.q * o.length) er in
    record {
      rate_is = er;
      since = omega arith;
      gapless = subst (λ (w : List Entry). Gapless rate.q base (w ++ (i ∷ [])) (start_in t x + x.rate.q * o.length)) (sym ew) (start_is, clock_is);
    }

-- ## It goes on

module _ (rate : Rate) (s n : ℕ) where
  stretch-enters : (t : ℕ) (o : Order) (x : Account) → rate.p * t ≤ x.clock → Stretch rate s n x → Stretch rate s n (enter t o x)
  stretch-enters t o x lasts h =
      let base = rate.p * s + rate.q * units (drop n x.gone) in
      let e : x.rate.p * t ≡ rate.p * t = ap (λ (r : Rate). r.p * t) h.rate_is in
      let at-clock : start_in t x ≡ x.clock = omega (arith, e, lasts) in
      let i : Entry = record { label = o.label; length = o.length; start = start_in t x } in
      let clock_is : x.clock + rate.q * o.length ≡ start_in t x + x.rate.q * o.length =
      ap (λ (c : ℕ). c + rate.q * o.length) (sym at-clock) ∙ ap (λ (r : Rate). start_in t x + r.q * o.length) (sym h.rate_is) in
      record {
        rate_is = h.rate_is;
        since = h.since;
        gapless = subst (Gapless rate.q base (x.waiting ++ (i ∷ []))) clock_is (gapless_push rate.q base x.waiting x.clock i at-clock h.gapless);
      }

  departs-gapless : (t : ℕ) (gone : List Gone) (w : List Entry) (clock : ℕ) → n ≤ length gone → Gapless rate.q (rate.p * s + rate.q * units (drop n gone)) w clock
      → Gapless rate.q (rate.p * s + rate.q * units (drop n (gone ++ oldest t w))) (drop 1 w) clock
  departs-gapless t gone [] clock h e = subst (λ (l : List Gone). Gapless rate.q (rate.p * s + rate.q * units (drop n l)) [] clock) (sym (append-nil gone)) e
  departs-gapless t gone (i ∷ is) clock h e =
      let g : Gone = record { entry = i; departure = t } in
      let q = rate.q in
      let d : units (drop n (gone ++ (g ∷ []))) ≡ units (drop n gone) + i.length =
      ap units (drop-append-le n gone (g ∷ []) h) ∙ units_append (drop n gone) (g ∷ []) ∙ ap (λ (k : ℕ). units (drop n gone) + k) (let z : i.length + 0 ≡ i.length = omega arith in z) in
      let m : q * units (drop n (gone ++ (g ∷ []))) ≡ q * units (drop n gone) + q * i.length = ap (λ (u : ℕ). q * u) d ∙ mul-add q (units (drop n gone)) i.length in
      let b : rate.p * s + q * units (drop n gone) + q * i.length ≡ rate.p * s + q * units (drop n (gone ++ (g ∷ []))) = omega (arith, m) in
      subst (λ (base : ℕ). Gapless q base is clock) b e.1

  stretch-departs : (t : ℕ) (x : Account) → Stretch rate s n x → Stretch rate s n (depart t x)
  stretch-departs t x h = record {
    rate_is = h.rate_is;
    since = omega (arith, h.since, length-append x.gone (oldest t x.waiting));
    gapless = departs-gapless t x.gone x.waiting x.clock h.since h.gapless;
  }

  module _ (c : ℕ) where
    changed : (xs : ℕ → Account) (k : ℕ) (f : Account → Account) → Stretch rate s n (xs c) → Stretch rate s n (f (xs c)) → Stretch rate s n (change k f xs c)
    changed xs k f h g = by (eqb c k)
      where
        by : (d : Bool) → Stretch rate s n (cond d (f (xs c)) (xs c))
        by true = g
        by false = h

    stretch-fed : (b : Book) (e : Event) → rate.p * b.now ≤ (b.account c).clock → Stretch rate s n (b.account c) → Stretch rate s n ((fed b e).account c)
    stretch-fed b (Submit o (Ok due)) lasts h = changed b.account o.client (enter b.now o) h (stretch-enters b.now o (b.account c) lasts h)
    stretch-fed b (Submit o (Err e)) lasts h = h
    stretch-fed b (Slot (Ok Nothing)) lasts h = h
    stretch-fed b (Slot (Ok (OneUnit k))) lasts h = h
    stretch-fed b (Slot (Ok (Departed d))) lasts h = changed b.account d.client (depart (b.now + 1)) h (stretch-departs (b.now + 1) (b.account c) h)
    stretch-fed b (Slot (Err e)) lasts h = h
    stretch-fed b (Ask q a) lasts h = h

    lasts-at : (b : Book) → Stretch rate s n (b.account c) → (b.account c).rate.p * b.now ≤ (b.account c).clock → rate.p * b.now ≤ (b.account c).clock
    lasts-at b h l = subst (λ (r : Rate). r.p * b.now ≤ (b.account c).clock) h.rate_is l

    pub stretch_through : (b : Book) (es : List Event) → Stretch rate s n (b.account c) → Lasts b es c → Stretch rate s n ((read b es).account c) × (rate.p * (read b es).now ≤ ((read b es).account c).clock)
    stretch_through b [] h l = (h, lasts-at b h l)
    stretch_through b (e ∷ es) h l = stretch_through (fed b e) es (stretch-fed b e (lasts-at b h l.0) h) l.1

  -- ## What it has carried

  pub stretch_carries : (t late : ℕ) (x : Account) → Stretch rate s n x → rate.p * t ≤ x.clock → WaitingNear rate.p t late x.waiting → rate.p * t ≤ rate.q * units (drop n x.gone) + late + rate.p * s
  stretch_carries t late x h lasts near = by x.waiting h.gapless near
    where
      by : (w : List Entry) → Gapless rate.q (rate.p * s + rate.q * units (drop n x.gone)) w x.clock → WaitingNear rate.p t late w → rate.p * t ≤ rate.q * units (drop n x.gone) + late + rate.p * s
      by [] e near = omega (arith, e, lasts)
      by (i ∷ is) e near = omega (arith, e.0, near.0, mul-le-mul_left {m = t} {n = t + 1} rate.p (omega arith))
