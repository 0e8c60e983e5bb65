-- A reservation: what it answers and leaves, and that the balance is kept.
use Rattle.std.proofs.Common.{◌≡◌, ℕ, ◌+◌, ◌-◌, ◌*◌, ◌^◌, ◌<◌, ◌≤◌, min, Bool, true, false, cond, ◌&&◌, ltb, List, [], ◌∷◌, ◌++◌, take, set, Ok, Err, Result, sym, refl, ap, ◌∙◌, subst, arith, ltb-true, le-ltb, le-leb, leb-true}
use mathlib.Core.Logic.{∥∥₁_map}
use Rattle.std.specs.Int.{div_ceil}
use Rattle.std.proofs.lemmas.List.{take_more_set}
use Rattle.std.proofs.lemmas.Bool.{and_parts}
use Rattle.std.proofs.lemmas.Bool.Decides.{nat_tests}
use Rattle.server.specs.declared.rate.Rate.{Rate}
use Rattle.server.specs.declared.rate.Terms.{Terms}
use Rattle.server.specs.Meaning.{Meaning}
use Rattle.server.specs.Calls.{at}
use Rattle.server.specs.Laws.{Unused}
use Rattle.tables.specs.Tables.{listed}
use Rattle.clients.specs.declared.booking.BookingRefusal.{BookingRefusal}
use Rattle.clients.specs.declared.booking.BookingRefusal.TheVariants.{Rate as BadRate, Range, Share as SmallShare, Over}
use Rattle.clients.specs.declared.booking.NotAdmitted.{NotAdmitted}
use Rattle.clients.specs.Held.{latency_for}
use Rattle.clients.specs.Meant.{meaning}
use Rattle.clients.specs.View.{new_client}
use Rattle.clients.specs.Serving.{rate_ok, terms_ok, admits, admission, admitted}
use Rattle.clients.proofs.Kept.{rate_ranged, ranged_terms, terms_whole, admits_full, unused_admitted}
use Rattle.credits.specs.declared.credit_server.CreditServer.{CreditServer}
use Rattle.credits.specs.declared.shares.Share.{Share}
use Rattle.credits.specs.Shares.{steps, caps, theta}
use Rattle.credits.specs.Balanced.{Carried, Balanced}
use Rattle.credits.specs.States.{State, Answer, state_of, share_ok, carries, room_for, next_terms, terms_say, reserve_says, reserved}
use Rattle.credits.specs.Numbers.{theta_ceil, latency_small}
use Rattle.credits.specs.Balancing.{balanced_push}
use Rattle.credits.proofs.Servers.{one_each, caps_small}

share_ranged : (D n c : ℕ) → share_ok D n c ≡ true → (1 ≤ n) × (n ≤ D) × (D ≤ c) × (c ≤ 64 * D)
share_ranged D n c e = (grind (arith, nat_tests), grind (arith, nat_tests), grind (arith, nat_tests), grind (arith, nat_tests))

-- ## The causes, by their tests

-- a share against which no cause speaks passes each of the tests
causes_past : (a b d e : Bool) (t v : Terms)
    → Ok v ≡ cond {A = Result Terms BookingRefusal} a (cond b (cond d (cond e (Ok t) (Err Over)) (Err SmallShare)) (Err Range)) (Err BadRate)
    → (a ≡ true) × (b ≡ true) × (d ≡ true) × (e ≡ true) × (v ≡ t)
causes_past false b d e t v h = (cc, cc, cc, cc, cc)
causes_past true false d e t v h = (cc, cc, cc, cc, cc)
causes_past true true false e t v h = (cc, cc, cc, cc, cc)
causes_past true true true false t v h = (cc, cc, cc, cc, cc)
causes_past true true true true t v h = (refl, refl, refl, refl, cc)

-- the admission tells whether there was a place
declined : (m : Meaning) (v : Terms) (e : NotAdmitted) → Err e ≡ admission m v → admits m v ≡ false
declined m v e h = by (admits m v) h
  where
    by : (d : Bool) → Err e ≡ cond {A = Result (Unit {0}) NotAdmitted} d (Ok tt) (Err record {}) → d ≡ false
    by true g = cc
    by false g = refl

pub admits_taken : (m : Meaning) (v : Terms) (u : Unit {0}) → Ok u ≡ admission m v → true ≡ admits m v
admits_taken m v u h = by (admits m v) h
  where
    by : (d : Bool) → Ok u ≡ cond {A = Result (Unit {0}) NotAdmitted} d (Ok tt) (Err record {}) → true ≡ d
    by true g = refl
    by false g = cc

-- ## The terms of the next client

-- a share that passes each test of a reservation
pub record Passes (x : CreditServer) (rate : Rate) (n c : ℕ) : Type 0 where
  pub rated : rate_ok rate ≡ true
  pub ranged : share_ok x.denominator n c ≡ true
  pub pays : rate.p * x.denominator ≤ n * rate.q
  pub room : n ≤ x.denominator - steps (listed x.shares)

module _ (x : CreditServer) (rate : Rate) (n c : ℕ) where
  abbrev m : Meaning
  m = meaning x.clients

  abbrev terms : Terms
  terms = next_terms (state_of x) rate

  module _ (h : Passes x rate n c) where
    latency_fits : (next_terms (state_of x) rate).latency ≤ 4194304
    latency_fits =
        let r = rate_ranged rate h.rated in
        let g = share_ranged x.denominator n c h.ranged in
        latency_small x.denominator rate.p rate.q n (x.denominator - steps (listed x.shares)) (caps (listed x.shares)) x.some g.0 h.room r.1 r.2 h.pays (caps_small x)

    carried : Carried x.denominator (x.denominator - steps (listed x.shares)) (caps (listed x.shares)) (next_terms (state_of x) rate) n c
    carried = let g = share_ranged x.denominator n c h.ranged in record { some = g.0; room = h.room; pays = h.pays; high = g.2; top = g.3; late = refl }

    terms_fit : terms_ok (next_terms (state_of x) rate) ≡ true
    terms_fit = let r = rate_ranged rate h.rated in ranged_terms (next_terms (state_of x) rate) h.rated (omega (arith, r.1)) latency_fits

    carries_it : carries x.denominator rate n ≡ true
    carries_it = le-leb (rate.p * x.denominator) (n * rate.q) h.pays

    has_room : room_for (state_of x) n ≡ true
    has_room = let g = share_ranged x.denominator n c h.ranged in le-leb (steps (listed x.shares) + n) x.denominator (omega (arith, h.room, g.0, x.room))

    terms_told : Ok (next_terms (state_of x) rate) ≡ terms_say (state_of x) rate n c
    terms_told =
        let t1 : rate_ok rate ≡ true = h.rated in
        let t2 : share_ok x.denominator n c ≡ true = h.ranged in
        let t3 : carries x.denominator rate n ≡ true = carries_it in
        let t4 : room_for (state_of x) n ≡ true = has_room in
        simp (t1, t2, t3, t4)

    -- the sums and θ that the code works out are those of the state
    module _ (st cp θ lat : ℕ) (es : st ≡ steps (listed x.shares)) (ec : cp ≡ caps (listed x.shares)) (eθ : θ ≡ theta (x.denominator - st) cp) (el : lat ≡ latency_for rate.p rate.q θ) where
      latency_is : lat ≡ (next_terms (state_of x) rate).latency
      latency_is =
          el ∙ ap (latency_for rate.p rate.q) (eθ ∙ ap (λ (k : ℕ). theta (x.denominator - k) cp) es ∙ ap (theta (x.denominator - steps (listed x.shares))) ec)

      pub latency_word : lat < 2 ^ 32
      latency_word = omega (arith, latency_is, latency_fits)

    -- the terms as the code works them out
    module _ (rest above θ : ℕ) (er : rest ≡ x.denominator - steps (listed x.shares)) (ea : above ≡ caps (listed x.shares)) (eθ : θ ≡ div_ceil above rest) where
      late_is : latency_for rate.p rate.q θ ≡ (next_terms (state_of x) rate).latency
      late_is =
          let g = share_ranged x.denominator n c h.ranged in
          let some : 1 ≤ rest = omega (arith, g.0, h.room, er) in
          latency_is (steps (listed x.shares)) above θ (latency_for rate.p rate.q θ) refl ea
          (eθ ∙ sym (theta_ceil rest above some) ∙ ap (λ (k : ℕ). theta k above) er) refl

      pub told : (made : Terms) → made ≡ record { rate = rate; latency = min (latency_for rate.p rate.q θ) 4294967295 } → Ok made ≡ terms_say (state_of x) rate n c
      told made e =
          ap (λ (t : Terms). Ok t) (e ∙ terms_whole rate (latency_for rate.p rate.q θ) (omega (arith, late_is, latency_fits)))
          ∙ ap (λ (k : ℕ). Ok (record { rate = rate; latency = k })) late_is ∙ terms_told

    -- all tests but the last
    reserve_tests : (g : Bool) → (◌≡◌ {A = Answer} (cond g (Ok tt) (Err Over)) (cond (rate_ok rate) (cond (share_ok x.denominator n c) (cond (carries x.denominator rate n) (cond (room_for (state_of x) n && g) (Ok tt) (Err Over)) (Err SmallShare)) (Err Range)) (Err BadRate)))
        × ((rate_ok rate && (share_ok x.denominator n c && (carries x.denominator rate n && (room_for (state_of x) n && g)))) ≡ g)
    reserve_tests g =
        let t1 : rate_ok rate ≡ true = h.rated in
        let t2 : share_ok x.denominator n c ≡ true = h.ranged in
        let t3 : carries x.denominator rate n ≡ true = carries_it in
        let t4 : room_for (state_of x) n ≡ true = has_room in
        (simp (t1, t2, t3, t4), simp (t1, t2, t3, t4))

  -- ## The reservation

  -- the share of the client: its credit is at its cap
  abbrev share : Share
  share = record { step = n; cap = c; credit = c }

  -- the clients with it, and the state
  abbrev grown : Meaning
  grown = record { count = m.count + 1; now = m.now; client = at m.count (λ _. new_client terms) m.client }

  abbrev after : State
  after = record { clients = admitted m terms; denominator = x.denominator; shares = listed x.shares ++ (share ∷ []) }

  -- no cause speaks against the share
  module _ (v : Terms) (e : Ok v ≡ terms_say (state_of x) rate n c) where
    past : (rate_ok rate ≡ true) × (share_ok x.denominator n c ≡ true) × (carries x.denominator rate n ≡ true) × (room_for (state_of x) n ≡ true) × (v ≡ next_terms (state_of x) rate)
    past = causes_past (rate_ok rate) (share_ok x.denominator n c) (carries x.denominator rate n) (room_for (state_of x) n) (next_terms (state_of x) rate) v e

    passes : Passes x rate n c
    passes = record {
      rated = past.0;
      ranged = past.1;
      pays = leb-true (rate.p * x.denominator) (n * rate.q) past.2;
      room = omega (arith, leb-true (steps (listed x.shares) + n) x.denominator past.3);
    }

    module _ (m' : Meaning) (leaves : m' ≡ admitted (meaning x.clients) v) where
      joins : m' ≡ admitted (meaning x.clients) (next_terms (state_of x) rate)
      joins = leaves ∙ ap (admitted m) past.4

      -- every place is taken
      pub over : (d : NotAdmitted) → Err d ≡ admission (meaning x.clients) v
          → (m' ≡ meaning x.clients) × (◌≡◌ {A = Answer} (Err Over) (reserve_says (state_of x) rate n c)) × (state_of x ≡ reserved (state_of x) rate n c)
      over d says =
          let none : admits m terms ≡ false = ap (admits m) (sym past.4) ∙ declined m v d says in
          let g : ltb m.count 8 ≡ false = le-ltb m.count 8 (admits_full m terms (terms_fit passes) none) in
          let t = reserve_tests passes (ltb m.count 8) in (
            joins ∙ ap (λ (d : Bool). cond {A = Meaning} d grown m) none,
            ap (λ (d : Bool). cond {A = Answer} d (Ok tt) (Err Over)) (sym g) ∙ t.0,
            sym (ap (λ (d : Bool). cond {A = State} d after (state_of x)) (t.1 ∙ g)),
          )

      -- the client takes the next place
      module _ (took : true ≡ admits (meaning x.clients) v) where
        takes : admits (meaning x.clients) (next_terms (state_of x) rate) ≡ true
        takes = ap (admits m) (sym past.4) ∙ sym took

        free : ltb (meaning x.clients).count 8 ≡ true
        free = (and_parts (ltb m.count 8) (terms_ok terms) takes).0

        grows : m' ≡ grown
        grows = joins ∙ ap (λ (d : Bool). cond {A = Meaning} d grown m) takes

        pub place_free : x.shares.count < 8
        place_free = omega (arith, one_each x, ltb-true m.count 8 free)

        pub taken_says : ◌≡◌ {A = Answer} (Ok tt) (reserve_says (state_of x) rate n c)
        taken_says = ap (λ (d : Bool). cond {A = Answer} d (Ok tt) (Err Over)) (sym free) ∙ (reserve_tests passes (ltb m.count 8)).0

        pub taken_unused : ∥ Unused (meaning x.clients) ∥₁ → ∥ Unused m' ∥₁
        taken_unused unused = ∥∥₁_map unused (λ u. subst Unused (sym joins) (unused_admitted m terms u))

        module _ (ys : List Share) (pushed : ys ≡ listed x.shares ++ (record { step = n; cap = c; credit = c } ∷ [])) where
          pub taken_balanced : ∥ Balanced m' x.denominator ys ∥₁
          taken_balanced =
              ∥∥₁_map x.balanced (λ h.
              subst (λ (w : Meaning). Balanced w x.denominator ys) (sym grows)
              (subst (Balanced grown x.denominator) (sym pushed)
              (balanced_push m x.denominator n c (listed x.shares) terms (carried passes) h)))

        module _ (place : ℕ) (here : place ≡ (meaning x.clients).count) where
          pub grown_count : m'.count ≡ place + 1
          grown_count = ap (λ (w : Meaning). w.count) grows ∙ ap (λ (k : ℕ). k + 1) (sym here)

          -- the share at its place, behind the others
          pub one_more : take (place + 1) (set x.shares.items place (record { step = n; cap = c; credit = c })) ≡ listed x.shares ++ (record { step = n; cap = c; credit = c } ∷ [])
          one_more =
              take_more_set x.shares.items place share (omega (arith, x.shares.full, here, ltb-true m.count 8 free))
              ∙ ap (λ (j : ℕ). take j x.shares.items ++ (share ∷ [])) (here ∙ sym (one_each x))

          pub taken_leaves : ◌≡◌ {A = State} (record { clients = m'; denominator = x.denominator; shares = take m'.count (set x.shares.items place (record { step = n; cap = c; credit = c })) }) (reserved (state_of x) rate n c)
          taken_leaves =
              ap (λ (j : ℕ). record { clients = m'; denominator = x.denominator; shares = take j (set x.shares.items place share) }) grown_count
              ∙ ap (λ (ys : List Share). record { clients = m'; denominator = x.denominator; shares = ys }) one_more
              ∙ ap (λ (w : Meaning). record { clients = w; denominator = x.denominator; shares = listed x.shares ++ (share ∷ []) }) joins
              ∙ sym (ap (λ (d : Bool). cond {A = State} d after (state_of x)) ((reserve_tests passes (ltb m.count 8)).1 ∙ free))
