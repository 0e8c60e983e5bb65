-- The lanes of the table as clients: what a write to one lane, or one lane more, makes of the meaning.
use Rattle.std.proofs.Common.{◌≡◌, ℕ, zero, suc, ◌+◌, ◌*◌, ◌/◌, ◌^◌, ◌<◌, ◌≤◌, min, Bool, true, cond, ◌&&◌, ◌≢◌, List, [], ◌∷◌, ◌++◌, map, length, get_or, set, Some, None, Ok, Err, Option, Result, sym, refl, ap, ◌∙◌, subst, mul-le-mul, arith, length-set, length-append, length-take-le, get_or-take, lt-ltb}
use mathlib.Core.Logic.{∥∥₁_elim, ∥∥₁_map}
use native.Mathlib.Bridge.{le_prop}
use native.Mathlib.Nat.{min-eq_left}
use lib.ListN.{length-map}
use lib.Seq.{map-set}
use Rattle.std.proofs.Math.Seq.{take-set-lt}
use Rattle.std.proofs.lemmas.List.{get_or-map, take_more_set, get_or-set_same, get_or-set_other}
use Rattle.server.specs.declared.block.Served.{Served}
use Rattle.server.specs.declared.rate.Terms.{Terms}
use Rattle.server.specs.Meaning.{Client, Meaning}
use Rattle.server.specs.declared.refusal.Refusal.{Refusal}
use Rattle.server.specs.declared.refusal.Refusal.TheVariants.{Ended}
use Rattle.server.specs.declared.view.View.{View}
use Rattle.server.specs.Calls.{DueAnswer, SlotAnswer, asked, view_of, accepting, at, start_at, due_of, due_within, entered, granted, granting, submitted, gone, serve}
use Rattle.server.proofs.Meanings.{at_is}
use Rattle.server.proofs.Grants.{asked_ok, accepted, grants, granting_is}
use Rattle.tables.specs.declared.table.Table.{Table}
use Rattle.tables.specs.Tables.{listed}
use Rattle.clients.specs.declared.lane.Lane.{Lane}
use Rattle.clients.specs.View.{vacant, new_client, client_of, client_in, viewed}
use Rattle.clients.specs.Held.{Held, Kept}
use Rattle.clients.specs.Serving.{terms_ok, admits, admitted, served_client, gives, goes_on, slot_says, slot_leaves}
use Rattle.clients.proofs.Clients.{clock_small}
use Rattle.clients.proofs.Kept.{served_known, slot_goes}

-- ## One lane more

last_in : (ls : List Lane) (l : Lane) → client_in (ls ++ (l ∷ [])) (length ls) ≡ client_of l
last_in [] l = refl
last_in (x ∷ ls) l = last_in ls l

others_in : (ls : List Lane) (l : Lane) (k : ℕ) → k ≢ length ls → client_in (ls ++ (l ∷ [])) k ≡ client_in ls k
others_in [] l zero ne = absurd (ne refl)
others_in [] l (suc k) ne = refl
others_in (x ∷ ls) l zero ne = refl
others_in (x ∷ ls) l (suc k) ne = others_in ls l k (λ e. ne (ap suc e))

module _ (t : ℕ) (x : Terms) (fit : true ≡ terms_ok x) where
  -- where there is room
  pub admit_is : {N : ℕ} (v w : Table Lane N) (l : Lane) → length (listed v) < 8 → client_of l ≡ new_client x → listed w ≡ listed v ++ (l ∷ [])
      → (true ≡ admits (viewed t v) x) × (viewed t w ≡ admitted (viewed t v) x)
  admit_is v w l room e more =
      let ls = listed v in
      let after : Meaning = record { count = length ls + 1; now = t; client = at (length ls) (λ _. new_client x) (client_in ls) } in
      let g : admits (viewed t v) x ≡ true = ap (λ (b : Bool). b && terms_ok x) (lt-ltb (length ls) 8 room) ∙ sym fit in (
        sym g,
        ap (λ (xs : List Lane). record { count = length xs; now = t; client = client_in xs }) more
            ∙ ap (λ (n : ℕ). record { count = n; now = t; client = client_in (ls ++ (l ∷ [])) }) (length-append ls (l ∷ []))
            ∙ ap (λ (f : ℕ → Client). record { count = length ls + 1; now = t; client = f })
            (at_is (length ls) (λ _. new_client x) (client_in ls) (client_in (ls ++ (l ∷ []))) (last_in ls l ∙ e) (λ k ne. others_in ls l k ne))
            ∙ sym (ap (λ (b : Bool). cond {A = Meaning} b after (viewed t v)) g),
      )

-- ## A write to one lane

-- the table with lane c written
abbrev pub with_item : {N : ℕ} → Table Lane N → ℕ → Lane → Table Lane N
with_item v c l = record { items = set v.items c l; count = v.count; full = length-set v.items c l ∙ v.full; few = v.few }

-- a table has as many lanes as it counts
pub counted : {N : ℕ} (v : Table Lane N) → length (listed v) ≡ v.count
counted v = length-take-le v.count v.items (omega (arith, v.full, v.few))

-- the table with one lane more
abbrev pub added : (v : Table Lane 8) → Lane → v.count < 8 → Table Lane 8
added v l room = record { items = set v.items v.count l; count = v.count + 1; full = length-set v.items v.count l ∙ v.full; few = omega (arith, room) }

-- where there is room, that lane is admitted
pub added_is : (t : ℕ) (x : Terms) → true ≡ terms_ok x → (v : Table Lane 8) (l : Lane) (room : v.count < 8) → client_of l ≡ new_client x
    → (true ≡ admits (viewed t v) x) × (viewed t (added v l room) ≡ admitted (viewed t v) x)
added_is t x fit v l room e =
    admit_is t x fit v (added v l room) l (omega (arith, room, counted v)) e (take_more_set v.items v.count l (omega (arith, room, v.full)))

module _ {N : ℕ} (v : Table Lane N) (c : ℕ) (d : Lane) (known : c < v.count) where
  inside : c < length v.items
  inside = omega (arith, known, v.full, v.few)

  pub lane_is : client_in (listed v) c ≡ client_of (get_or v.items c d)
  lane_is =
      get_or-map client_of (listed v) c d (new_client vacant) (omega (arith, known, counted v))
      ∙ ap client_of (get_or-take v.count v.items c d known)

  -- lane c becomes l, and its client what f makes of it
  pub item_is : (t : ℕ) (l : Lane) (f : Client → Client) → client_of l ≡ f (client_of (get_or v.items c d))
      → viewed t (with_item v c l) ≡ record { count = length (listed v); now = t; client = at c f (client_in (listed v)) }
  item_is t l f e =
      let xs = listed v in
      ap (λ (ys : List Lane). record { count = length ys; now = t; client = client_in ys }) (take-set-lt v.count v.items c l known)
      ∙ ap (λ (n : ℕ). record { count = n; now = t; client = client_in (set xs c l) }) (length-set xs c l)
      ∙ ap (λ (g : ℕ → Client). record { count = length xs; now = t; client = g })
      (at_is c f (client_in xs) (client_in (set xs c l))
      (ap (λ (ys : List Client). get_or ys c (new_client vacant)) (map-set client_of xs c l)
      ∙ get_or-set_same (map client_of xs) c (client_of l) (new_client vacant) (omega (arith, known, counted v, length-map xs client_of))
      ∙ e ∙ ap f (sym lane_is))
      (λ k ne. ap (λ (ys : List Client). get_or ys k (new_client vacant)) (map-set client_of xs c l)
      ∙ get_or-set_other (map client_of xs) c k (client_of l) (new_client vacant) ne))

-- ## A slot

module _ (t : ℕ) (who : Option ℕ) (early : t < 4294967295) where
  -- the lane of the client that is served is written
  pub slot_is : {N : ℕ} (v : Table Lane N) (c : ℕ) (d l : Lane) (s : Served) → Some c ≡ served_client (viewed t v) who
      → s ≡ gone c (client_of (get_or v.items c d)).waiting → client_of l ≡ serve (client_of (get_or v.items c d))
      → (◌≡◌ {A = SlotAnswer} (Ok s) (slot_says (viewed t v) who)) × (viewed (t + 1) (with_item v c l) ≡ slot_leaves (viewed t v) who)
  slot_is v c d l s e says left =
      let m = viewed t v in
      let known : c < v.count = omega (arith, (served_known m who c (sym e)).1, counted v) in
      let ok : Served → SlotAnswer = λ x. Ok x in
      let no : SlotAnswer = Err Ended in (
        ap ok (says ∙ ap (λ (y : Client). gone c y.waiting) (sym (lane_is v c d known)) ∙ ap (gives m) e)
            ∙ sym (ap (λ (b : Bool). cond {A = SlotAnswer} b (ok (gives m (served_client m who))) no) (lt-ltb t 4294967295 early)),
        item_is v c d known (t + 1) l serve left ∙ ap (goes_on m) e ∙ slot_goes m who early,
      )

  -- nobody is served
  pub slot_idle : {N : ℕ} (v : Table Lane N) → None ≡ served_client (viewed t v) who → viewed (t + 1) v ≡ slot_leaves (viewed t v) who
  slot_idle v e = ap (goes_on (viewed t v)) e ∙ slot_goes (viewed t v) who early

-- ## A submission

-- what is told of a client and accepts a block: there is such a client, and it has room
pub let_in : {N : ℕ} (t : ℕ) (v : Table Lane N) (c len : ℕ) (told : View) → ◌≡◌ {A = Result View Refusal} (Ok told) (asked (viewed t v) c view_of)
    → ◌≡◌ {A = Result (Unit {0}) Refusal} (Ok tt) (accepting told len) → (c < v.count) × (0 < len) × (len ≤ 16) × (length (client_in (listed v) c).waiting < 8)
let_in t v c len told e accepts =
    let a = asked_ok (viewed t v) c told view_of e in
    let b = accepted told len accepts in
    (omega (arith, a.0, counted v), b.0, b.1, omega (arith, b.2, ap (λ (w : View). w.waiting) a.1))

module _ {N : ℕ} (t : ℕ) (v : Table Lane N) (c : ℕ) (d : Lane) (known : c < v.count) where
  abbrev x : Client
  x = client_in (listed v) c

  abbrev was : Client
  was = client_of (get_or v.items c d)

  pub here : was ≡ x
  here = sym (lane_is v c d known)

  module _ (kept : ∥ Kept (viewed t v) ∥₁) where
    held : ∥ Held t x ∥₁
    held = ∥∥₁_map kept (λ g. g.each c (omega (arith, known, counted v)))

    early : t < 4294967296
    early = ∥∥₁_elim kept le_prop (λ g. g.counted)

    start_small : start_at t x < 2 ^ 52
    start_small = ∥∥₁_elim held le_prop (λ h.
        let a : x.terms.rate.p * t ≤ 1024 * 4294967296 = mul-le-mul {n₂ = 1024} {m₂ = 4294967296} (omega (arith, h.ranged.rate, h.ranged.small)) (omega (arith, early)) in
        omega (arith, a, clock_small t x early h))

    pub enter_small : (len : ℕ) → len ≤ 16 → start_at t was + was.terms.rate.q * len < 2 ^ 62
    enter_small len few =
        let b : x.terms.rate.q * len ≤ 1024 * 16 = ∥∥₁_elim held le_prop (λ h. mul-le-mul {n₂ = 1024} {m₂ = 16} h.ranged.small few) in
        subst (λ (y : Client). start_at t y + y.terms.rate.q * len < 2 ^ 62) (sym here) (omega (arith, b, start_small))

  module _ (len : ℕ) (some : 0 < len) (few : len ≤ 16) (room : length x.waiting < 8) where
    grants-it : granted (viewed t v) c len ≡ true
    grants-it = grants (viewed t v) c len (omega (arith, known, counted v)) some few room

    pub submit_says : ∥ Kept (viewed t v) ∥₁ → (due : ℕ) → due ≡ due_within was.terms (start_at t was) → ◌≡◌ {A = DueAnswer} (Ok due) (granting (viewed t v) c len)
    submit_says kept due e =
        let late : x.terms.latency ≤ 4194304 = ∥∥₁_elim (held kept) le_prop (λ h. h.ranged.most) in
        let fits-it : min (start_at t x + x.terms.latency) 18446744073709551615 ≡ start_at t x + x.terms.latency = min-eq_left (omega (arith, late, start_small kept)) in
        let due-is : due ≡ due_of x (start_at t x) = e ∙ ap (λ (y : Client). due_within y.terms (start_at t y)) here ∙ ap (λ (k : ℕ). k / x.terms.rate.p) fits-it in
        let ok : ℕ → DueAnswer = λ k. Ok k in
        ap ok due-is ∙ sym (granting_is (viewed t v) c len grants-it)

    pub submit_leaves : (label : ℕ) (l : Lane) → client_of l ≡ entered t label len was → viewed t (with_item v c l) ≡ submitted (viewed t v) c label len
    submit_leaves label l e =
        let after : Meaning = record { count = length (listed v); now = t; client = at c (entered t label len) (client_in (listed v)) } in
        item_is v c d known t l (entered t label len) e
        ∙ sym (ap (λ (b : Bool). cond {A = Meaning} b after (viewed t v)) grants-it)
