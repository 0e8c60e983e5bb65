-- The book and the server's meaning go together, call by call.
use Rattle.std.proofs.Common.{◌≡◌, ℕ, ◌+◌, ◌*◌, ◌<◌, ◌≤◌, max, Bool, true, false, cond, ◌&&◌, eqb, ltb, List, [], ◌∷◌, ◌++◌, length, drop, Ok, Err, sym, refl, ap, ◌∙◌, subst, arith, eqb-true}
use Rattle.server.specs.declared.block.Block.{Block}
use Rattle.server.specs.declared.block.Served.{Served}
use Rattle.server.specs.declared.block.Served.TheVariants.{Nothing, Unit as OneUnit, Departed}
use Rattle.server.specs.declared.rate.Rate.{Rate}
use Rattle.server.specs.declared.refusal.Refusal.{Refusal}
use Rattle.server.specs.declared.refusal.Refusal.TheVariants.{NoClient, BadLength, Full}
use Rattle.server.specs.Meaning.{Client, Meaning}
use Rattle.server.specs.Calls.{DueAnswer, start_at, due_of, new_block, entered, length_ok, granting, granted, at, one_less, served, gone, serve, Went}
use Rattle.server.specs.Laws.{Each, ClientLaws, Lawful}
use Rattle.server.proofs.Answers.{departs, block_departs, unit_stays}
use Rattle.book.specs.declared.calls.Order.{Order}
use Rattle.book.specs.declared.calls.Event.{Event}
use Rattle.book.specs.declared.calls.Event.TheVariants.{Submit, Slot, Ask}
use Rattle.book.specs.Book.{Entry, Gone, Account, Book, start_in, enter, oldest, depart, change, pass, fed, GoneNear, WaitingNear}
use Rattle.book.specs.Runs.{Takes}

abbrev pub entry_in : Block → Entry
entry_in b = record { label = b.label; length = b.length; start = b.start }

-- the entries of a row of waiting blocks
abbrev pub entries : List Block → List Entry
entries [] = []
entries (b ∷ bs) = entry_in b ∷ entries bs

-- one client, with its rate and latency
pub record AgreeAt (rate : Rate) (late : ℕ) (x : Account) (y : Client) : Type 0 where
  pub rate_book : x.rate ≡ rate
  pub rate_is : y.terms.rate ≡ rate
  pub late_is : y.terms.latency ≡ late
  pub clock_is : x.clock ≡ y.clock
  pub waiting_is : x.waiting ≡ entries y.waiting
  pub near : GoneNear rate.p late x.gone

-- all clients
pub record Agree (count : ℕ) (rates : ℕ → Rate) (late : ℕ → ℕ) (b : Book) (m : Meaning) : Type 0 where
  pub count_is : m.count ≡ count
  pub now_is : b.now ≡ m.now
  pub each : (k : ℕ) → k < count → AgreeAt (rates k) (late k) (b.account k) (m.client k)

-- ## Rows

entries_append : (a b : List Block) → entries (a ++ b) ≡ entries a ++ entries b
entries_append [] b = refl
entries_append (x ∷ xs) b = ap (λ (l : List Entry). entry_in x ∷ l) (entries_append xs b)

entries_unit : (w : List Block) → departs w ≡ false → entries (served w) ≡ entries w
entries_unit [] e = refl
entries_unit (b ∷ bs) e = subst (λ (d : Bool). entries (cond d bs (one_less b ∷ bs)) ≡ entry_in b ∷ entries bs) (sym e) refl

entries_gone : (w : List Block) → departs w ≡ true → entries (served w) ≡ drop 1 (entries w)
entries_gone [] e = refl
entries_gone (b ∷ bs) e = subst (λ (d : Bool). entries (cond d bs (one_less b ∷ bs)) ≡ entries bs) (sym e) refl

near_append : (p late : ℕ) (a b : List Gone) → GoneNear p late a → GoneNear p late b → GoneNear p late (a ++ b)
near_append p late [] b h k = k
near_append p late (g ∷ gs) b h k = (h.0, near_append p late gs b h.1 k)

near_oldest : (p t late : ℕ) (w : List Entry) → WaitingNear p t late w → GoneNear p late (oldest (t + 1) w)
near_oldest p t late [] h = tt
near_oldest p t late (i ∷ is) h = (h.0, tt)

near_entries : (p t late : ℕ) (w : List Block) → Each (λ b. p * (t + 1) ≤ b.start + late) w → WaitingNear p t late (entries w)
near_entries p t late [] h = tt
near_entries p t late (b ∷ bs) h = (h.0, near_entries p t late bs h.1)

-- ## One client

module _ (rate : Rate) (late : ℕ) (x : Account) (y : Client) (h : AgreeAt rate late x y) where
  -- what waits is near, as the law of debt has it
  pub waiting_near : (t : ℕ) → ClientLaws t y → WaitingNear rate.p t late x.waiting
  waiting_near t l =
      let a : Each (λ b. rate.p * (t + 1) ≤ b.start + y.terms.latency) y.waiting = subst (λ (r : Rate). Each (λ b. r.p * (t + 1) ≤ b.start + y.terms.latency) y.waiting) h.rate_is l.debt in
      let b : Each (λ b. rate.p * (t + 1) ≤ b.start + late) y.waiting = subst (λ (r : ℕ). Each (λ b. rate.p * (t + 1) ≤ b.start + r) y.waiting) h.late_is a in
      subst (WaitingNear rate.p t late) (sym h.waiting_is) (near_entries rate.p t late y.waiting b)

  pub same_start : (t : ℕ) → start_in t x ≡ start_at t y
  same_start t = ap (λ (r : Rate). max (r.p * t) x.clock) (h.rate_book ∙ sym h.rate_is) ∙ ap (λ (c : ℕ). max (y.terms.rate.p * t) c) h.clock_is

  agree-enter : (t : ℕ) (o : Order) → AgreeAt rate late (enter t o x) (entered t o.label o.length y)
  agree-enter t o = record {
    rate_book = h.rate_book;
    rate_is = h.rate_is;
    late_is = h.late_is;
    clock_is = ap (λ (s : ℕ). s + x.rate.q * o.length) (same_start t) ∙ ap (λ (r : Rate). start_at t y + r.q * o.length) (h.rate_book ∙ sym h.rate_is);
    waiting_is = ap (λ (s : ℕ). x.waiting ++ (record { label = o.label; length = o.length; start = s } ∷ [])) (same_start t)
        ∙ ap (λ (w : List Entry). w ++ (entry_in (new_block t y o.label o.length) ∷ [])) h.waiting_is
        ∙ sym (entries_append y.waiting (new_block t y o.label o.length ∷ []));
    near = h.near;
  }

  agree-unit : departs y.waiting ≡ false → AgreeAt rate late x (serve y)
  agree-unit e = record { rate_book = h.rate_book; rate_is = h.rate_is; late_is = h.late_is; clock_is = h.clock_is; waiting_is = h.waiting_is ∙ sym (entries_unit y.waiting e); near = h.near }

  agree-depart : (t : ℕ) → departs y.waiting ≡ true → ClientLaws t y → AgreeAt rate late (depart (t + 1) x) (serve y)
  agree-depart t e l = record {
    rate_book = h.rate_book;
    rate_is = h.rate_is;
    late_is = h.late_is;
    clock_is = h.clock_is;
    waiting_is = ap (drop 1) h.waiting_is ∙ sym (entries_gone y.waiting e);
    near = near_append rate.p late x.gone (oldest (t + 1) x.waiting) h.near (near_oldest rate.p t late x.waiting (waiting_near t l));
  }

-- ## All clients

-- a submission is granted with a due, or refused
data Ways (g : Bool) (r : DueAnswer) : Type 0 where
  grants : (due : ℕ) → g ≡ true → r ≡ Ok due → Ways g r
  refuses : (e : Refusal) → g ≡ false → r ≡ Err e → Ways g r

ways : (a b c : Bool) (due : ℕ) → Ways (a && (b && c)) (cond {A = DueAnswer} a (cond {A = DueAnswer} b (cond {A = DueAnswer} c (Ok due) (Err Full)) (Err BadLength)) (Err NoClient))
ways true true true due = grants due refl refl
ways true true false due = refuses Full refl refl
ways true false c due = refuses BadLength refl refl
ways false b c due = refuses NoClient refl refl

module _ (count : ℕ) (rates : ℕ → Rate) (late : ℕ → ℕ) (b : Book) (m : Meaning) (A : Agree count rates late b m) where
  agree-entered : (o : Order) → Agree count rates late (record { now = b.now; account = change o.client (enter b.now o) b.account }) (record { count = m.count; now = m.now; client = at o.client (entered m.now o.label o.length) m.client })
  agree-entered o = record {
    count_is = A.count_is;
    now_is = A.now_is;
    each = λ k h. by k h (eqb k o.client);
  }
    where
      by : (k : ℕ) → k < count → (d : Bool) → AgreeAt (rates k) (late k) (cond d (enter b.now o (b.account k)) (b.account k)) (cond d (entered m.now o.label o.length (m.client k)) (m.client k))
      by k h true = subst (λ (t : ℕ). AgreeAt (rates k) (late k) (enter b.now o (b.account k)) (entered t o.label o.length (m.client k))) A.now_is (agree-enter (rates k) (late k) (b.account k) (m.client k) (A.each k h) b.now o)
      by k h false = A.each k h

  agree-submit : (o : Order) (r : DueAnswer) (m' : Meaning) → Takes m (Submit o r) m' → Agree count rates late (fed b (Submit o r)) m'
  agree-submit o r m' t =
      let c = o.client in
      let next : Meaning = record { count = m.count; now = m.now; client = at c (entered m.now o.label o.length) m.client } in
      let w : Ways (granted m c o.length) (granting m c o.length) = ways (ltb c m.count) (length_ok o.length) (ltb (length (m.client c).waiting) 8) (due_of (m.client c) (start_at m.now (m.client c))) in
      elim w [
        | grants due g e ↦
            subst (λ (v : Meaning). Agree count rates late (fed b (Submit o r)) v) (sym (t.1 ∙ ap (λ (d : Bool). cond {A = Meaning} d next m) g))
            (subst (λ (v : DueAnswer). Agree count rates late (fed b (Submit o v)) next) (sym (t.0 ∙ e)) (agree-entered o))
        | refuses x g e ↦
            subst (λ (v : Meaning). Agree count rates late (fed b (Submit o r)) v) (sym (t.1 ∙ ap (λ (d : Bool). cond {A = Meaning} d next m) g))
            (subst (λ (v : DueAnswer). Agree count rates late (fed b (Submit o v)) m) (sym (t.0 ∙ e)) A)
      ]

  module _ (L : Lawful m) where
    ticks : b.now + 1 ≡ m.now + 1
    ticks = ap (λ (t : ℕ). t + 1) A.now_is

    laws : (k : ℕ) → k < count → ClientLaws b.now (m.client k)
    laws k h = subst (λ (t : ℕ). ClientLaws t (m.client k)) (sym A.now_is) (L.each k (omega (arith, h, A.count_is)))

    -- every waiting block is near
    pub agree_near : (k : ℕ) → k < count → WaitingNear (rates k).p b.now (late k) (b.account k).waiting
    agree_near k h = waiting_near (rates k) (late k) (b.account k) (m.client k) (A.each k h) b.now (laws k h)

    agree-pass : (s : Served) (m' : Meaning) → Went m s m' → Agree count rates late (pass b s) m'
    agree-pass Nothing m' w = subst (λ (v : Meaning). Agree count rates late (pass b Nothing) v) (sym w) (record { count_is = A.count_is; now_is = ticks; each = A.each })
    agree-pass (OneUnit c) m' w =
        subst (λ (v : Meaning). Agree count rates late (pass b (OneUnit c)) v) (sym w.leaves) (record { count_is = A.count_is; now_is = ticks; each = λ k h. by k h (eqb k c) refl })
      where
        by : (k : ℕ) → k < count → (d : Bool) → eqb k c ≡ d → AgreeAt (rates k) (late k) (b.account k) (cond d (serve (m.client k)) (m.client k))
        by k h true e = agree-unit (rates k) (late k) (b.account k) (m.client k) (A.each k h) (unit_stays c c (m.client k).waiting (w.says ∙ ap (λ (j : ℕ). gone c (m.client j).waiting) (sym (eqb-true k c e))))
        by k h false e = A.each k h
    agree-pass (Departed d) m' w =
        subst (λ (v : Meaning). Agree count rates late (pass b (Departed d)) v) (sym w.leaves) (record { count_is = A.count_is; now_is = ticks; each = λ k h. by k h (eqb k d.client) refl })
      where
        by : (k : ℕ) → k < count → (t : Bool) → eqb k d.client ≡ t → AgreeAt (rates k) (late k) (cond t (depart (b.now + 1) (b.account k)) (b.account k)) (cond t (serve (m.client k)) (m.client k))
        by k h true e = agree-depart (rates k) (late k) (b.account k) (m.client k) (A.each k h) b.now (block_departs d.client (m.client k).waiting d (w.says ∙ ap (λ (j : ℕ). gone d.client (m.client j).waiting) (sym (eqb-true k d.client e)))) (laws k h)
        by k h false e = A.each k h

    pub agree_takes : (e : Event) (m' : Meaning) → Takes m e m' → Agree count rates late (fed b e) m'
    agree_takes (Submit o r) m' t = agree-submit o r m' t
    agree_takes (Slot (Ok s)) m' t = agree-pass s m' t.1
    agree_takes (Slot (Err e)) m' t = subst (Agree count rates late b) (sym t.2) A
    agree_takes (Ask q a) m' t = subst (Agree count rates late b) (sym t.1) A
