-- Whatever calls a lawful server meets, from unused on, its book shows what is promised.
use Rattle.std.proofs.Common.{◌≡◌, ℕ, ◌+◌, ◌*◌, ◌<◌, ◌≤◌, Bool, true, false, cond, ltb, List, [], ◌∷◌, ◌++◌, length, drop, Ok, Err, sym, refl, ap, ◌∙◌, subst, append_assoc, arith, ltb-true, eq-eqb}
use Rattle.server.specs.declared.block.Block.{Block}
use Rattle.server.specs.declared.block.Departure.{Departure}
use Rattle.server.specs.declared.block.Served.TheVariants.{Departed}
use Rattle.server.specs.declared.rate.Rate.{Rate}
use Rattle.server.specs.declared.refusal.Refusal.TheVariants.{NoClient, BadLength, Full}
use Rattle.server.specs.Meaning.{Meaning}
use Rattle.server.specs.Calls.{DueAnswer, start_at, due_of, length_ok, granting, gone}
use Rattle.server.specs.Laws.{Lawful, Unused}
use Rattle.server.proofs.Answers.{departed_is}
use Rattle.book.specs.declared.calls.Order.{Order}
use Rattle.book.specs.declared.calls.Event.{Event}
use Rattle.book.specs.declared.calls.Event.TheVariants.{Submit, Slot}
use Rattle.book.specs.Book.{Entry, Book, opened, enter, fed, read, GoneNear, WaitingNear, units, Idle, Lasts, entry_of, Promised}
use Rattle.book.specs.Runs.{Run}
use Rattle.book.proofs.Stretches.{Stretch, stretch_begins, stretch_through, stretch_carries}
use Rattle.book.proofs.Agrees.{entries, Agree, agree_takes, agree_near}

pub run_lawful : (es : List Event) (m m' : Meaning) → Run m es m' → Lawful m
run_lawful [] m m' r = r.0
run_lawful (e ∷ es) m m' r = r.0

pub read_append : (b : Book) (x y : List Event) → read b (x ++ y) ≡ read (read b x) y
read_append b [] y = refl
read_append b (e ∷ x) y = read_append (fed b e) x y

-- a granted submission is of a client of the server
grant_known : (m : Meaning) (c len due : ℕ) → Ok due ≡ granting m c len → c < m.count
grant_known m c len due e = by (ltb c m.count) refl e
  where
    by : (d : Bool) → ltb c m.count ≡ d
        → ◌≡◌ {A = DueAnswer} (Ok due) (cond {A = DueAnswer} d (cond {A = DueAnswer} (length_ok len) (cond {A = DueAnswer} (ltb (length (m.client c).waiting) 8) (Ok (due_of (m.client c) (start_at m.now (m.client c)))) (Err Full)) (Err BadLength)) (Err NoClient))
        → c < m.count
    by true t h = ltb-true c m.count t
    by false t h = let z : ◌≡◌ {A = ℕ} 0 1 = cc in absurd (omega arith)

-- a departure is that of the front
front_goes : (c : ℕ) (w : List Block) (d : Departure) → Departed d ≡ gone c w → (is : List Entry) × (entries w ≡ entry_of d ∷ is)
front_goes c [] d e = let z : ◌≡◌ {A = ℕ} 0 1 = cc in absurd (omega arith)
front_goes c (b ∷ bs) d e = (entries bs, ap (λ (v : Departure). entry_of v ∷ entries bs) (sym (departed_is c b bs d e)))

module _ (count : ℕ) (rates : ℕ → Rate) (late : ℕ → ℕ) where
  -- a run up to a place: the meaning there agrees with the book there
  record Reached (b : Book) (post : List Event) (m'' : Meaning) : Type 0 where
    meaning : Meaning
    agree : Agree count rates late b meaning
    run : Run meaning post m''

  reached : (pre post : List Event) (b : Book) (m m'' : Meaning) → Agree count rates late b m → Run m (pre ++ post) m'' → Reached (read b pre) post m''
  reached [] post b m m'' A r = record { meaning = m; agree = A; run = r }
  reached (e ∷ pre) post b m m'' A r = reached pre post (fed b e) r.1.0 m'' (agree_takes count rates late b m A r.0 e r.1.0 r.1.1) r.1.2

  module _ (m m'' : Meaning) (A : Agree count rates late (opened rates) m) (es : List Event) (R : Run m es m'') where
    abbrev b₀ : Book
    b₀ = opened rates

    up_to : (pre post : List Event) → es ≡ pre ++ post → Reached (read b₀ pre) post m''
    up_to pre post e = reached pre post b₀ m m'' A (subst (λ (l : List Event). Run m l m'') e R)

    all_near : (pre post : List Event) → es ≡ pre ++ post → (k : ℕ) → k < count
        → GoneNear (rates k).p (late k) ((read b₀ pre).account k).gone × WaitingNear (rates k).p (read b₀ pre).now (late k) ((read b₀ pre).account k).waiting
    all_near pre post e k h =
        let x = up_to pre post e in
        ((x.agree.each k h).near, agree_near count rates late (read b₀ pre) x.meaning x.agree (run_lawful post x.meaning m'' x.run) k h)

    all-oldest : (pre post : List Event) (d : Departure) → es ≡ pre ++ (Slot (Ok (Departed d)) ∷ post) → (is : List Entry) × (((read b₀ pre).account d.client).waiting ≡ entry_of d ∷ is)
    all-oldest pre post d e =
        let x = up_to pre (Slot (Ok (Departed d)) ∷ post) e in
        let s = x.run.1.1.1 in
        let known : d.client < count = omega (arith, s.known, x.agree.count_is) in
        let f = front_goes d.client (x.meaning.client d.client).waiting d s.says in
        (f.0, (x.agree.each d.client known).waiting_is ∙ f.1)

    all-carried : (pre mid post : List Event) (o : Order) (due : ℕ) → es ≡ pre ++ (Submit o (Ok due) ∷ (mid ++ post))
        → Idle (read b₀ pre) o.client → Lasts (read b₀ (pre ++ (Submit o (Ok due) ∷ []))) mid o.client
        → (rates o.client).p * (read b₀ (pre ++ (Submit o (Ok due) ∷ mid))).now
        ≤ (rates o.client).q * units (drop (length ((read b₀ pre).account o.client).gone) ((read b₀ (pre ++ (Submit o (Ok due) ∷ mid))).account o.client).gone)
        + late o.client + (rates o.client).p * (read b₀ pre).now
    all-carried pre mid post o due e idle lasts =
        let c = o.client in
        let g = Submit o (Ok due) in
        let b₁ = read b₀ pre in
        let b₂ : Book = fed b₁ g in
        let x = up_to pre (g ∷ (mid ++ post)) e in
        let known : c < count = omega (arith, grant_known x.meaning c o.length due x.run.1.1.0, x.agree.count_is) in
        let n = length (b₁.account c).gone in
        let first : Stretch (rates c) b₁.now n (b₂.account c) =
        subst (λ (t : Bool). Stretch (rates c) b₁.now n (cond t (enter b₁.now o (b₁.account c)) (b₁.account c))) (sym (eq-eqb c c refl))
        (stretch_begins (rates c) b₁.now o (b₁.account c) (x.agree.each c known).rate_book idle.0 idle.1) in
        let last = stretch_through (rates c) b₁.now n c b₂ mid first (subst (λ (b : Book). Lasts b mid c) (read_append b₀ pre (g ∷ [])) lasts) in
        let there : read b₀ (pre ++ (g ∷ mid)) ≡ read b₂ mid = read_append b₀ pre (g ∷ mid) in
        let y = all_near (pre ++ (g ∷ mid)) post (e ∙ sym (append_assoc pre (g ∷ mid) post)) c known in
        let near : WaitingNear (rates c).p (read b₂ mid).now (late c) ((read b₂ mid).account c).waiting = subst (λ (b : Book). WaitingNear (rates c).p b.now (late c) (b.account c).waiting) there y.1 in
        subst (λ (b : Book). (rates c).p * b.now ≤ (rates c).q * units (drop n (b.account c).gone) + late c + (rates c).p * b₁.now) (sym there)
        (stretch_carries (rates c) b₁.now n (read b₂ mid).now (late c) ((read b₂ mid).account c) last.0 last.1 near)

-- an unused server agrees with the book as it opens
pub agree_opened : (m : Meaning) → Unused m → Agree m.count (λ k. (m.client k).terms.rate) (λ k. (m.client k).terms.latency) (opened (λ k. (m.client k).terms.rate)) m
agree_opened m u = record {
  count_is = refl;
  now_is = sym u.start;
  each = λ k h. record { rate_book = refl; rate_is = refl; late_is = refl; clock_is = sym (u.clocks k h); waiting_is = ap entries (sym (u.empty k h)); near = tt };
}

-- every run of a server that no call has moved before
pub promised : (m m' : Meaning) (es : List Event) → Unused m → Run m es m' → Promised m.count (λ k. (m.client k).terms.rate) (λ k. (m.client k).terms.latency) es
promised m m' es u r =
    let rates : ℕ → Rate = λ k. (m.client k).terms.rate in
    let late : ℕ → ℕ = λ k. (m.client k).terms.latency in
    record {
      distance = all_near m.count rates late m m' (agree_opened m u) es r;
      stretch = all-carried m.count rates late m m' (agree_opened m u) es r;
      oldest_goes = all-oldest m.count rates late m m' (agree_opened m u) es r;
    }
