-- A submission, a turn that opens and a unit that goes keep a ring's clients on time, whoever has had a turn before whom.
use Rattle.std.specs.Prelude.{◌≡◌, ℕ, ◌+◌, ◌-◌, ◌*◌, ◌<◌, ◌≤◌, Bool, true, false, cond, ◌&&◌, ◌≢◌, List, length, ◌==◌, slice_index_or, refl}
use Rattle.std.proofs.Common.{sym, ap, subst, ◌∙◌, ⊎_elim, arith, eqb-true, eq-eqb, ne_eqb}
use mathlib.Core.Path.{fun_ext}
use Rattle.std.proofs.lemmas.List.{get_or-set_same, get_or-set_other}
use Rattle.std.proofs.Math.Seq.{set_out}
use Rattle.std.proofs.lemmas.Bool.{and_parts, cases_lt, cases_eq}
use Rattle.server.specs.declared.block.Block.{Block}
use Rattle.server.specs.Meaning.{Client, Meaning}
use Rattle.server.specs.Calls.{at, entered, served, serve, ticked, served_to}
use Rattle.server.specs.Laws.{Lawful}
use Rattle.server.proofs.Meanings.{at_elim, at_here, at_other}
use Rattle.clients.specs.Held.{Kept, reach}
use Rattle.clients.specs.Serving.{front_of}
use Rattle.clients.proofs.Clients.{reach_entered, reach_ticked, reach_gone, reach_empty, laws_on_time}
use Rattle.ring.specs.declared.turns.Place.{Place}
use Rattle.ring.specs.declared.turns.Ring.{Ring}
use Rattle.ring.specs.declared.turns.Rest.{Rest}
use Rattle.ring.specs.declared.turns.Turn.TheVariants.{Open}
use Rattle.ring.specs.Sums.{sum, others}
use Rattle.ring.specs.Shares.{theta}
use Rattle.ring.specs.Turns.{no_place, place_of, quantum_of, deficit_of, stands_open, client_of, length_of, rest_of, turn_to}
use Rattle.ring.specs.Paced.{allowance_in, Share, Within, mine, allowance, marked, Bounded, Paced}
use Rattle.ring.specs.SumsLemmas.{by_test, others_le, others_at, others_split, others_const, others_add, others_none}
use Rattle.ring.specs.Potential.{eased, other_gives, other_opens, own_gives, own_opens, on_time, at_rest, weigh_outside, weigh_inside, theta_late}
use Rattle.ring.specs.Giving.{allowance_entered, share_entered, allowance_opened, share_opened, rest_client, share_gave, allowance_less, allowance_just}

-- ## Whose turn is open

mine_true : (r : Ring) (k : ℕ) → mine r k ≡ true → (stands_open r.turn ≡ true) × (k ≡ client_of r.turn)
mine_true r k e = let a = and_parts (stands_open r.turn) (k == client_of r.turn) e in (a.0, eqb-true k (client_of r.turn) a.1)

pub mine_yes : (r : Ring) (k : ℕ) → stands_open r.turn ≡ true → k ≡ client_of r.turn → mine r k ≡ true
mine_yes r k o e = ap (λ (b : Bool). b && k == client_of r.turn) o ∙ eq-eqb k (client_of r.turn) e

mine_off : (r : Ring) (k : ℕ) → k ≢ client_of r.turn → mine r k ≡ false
mine_off r k n = by_test (stands_open r.turn) (λ b. (b && k == client_of r.turn) ≡ false) (λ _. ne_eqb k (client_of r.turn) n) (λ _. refl)

mine_closed : (r : Ring) (k : ℕ) → stands_open r.turn ≡ false → mine r k ≡ false
mine_closed r k o = ap (λ (b : Bool). b && k == client_of r.turn) o

-- what a client may still give, from its parts
allowance_is : (m : Meaning) (r : Ring) (k : ℕ) (b : Bool) (d : ℕ) (bs : List Block) → mine r k ≡ b → deficit_of r k ≡ d → (m.client k).waiting ≡ bs → allowance m r k ≡ allowance_in b d bs
allowance_is m r k b d bs x y z =
    ap (λ (b : Bool). allowance_in b (deficit_of r k) (m.client k).waiting) x ∙ ap (λ (d : ℕ). allowance_in b d (m.client k).waiting) y ∙ ap (λ (bs : List Block). allowance_in b d bs) z

-- ## The quanta of those who have had their turn

marked_le : (g g' : ℕ → Bool) (r : Ring) (j : ℕ) → (g j ≡ true → g' j ≡ true) → marked g r j ≤ marked g' r j
marked_le g g' r j h = by_test (g j) (λ t. (t ≡ true → g' j ≡ true) → cond t (quantum_of r j) 0 ≤ cond (g' j) (quantum_of r j) 0)
    (λ e f. rw (f refl) (omega arith)) (λ e f. omega arith) h

marked_all : (k c : ℕ) (g g' : ℕ → Bool) (r : Ring) → ((j : ℕ) → j < k → j ≢ c → g j ≡ true → g' j ≡ true) → others k c (marked g r) ≤ others k c (marked g' r)
marked_all k c g g' r h = others_le k c (marked g r) (marked g' r) (λ j l n. marked_le g g' r j (h j l n))

-- t is marked as well
marked_more : (k c t : ℕ) (g g' : ℕ → Bool) (r : Ring) → t < k → t ≢ c → g t ≡ false → g' t ≡ true → ((j : ℕ) → j < k → j ≢ c → g j ≡ true → g' j ≡ true)
    → others k c (marked g r) + quantum_of r t ≤ others k c (marked g' r)
marked_more k c t g g' r l n a b h =
    let z : marked g r t ≡ 0 = ap (λ (b : Bool). cond b (quantum_of r t) 0) a in
    let z' : marked g' r t ≡ quantum_of r t = ap (λ (b : Bool). cond b (quantum_of r t) 0) b in
    let s = others_at k c (marked g' r) (marked g r) t (quantum_of r t) 0 l n (omega (arith, z, z')) (λ j i o _. marked_le g g' r j (h j i o)) in
    omega (arith, s)

-- ## One state

-- a client's share and its potential, with the quanta apart from the ring
abbrev EachShareBy : (ℕ → ℕ) → Meaning → Ring → Type 0
EachShareBy q m r = (k : ℕ) → k < m.count → Share m.count r.total (q k) (deficit_of r k) (mine r k) (m.client k)

abbrev EachShare : Meaning → Ring → Type 0
EachShare m r = EachShareBy (quantum_of r) m r

abbrev BoundedBy : (ℕ → ℕ) → Meaning → Ring → (ℕ → Bool) → ℕ → Type 0
BoundedBy q m r gone c =
    Within (m.client c).terms.rate.p (q c) (r.total - q c) (15 * (m.count - 1)) m.now
    (others m.count c (allowance m r)) (reach m.now (m.client c)) (others m.count c (λ j. cond (gone j) (q j) 0)) (allowance m r c)

-- the others may give no more than the quanta of those who have had their turn, and 15 units each
spread : (m : Meaning) (r : Ring) (c : ℕ) (gone : ℕ → Bool) → c < m.count → EachShare m r → (stands_open r.turn ≡ true → c ≢ client_of r.turn → gone (client_of r.turn) ≡ true)
    → others m.count c (allowance m r) ≤ others m.count c (marked gone r) + 15 * (m.count - 1)
spread m r c gone l each seen =
    omega (arith, others_le m.count c (allowance m r) (λ j. marked gone r j + 15) one, others_add m.count c (marked gone r) (λ j. 15), others_const m.count c 15 l)
  where
    one : (j : ℕ) → j < m.count → j ≢ c → allowance m r j ≤ marked gone r j + 15
    one j i n = by_test (mine r j)
        (λ b. Share m.count r.total (quantum_of r j) (deficit_of r j) b (m.client j) → allowance_in b (deficit_of r j) (m.client j).waiting ≤ marked gone r j + 15)
        (λ e h.
        let o = mine_true r j e in
        let g : gone j ≡ true = subst (λ (k : ℕ). gone k ≡ true) (sym o.1) (seen o.0 (λ z. n (o.1 ∙ sym z))) in
        let q : marked gone r j ≡ quantum_of r j = ap (λ (b : Bool). cond b (quantum_of r j) 0) g in
        omega (arith, q, (h.inside refl).1))
        (λ e h. omega (arith, (h.outside refl).0))
        (each j i)

-- a client with nothing waiting keeps its potential
pub resting : (m : Meaning) (r : Ring) (c : ℕ) (gone : ℕ → Bool) → c < m.count → EachShare m r → (stands_open r.turn ≡ true → c ≢ client_of r.turn → gone (client_of r.turn) ≡ true) → length (m.client c).waiting ≡ 0 → Bounded m r gone c
resting m r c gone l each seen none = at_rest (reach_empty m.now (m.client c) none) (spread m r c gone l each seen)

module _ (m : Meaning) (r : Ring) (gone : ℕ → ℕ → Bool) (fits : sum m.count (quantum_of r) ≤ r.total) (P : Paced m r gone) (c : ℕ) (l : c < m.count) where
  quanta : others m.count c (quantum_of r) + quantum_of r c ≤ r.total
  quanta = omega (arith, others_split m.count c (quantum_of r) l, fits)

  gone-few : others m.count c (marked (gone c) r) ≤ r.total - quantum_of r c
  gone-few = omega (
    arith,
    quanta,
    others_le m.count c (marked (gone c) r) (quantum_of r)
        (λ j i n. by_test (gone c j) (λ t. cond t (quantum_of r j) 0 ≤ quantum_of r j) (λ e. omega arith) (λ e. omega arith)),
  )

  -- while its turn is open nobody else has had one
  gone-none : stands_open r.turn ≡ true → c ≡ client_of r.turn → others m.count c (marked (gone c) r) ≡ 0
  gone-none o e = others_none m.count c (marked (gone c) r)
      (λ j i n.
      let g : gone c j ≡ false = subst (λ (t : ℕ). gone t j ≡ false) (sym e) (P.own o j i (λ z. n (z ∙ sym e))) in
      ap (λ (b : Bool). cond b (quantum_of r j) 0) g)

-- ## A block comes in

module _ (m : Meaning) (r : Ring) (gone gone' : ℕ → ℕ → Bool) (P : Paced m r gone) (a label len : ℕ)
    (own' : stands_open r.turn ≡ true → (j : ℕ) → j < m.count → j ≢ client_of r.turn → gone' (client_of r.turn) j ≡ false)
    (seen' : stands_open r.turn ≡ true → (c : ℕ) → c < m.count → c ≢ client_of r.turn → gone' c (client_of r.turn) ≡ true)
    (grows : (c : ℕ) → c < m.count → 0 < length (m.client c).waiting → (j : ℕ) → j < m.count → j ≢ c → gone c j ≡ true → gone' c j ≡ true) where
  abbrev came : Meaning
  came = record { count = m.count; now = m.now; client = at a (entered m.now label len) m.client }

  came-allowance : (k : ℕ) → k < m.count → allowance came r k ≡ allowance m r k
  came-allowance k l = at_elim (λ x. allowance_in (mine r k) (deficit_of r k) x.waiting ≡ allowance m r k) a k (entered m.now label len) m.client
      (λ _. allowance_entered (P.each k l) m.now label len)
      (λ _. refl)

  came-reach : (k : ℕ) → reach m.now (came.client k) ≡ reach m.now (m.client k)
  came-reach k = at_elim (λ x. reach m.now x ≡ reach m.now (m.client k)) a k (entered m.now label len) m.client (λ _. reach_entered m.now label len (m.client k)) (λ _. refl)

  came-rate : (k : ℕ) → (came.client k).terms.rate.p ≡ (m.client k).terms.rate.p
  came-rate k = at_elim (λ x. x.terms.rate.p ≡ (m.client k).terms.rate.p) a k (entered m.now label len) m.client (λ _. refl) (λ _. refl)

  each-came : EachShare came r
  each-came k l = at_elim (Share m.count r.total (quantum_of r k) (deficit_of r k) (mine r k)) a k (entered m.now label len) m.client
      (λ _. share_entered (P.each k l) m.now label len)
      (λ _. P.each k l)

  -- a client that waited before keeps its potential
  waited : (c : ℕ) → c < m.count → 0 < length (m.client c).waiting → Bounded came r (gone' c) c
  waited c l w =
      subst (λ (p : ℕ). Within p (quantum_of r c) (r.total - quantum_of r c) (15 * (m.count - 1)) m.now (others m.count c (allowance came r)) (reach m.now (came.client c)) (others m.count c (marked (gone' c) r)) (allowance came r c))
      (sym (came-rate c))
      (eased (P.bound c l)
      (others_le m.count c (allowance came r) (allowance m r) (λ j i n. omega (arith, came-allowance j i)))
      (omega (arith, came-reach c))
      (marked_all m.count c (gone c) (gone' c) r (grows c l w))
      (omega (arith, came-allowance c l)))

  -- one that begins to wait is not late
  begins : (c : ℕ) → c < m.count → length (m.client c).waiting ≡ 0 → Bounded came r (gone' c) c
  begins c l none = at_rest
      (subst (λ (p : ℕ). p * m.now ≤ reach m.now (came.client c)) (sym (came-rate c)) (omega (arith, came-reach c, reach_empty m.now (m.client c) none)))
      (spread came r c (gone' c) l each-came (λ o n. seen' o c l n))

  pub paced_came : Paced came r gone'
  paced_came = record {
    each = each-came;
    there = P.there;
    own = own';
    seen = seen';
    bound = λ c l. ⊎_elim (waited c l) (λ none. begins c l (omega (arith, none))) (cases_lt 0 (length (m.client c).waiting));
  }

-- ## Nothing waits

pub paced_idle : (m : Meaning) (r : Ring) (gone : ℕ → ℕ → Bool) → ((c : ℕ) → c < m.count → length (m.client c).waiting ≡ 0) → Paced m r gone → Paced (ticked m) r gone
paced_idle m r gone none P = record {
  each = P.each;
  there = P.there;
  own = P.own;
  seen = P.seen;
  bound = λ c l. resting (ticked m) r c (gone c) l P.each (λ o n. P.seen o c l n) (none c l);
}

-- ## The turn moves

share_is : {count total φ d d' : ℕ} {b b' : Bool} {x : Client} → d ≡ d' → b ≡ b' → Share count total φ d b x → Share count total φ d' b' x
share_is {count} {total} {φ} {d} {d'} {b} {b'} {x} e f h =
    subst (λ (n : ℕ). Share count total φ n b' x) e (subst (λ (c : Bool). Share count total φ d c x) f h)

mine_turn : (r : Ring) → mine r (client_of r.turn) ≡ stands_open r.turn
mine_turn r = by_test (stands_open r.turn) (λ b. (b && (client_of r.turn) == client_of r.turn) ≡ b) (λ _. eq-eqb (client_of r.turn) (client_of r.turn) refl) (λ _. refl)

module _ (r : Ring) (t : ℕ) (x : Rest) where
  abbrev moved : Place
  moved = record { quantum = quantum_of r t; deficit = x.deficit }

  place-here : t < length r.places → place_of (turn_to r t x) t ≡ moved
  place-here l = get_or-set_same r.places t moved no_place l

  place-there : (k : ℕ) → k ≢ t → place_of (turn_to r t x) k ≡ place_of r k
  place-there k n = get_or-set_other r.places t k moved no_place n

  pub deficit_here : t < length r.places → deficit_of (turn_to r t x) t ≡ x.deficit
  deficit_here l = ap (λ (p : Place). p.deficit) (place-here l)

  deficit-there : (k : ℕ) → k ≢ t → deficit_of (turn_to r t x) k ≡ deficit_of r k
  deficit-there k n = ap (λ (p : Place). p.deficit) (place-there k n)

  quantum-here : quantum_of (turn_to r t x) t ≡ quantum_of r t
  quantum-here = ⊎_elim
      (λ (l : t < length r.places). ap (λ (p : Place). p.quantum) (place-here l))
      (λ l. ap (λ (ps : List Place). (slice_index_or ps t no_place).quantum) (set_out r.places t moved l))
      (cases_lt t (length r.places))

  -- the quanta stay
  pub quanta_kept : quantum_of (turn_to r t x) ≡ quantum_of r
  quanta_kept = fun_ext (λ k. ⊎_elim
      (λ (e : k ≡ t). subst (λ (j : ℕ). quantum_of (turn_to r t x) j ≡ quantum_of r j) (sym e) quantum-here)
      (λ n. ap (λ (p : Place). p.quantum) (place-there k n))
      (cases_eq k t))

-- ## A turn opens

module _ (m : Meaning) (r : Ring) (gone gone' : ℕ → ℕ → Bool) (kept : Kept m) (full : length r.places ≡ 8) (fits : sum m.count (quantum_of r) ≤ r.total) (P : Paced m r gone)
    (t : ℕ) (closed : stands_open r.turn ≡ false) (l : t < m.count) (some : 0 < length (m.client t).waiting)
    (own' : (j : ℕ) → j < m.count → j ≢ t → gone' t j ≡ false)
    (seen' : (c : ℕ) → c < m.count → c ≢ t → gone' c t ≡ true)
    (fresh : (c : ℕ) → c < m.count → c ≢ t → 0 < length (m.client c).waiting → gone c t ≡ false)
    (grows : (c : ℕ) → c < m.count → c ≢ t → 0 < length (m.client c).waiting → (j : ℕ) → j < m.count → j ≢ c → gone c j ≡ true → gone' c j ≡ true) where
  abbrev begun : Rest
  begun = record { deficit = deficit_of r t + quantum_of r t - length_of (front_of (m.client t).waiting); turn = Open t }

  abbrev opened : Ring
  opened = turn_to r t begun

  here : deficit_of opened t ≡ begun.deficit
  here = deficit_here r t begun (omega (arith, kept.eight, full))

  same-quanta : quantum_of opened ≡ quantum_of r
  same-quanta = quanta_kept r t begun

  was : (k : ℕ) → k < m.count → Share m.count r.total (quantum_of r k) (deficit_of r k) false (m.client k)
  was k i = share_is refl (mine_closed r k closed) (P.each k i)

  allowance-was : (k : ℕ) → allowance m r k ≡ allowance_in false (deficit_of r k) (m.client k).waiting
  allowance-was k = allowance_is m r k false (deficit_of r k) (m.client k).waiting (mine_closed r k closed) refl refl

  allowance-here : allowance m opened t ≡ allowance m r t + quantum_of r t
  allowance-here =
      let a : allowance m opened t ≡ allowance_in true begun.deficit (m.client t).waiting = allowance_is m opened t true begun.deficit (m.client t).waiting (mine_turn opened) here refl in
      omega (arith, a, allowance-was t, allowance_opened (kept.each t l) (was t l) some)

  allowance-there : (k : ℕ) → k ≢ t → allowance m opened k ≡ allowance m r k
  allowance-there k n = allowance_is m opened k false (deficit_of r k) (m.client k).waiting (mine_off opened k n) (deficit-there r t begun k n) refl ∙ sym (allowance-was k)

  each-opened : EachShare m opened
  each-opened = subst (λ (q : ℕ → ℕ). EachShareBy q m opened) (sym same-quanta) (λ k i. ⊎_elim
      (λ (e : k ≡ t). subst (λ (j : ℕ). Share m.count r.total (quantum_of r j) (deficit_of opened j) (mine opened j) (m.client j)) (sym e)
      (share_is (sym here) (sym (mine_turn opened)) (share_opened (kept.each t l) (was t l) some)))
      (λ n. share_is (sym (deficit-there r t begun k n)) (sym (mine_off opened k n)) (was k i))
      (cases_eq k t))

  own-bound : Bounded m opened (gone' t) t
  own-bound = subst (λ (q : ℕ → ℕ). BoundedBy q m opened (gone' t) t) (sym same-quanta)
      (own_opens (P.bound t l) (gone-few m r gone fits P t l) (omega (arith, allowance-here)) (others_le m.count t (allowance m opened) (allowance m r) (λ j i n. omega (arith, allowance-there j n))))

  other-bound : (c : ℕ) → c < m.count → c ≢ t → 0 < length (m.client c).waiting → Bounded m opened (gone' c) c
  other-bound c i n w =
      let n' : t ≢ c = λ z. n (sym z) in
      let a : others m.count c (allowance m opened) + 0 ≤ others m.count c (allowance m r) + quantum_of r t =
      others_at m.count c (allowance m r) (allowance m opened) t 0 (quantum_of r t) l n' (omega (arith, allowance-here)) (λ j _ _ o. omega (arith, allowance-there j o)) in
      subst (λ (q : ℕ → ℕ). BoundedBy q m opened (gone' c) c) (sym same-quanta)
      (other_opens (P.bound c i) (quantum_of r t) (omega (arith, a)) (marked_more m.count c t (gone c) (gone' c) r l n' (fresh c i n w) (seen' c i n) (grows c i n w)) (omega (arith, allowance-there c n)))

  pub paced_opened : Paced m opened gone'
  paced_opened = record {
    each = each-opened;
    there = λ _. l;
    own = λ _. own';
    seen = λ _. seen';
    bound = λ c i. ⊎_elim
        (λ (w : 0 < length (m.client c).waiting). ⊎_elim
        (λ (e : c ≡ t). subst (λ (k : ℕ). Bounded m opened (gone' k) k) (sym e) own-bound)
        (λ n. other-bound c i n w)
        (cases_eq c t))
        (λ none. resting m opened c (gone' c) i each-opened (λ _ n. seen' c i n) (omega (arith, none)))
        (cases_lt 0 (length (m.client c).waiting));
  }

-- ## A unit goes

module _ (m : Meaning) (r : Ring) (gone gone' : ℕ → ℕ → Bool) (kept : Kept m) (full : length r.places ≡ 8) (fits : sum m.count (quantum_of r) ≤ r.total) (P : Paced m r gone)
    (opened : stands_open r.turn ≡ true)
    (own' : stands_open (rest_of (client_of r.turn) (deficit_of r (client_of r.turn)) (m.client (client_of r.turn)).waiting).turn ≡ true → (j : ℕ) → j < m.count → j ≢ client_of r.turn → gone' (client_of r.turn) j ≡ false)
    (seen' : stands_open (rest_of (client_of r.turn) (deficit_of r (client_of r.turn)) (m.client (client_of r.turn)).waiting).turn ≡ true → (c : ℕ) → c < m.count → c ≢ client_of r.turn → gone' c (client_of r.turn) ≡ true)
    (grows : (c : ℕ) → c < m.count → c ≢ client_of r.turn → 0 < length (m.client c).waiting → (j : ℕ) → j < m.count → j ≢ c → gone c j ≡ true → gone' c j ≡ true) where
  abbrev t : ℕ
  t = client_of r.turn

  abbrev rest : Rest
  rest = rest_of t (deficit_of r t) (m.client t).waiting

  abbrev gave : Ring
  gave = turn_to r t rest

  abbrev after : Meaning
  after = served_to t m

  l : t < m.count
  l = P.there opened

  gave-here : deficit_of gave t ≡ rest.deficit
  gave-here = deficit_here r t rest (omega (arith, kept.eight, full, l))

  gave-turn : client_of gave.turn ≡ t
  gave-turn = rest_client t (deficit_of r t) (m.client t).waiting

  mine-gave : mine gave t ≡ stands_open rest.turn
  mine-gave = subst (λ (k : ℕ). mine gave k ≡ stands_open rest.turn) gave-turn (mine_turn gave)

  mine-kept : (k : ℕ) → k ≢ t → mine gave k ≡ false
  mine-kept k n = mine_off gave k (λ z. n (z ∙ gave-turn))

  seen-gave : stands_open gave.turn ≡ true → (c : ℕ) → c < m.count → c ≢ client_of gave.turn → gone' c (client_of gave.turn) ≡ true
  seen-gave = subst (λ (k : ℕ). stands_open rest.turn ≡ true → (c : ℕ) → c < m.count → c ≢ k → gone' c k ≡ true) (sym gave-turn) seen'

  gave-quanta : quantum_of gave ≡ quantum_of r
  gave-quanta = quanta_kept r t rest

  is_open : Share m.count r.total (quantum_of r t) (deficit_of r t) true (m.client t)
  is_open = share_is refl (mine_yes r t opened refl) (P.each t l)

  was-closed : (k : ℕ) → k < m.count → k ≢ t → Share m.count r.total (quantum_of r k) (deficit_of r k) false (m.client k)
  was-closed k i n = share_is refl (mine_off r k n) (P.each k i)

  allowance-open : allowance m r t ≡ allowance_in true (deficit_of r t) (m.client t).waiting
  allowance-open = allowance_is m r t true (deficit_of r t) (m.client t).waiting (mine_yes r t opened refl) refl refl

  allowance-gave : allowance after gave t ≡ allowance_in (stands_open rest.turn) rest.deficit (served (m.client t).waiting)
  allowance-gave = allowance_is after gave t (stands_open rest.turn) rest.deficit (served (m.client t).waiting) mine-gave gave-here (ap (λ (x : Client). x.waiting) (at_here t serve m.client))

  allowance-kept : (k : ℕ) → k ≢ t → allowance after gave k ≡ allowance m r k
  allowance-kept k n =
      allowance_is after gave k false (deficit_of r k) (m.client k).waiting (mine-kept k n) (deficit-there r t rest k n) (ap (λ (x : Client). x.waiting) (at_other t k serve m.client n))
      ∙ sym (allowance_is m r k false (deficit_of r k) (m.client k).waiting (mine_off r k n) refl refl)

  each_gave : EachShare after gave
  each_gave = subst (λ (q : ℕ → ℕ). EachShareBy q after gave) (sym gave-quanta) (λ k i. at_elim (Share m.count r.total (quantum_of r k) (deficit_of gave k) (mine gave k)) t k serve m.client
      (λ e. subst (λ (j : ℕ). Share m.count r.total (quantum_of r j) (deficit_of gave j) (mine gave j) (serve (m.client j))) (sym e)
      (share_is (sym gave-here) (sym mine-gave) (share_gave t (kept.each t l) is_open)))
      (λ n. share_is (sym (deficit-there r t rest k n)) (sym (mine-kept k n)) (was-closed k i n)))

  abbrev Holds : ℕ → Client → Type 0
  Holds c x =
      Within x.terms.rate.p (quantum_of r c) (r.total - quantum_of r c) (15 * (m.count - 1)) (m.now + 1)
      (others m.count c (allowance after gave)) (reach (m.now + 1) x) (others m.count c (marked (gone' c) r)) (allowance after gave c)

  own-holds : 0 < length (served (m.client t).waiting) → Holds t (serve (m.client t))
  own-holds w =
      let x = m.client t in
      let rest-of : (r.total - quantum_of r t) + quantum_of r t ≡ r.total = omega (arith, quanta m r gone fits P t l) in
      own_gives (P.bound t l) x.terms.rate.q
      (omega (arith, ap (λ (n : ℕ). x.terms.rate.p * n) rest-of, is_open.enough))
      (gone-none m r gone fits P t l opened refl)
      (omega (arith, allowance-open, allowance-gave, allowance_just t (kept.each t l) is_open w))
      (others_le m.count t (allowance after gave) (allowance m r) (λ j _ n. omega (arith, allowance-kept j n)))
      (reach_gone m.now x (is_open.inside refl).0 (kept.each t l))

  other-holds : (c : ℕ) → c < m.count → c ≢ t → 0 < length (m.client c).waiting → Holds c (m.client c)
  other-holds c i n w =
      let n' : t ≢ c = λ z. n (sym z) in
      let x = m.client c in
      let a : others m.count c (allowance after gave) + 1 ≤ others m.count c (allowance m r) + 0 =
      others_at m.count c (allowance m r) (allowance after gave) t 1 0 l n'
      (omega (arith, allowance-open, allowance-gave, allowance_less t (kept.each t l) is_open))
      (λ j _ _ o. omega (arith, allowance-kept j o)) in
      other_gives (P.bound c i) (omega (arith, a)) (reach_ticked m.now x) (marked_all m.count c (gone c) (gone' c) r (grows c i n w)) (omega (arith, allowance-kept c n))

  waiting-holds : (c : ℕ) → c < m.count → 0 < length (after.client c).waiting → Holds c (after.client c)
  waiting-holds c i = at_elim (λ x. 0 < length x.waiting → Holds c x) t c serve m.client
      (λ e. subst (λ (k : ℕ). 0 < length (serve (m.client k)).waiting → Holds k (serve (m.client k))) (sym e) own-holds)
      (λ n w. other-holds c i n w)

  pub paced_gave : Paced after gave gone'
  paced_gave = record {
    each = each_gave;
    there = λ _. subst (λ (k : ℕ). k < m.count) (sym gave-turn) l;
    own = subst (λ (k : ℕ). stands_open rest.turn ≡ true → (j : ℕ) → j < m.count → j ≢ k → gone' k j ≡ false) (sym gave-turn) own';
    seen = seen-gave;
    bound = λ c i. ⊎_elim
        (λ w. subst (λ (q : ℕ → ℕ). BoundedBy q after gave (gone' c) c) (sym gave-quanta) (waiting-holds c i w))
        (λ none. resting after gave c (gone' c) i each_gave (λ o n. seen-gave o c i n) (omega (arith, none)))
        (cases_lt 0 (length (after.client c).waiting));
  }

-- ## Within the laws

module _ (m : Meaning) (r : Ring) (gone : ℕ → ℕ → Bool) (fits : sum m.count (quantum_of r) ≤ r.total) (P : Paced m r gone) where
  -- what is gone and what a client may give weigh no more than θ has for them
  weight : (c : ℕ) → c < m.count → quantum_of r c * others m.count c (marked (gone c) r) + (r.total - quantum_of r c) * allowance m r c ≤ (r.total - quantum_of r c) * (quantum_of r c + 15)
  weight c l = by_test (mine r c)
      (λ b. Share m.count r.total (quantum_of r c) (deficit_of r c) b (m.client c)
      → quantum_of r c * others m.count c (marked (gone c) r) + (r.total - quantum_of r c) * allowance_in b (deficit_of r c) (m.client c).waiting ≤ (r.total - quantum_of r c) * (quantum_of r c + 15))
      (λ e h. let o = mine_true r c e in
      weigh_inside (quantum_of r c) (r.total - quantum_of r c) (others m.count c (marked (gone c) r)) (allowance_in true (deficit_of r c) (m.client c).waiting) (gone-none m r gone fits P c l o.0 o.1) (h.inside refl).1)
      (λ e h. weigh_outside (quantum_of r c) (r.total - quantum_of r c) (others m.count c (marked (gone c) r)) (allowance_in false (deficit_of r c) (m.client c).waiting) (gone-few m r gone fits P c l) (omega (arith, (h.outside refl).0)))
      (P.each c l)

  -- on time with θ, and so within the laws
  pub paced_lawful : Kept m → Lawful m
  paced_lawful kept = record {
    eight = kept.eight;
    counted = kept.counted;
    each = λ c l.
        let x = m.client c in
        let h = P.each c l in
        let some : 0 < quantum_of r c = omega (arith, h.least) in
        laws_on_time (theta m.count r.total (quantum_of r c)) m.now x (kept.each c l) h.late
        (on_time (P.bound c l) (theta m.count r.total (quantum_of r c)) some (weight c l) (theta_late m.count r.total (quantum_of r c) some));
  }
