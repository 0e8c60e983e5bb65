-- What a slot leaves of the ring, read off the table of clients.
use Rattle.std.proofs.Common.{◌≡◌, ℕ, ◌+◌, ◌-◌, ◌^◌, ◌<◌, ◌≤◌, Bool, true, false, cond, ltb, leb, List, [], ◌∷◌, length, Some, None, Ok, Err, Option, sym, refl, ap, ◌∙◌, subst, arith, ltb-true, lt-ltb, length-set}
use mathlib.Core.Logic.{∥∥₁_elim, ∥∥₁_map₂}
use native.Mathlib.Bridge.{le_prop}
use Rattle.server.specs.declared.block.Block.{Block}
use Rattle.server.specs.declared.block.Served.{Served}
use Rattle.server.specs.declared.block.Served.TheVariants.{Unit as OneUnit, Departed}
use Rattle.server.specs.declared.refusal.Refusal.{Refusal}
use Rattle.server.specs.declared.refusal.Refusal.TheVariants.{Ended}
use Rattle.server.specs.Meaning.{Client, Meaning}
use Rattle.server.specs.Laws.{Each, Shaped}
use Rattle.server.specs.Calls.{SlotAnswer, Slotted, gone, served, serve, one_less, served_to, granted, submitted, at, entered}
use Rattle.server.proofs.Meanings.{at_here}
use Rattle.clients.specs.Held.{Kept}
use Rattle.clients.specs.Serving.{front_of, front_at, served_client, gives, goes_on, slot_says, slot_leaves}
use Rattle.clients.proofs.Kept.{slot_slotted}
use Rattle.ring.specs.declared.turns.Ring.{Ring}
use Rattle.ring.specs.declared.turns.Rest.{Rest}
use Rattle.ring.specs.declared.turns.Turn.TheVariants.{Open}
use Rattle.ring.specs.Turns.{quantum_of, deficit_of, stands_open, client_of, turn_in, length_of, begun_with, next_rest, rest_of, rest_read, turn_to, ring_after}
use Rattle.ring.specs.Sums.{sum}
use Rattle.ring.specs.Paced.{Share, mine}
use Rattle.ring.specs.Search.{Sound}
use Rattle.ring.specs.States.{State}
use Rattle.ring.specs.SumsLemmas.{by_test}
use Rattle.ring.specs.Giving.{rest_client}
use Rattle.ring.specs.Pacing.{quanta_kept}
use Rattle.ring.proofs.Rounds.{waits_from, turn_known, leaves_served, sound_slot}

-- ## How many clients there are

goes_count : (m : Meaning) (o : Option ℕ) → (goes_on m o).count ≡ m.count
goes_count m None = refl
goes_count m (Some c) = refl

pub leaves_count : (m : Meaning) (who : Option ℕ) → (slot_leaves m who).count ≡ m.count
leaves_count m who = by (ltb m.now 4294967295)
  where
    by : (d : Bool) → (cond {A = Meaning} d (goes_on m (served_client m who)) m).count ≡ m.count
    by true = goes_count m (served_client m who)
    by false = refl

pub submitted_count : (m : Meaning) (c label len : ℕ) → (submitted m c label len).count ≡ m.count
submitted_count m c label len = by (granted m c len)
  where
    by : (d : Bool) → (cond {A = Meaning} d (record { count = m.count; now = m.now; client = at c (entered m.now label len) m.client }) m).count ≡ m.count
    by true = refl
    by false = refl

-- ## What is left of the turn

-- what went, and the front after it, tell what is left of the turn
rest_row : (d c : ℕ) (bs : List Block) → 0 < length bs → rest_read c d (gone c bs) (front_of (served bs)) ≡ rest_of c d bs
rest_row d c [] some = absurd (omega arith)
rest_row d c (b ∷ bs) some = by_test (leb b.left 1)
    (λ t. rest_read c d (cond {A = Served} t (Departed (record { client = c; label = b.label; length = b.length; start = b.start })) (OneUnit c)) (front_of (cond {A = List Block} t bs (one_less b ∷ bs)))
    ≡ cond {A = Rest} t (next_rest c d (front_of bs)) (record { deficit = d; turn = Open c }))
    (λ _. refl) (λ _. refl)

front_known : (m : Meaning) (c : ℕ) → c < m.count → front_at m c ≡ front_of (m.client c).waiting
front_known m c l = ap (λ (b : Bool). cond {A = Option Block} b (front_of (m.client c).waiting) None) (lt-ltb c m.count l)

says_served : (m : Meaning) (c : ℕ) → m.now < 4294967295 → c < m.count → 0 < length (m.client c).waiting → slot_says m (Some c) ≡ Ok (gone c (m.client c).waiting)
says_served m c early l w =
    ap (λ (b : Bool). cond {A = SlotAnswer} b (Ok (gives m (served_client m (Some c)))) (Err Ended)) (lt-ltb m.now 4294967295 early)
    ∙ ap (λ (b : Bool). ok (gives m (cond {A = Option ℕ} b (Some c) None))) (waits_from m c l w)
  where
    ok : Served → SlotAnswer
    ok x = Ok x

-- a slot that was not refused came before the counter's end
not_ended : (m : Meaning) (who : Option ℕ) (x : Served) → Ok x ≡ slot_says m who → m.now < 4294967295
not_ended m who x = by_test (ltb m.now 4294967295)
    (λ b. Ok x ≡ cond {A = SlotAnswer} b (Ok (gives m (served_client m who))) (Err Ended) → m.now < 4294967295)
    (λ e _. ltb-true m.now 4294967295 e)
    (λ _ f. let z : ◌≡◌ {A = ℕ} 0 1 = cc in absurd (omega arith))

module _ (m : Meaning) (r : Ring) (s : ∥ Sound m r ∥₁) (c : ℕ) (turn : Some c ≡ turn_in m r) where
  pub turn_low : c < m.count
  turn_low = ∥∥₁_elim s le_prop (λ h. (turn_known m r h c (sym turn)).0)

  turn-waits : 0 < length (m.client c).waiting
  turn-waits = ∥∥₁_elim s le_prop (λ h. (turn_known m r h c (sym turn)).1)

  -- the turn after the slot, from what the code found
  rest-is : (units begun : ℕ) (went : Served) (m' : Meaning) (next : Option Block) (rest : Rest) → units ≡ length_of (front_at m c)
      → begun ≡ cond (stands_open r.turn) (deficit_of r c) (deficit_of r c + quantum_of r c - units) → Ok went ≡ slot_says m (Some c) → m' ≡ slot_leaves m (Some c) → next ≡ front_at m' c → rest ≡ rest_read c begun went next
      → rest ≡ rest_of c (begun_with m r c) (m.client c).waiting
  rest-is units begun went m' next rest u b w e n f =
      let early = not_ended m (Some c) went w in
      let u' : units ≡ length_of (front_of (m.client c).waiting) = u ∙ ap length_of (front_known m c turn_low) in
      let b' : begun ≡ begun_with m r c = b ∙ ap (λ (n : ℕ). cond (stands_open r.turn) (deficit_of r c) (deficit_of r c + quantum_of r c - n)) u' in
      let w' : Ok went ≡ Ok (gone c (m.client c).waiting) = w ∙ says_served m c early turn_low turn-waits in
      let w'' : went ≡ gone c (m.client c).waiting = cc in
      let after : m' ≡ served_to c m = e ∙ leaves_served m c early turn_low turn-waits in
      let n' : next ≡ front_of (served (m.client c).waiting) =
      n ∙ ap (λ (x : Meaning). front_at x c) after ∙ front_known (served_to c m) c turn_low ∙ ap (λ (x : Client). front_of x.waiting) (at_here c serve m.client) in
      f ∙ ap (λ (d : ℕ). rest_read c d went next) b' ∙ ap (λ (x : Served). rest_read c (begun_with m r c) x next) w'' ∙ ap (λ (x : Option Block). rest_read c (begun_with m r c) (gone c (m.client c).waiting) x) n'
      ∙ rest_row (begun_with m r c) c (m.client c).waiting turn-waits

-- ## The deficit fits

-- a deficit is at most the quantum and 15
deficit_small : (m : Meaning) (r : Ring) → Sound m r → (c : ℕ) → c < m.count → (deficit_of r c ≤ quantum_of r c + 15) × (16 ≤ quantum_of r c) × (quantum_of r c ≤ 1024)
deficit_small m r s c l = by_test (mine r c)
    (λ b. Share m.count r.total (quantum_of r c) (deficit_of r c) b (m.client c) → (deficit_of r c ≤ quantum_of r c + 15) × (16 ≤ quantum_of r c) × (quantum_of r c ≤ 1024))
    (λ _ h. (omega (arith, (h.inside refl).1), h.least, h.most))
    (λ _ h. (omega (arith, (h.outside refl).0), h.least, h.most))
    (s.paced.each c l)

front_small : (bs : List Block) → Each Shaped bs → length_of (front_of bs) ≤ 16
front_small [] h = omega arith
front_small (b ∷ bs) h = h.0.few

module _ (m : Meaning) (r : Ring) (kept : ∥ Kept m ∥₁) (s : ∥ Sound m r ∥₁) (c : ℕ) (turn : Some c ≡ turn_in m r) where
  pub begun_small : deficit_of r c + quantum_of r c < 2 ^ 32
  begun_small = ∥∥₁_elim s le_prop (λ h. let d = deficit_small m r h c (turn_low m r s c turn) in omega (arith, d.0, d.2))

  pub begun_enough : (units : ℕ) → units ≡ length_of (front_at m c) → units ≤ deficit_of r c + quantum_of r c
  begun_enough units e = ∥∥₁_elim s le_prop (λ h. ∥∥₁_elim kept le_prop (λ k.
      let l = turn_low m r s c turn in
      let f : units ≡ length_of (front_of (m.client c).waiting) = e ∙ ap length_of (front_known m c l) in
      omega (arith, f, front_small (m.client c).waiting (k.each c l).shaped, (deficit_small m r h c l).1)))

  pub turn_eight : c < 8
  turn_eight = ∥∥₁_elim kept le_prop (λ k. omega (arith, k.eight, turn_low m r s c turn))

  -- it has a place
  pub turn_placed : length r.places ≡ 8 → c < length r.places
  turn_placed full = omega (arith, full, turn_eight)

-- ## The state after a slot

-- the ring after a slot for this client, refused or not
abbrev pub next_ring : Meaning → Ring → Option ℕ → Ring
next_ring m r who = cond {A = Ring} (ltb m.now 4294967295) (ring_after m r who) r

pub idle_ring : (m : Meaning) (r : Ring) → r ≡ next_ring m r None
idle_ring m r = by_test (ltb m.now 4294967295) (λ b. r ≡ cond {A = Ring} b r r) (λ _. refl) (λ _. refl)

pub refused_ring : (m : Meaning) (r : Ring) (who : Option ℕ) (e : Refusal) → Err e ≡ slot_says m who → r ≡ next_ring m r who
refused_ring m r who e = by_test (ltb m.now 4294967295)
    (λ b. Err e ≡ cond {A = SlotAnswer} b (Ok (gives m (served_client m who))) (Err Ended) → r ≡ cond {A = Ring} b (ring_after m r who) r)
    (λ _ f. let z : ◌≡◌ {A = ℕ} 0 1 = cc in absurd (omega arith))
    (λ _ _. refl)

-- the ring that the code leaves, from what it found
pub served_ring : (m : Meaning) (r : Ring) → ∥ Sound m r ∥₁ → (c : ℕ) → Some c ≡ turn_in m r → (units begun : ℕ) (went : Served) (m' : Meaning) (next : Option Block) (rest : Rest) → units ≡ length_of (front_at m c)
    → begun ≡ cond (stands_open r.turn) (deficit_of r c) (deficit_of r c + quantum_of r c - units) → Ok went ≡ slot_says m (Some c) → m' ≡ slot_leaves m (Some c) → next ≡ front_at m' c → rest ≡ rest_read c begun went next
    → turn_to r c rest ≡ next_ring m r (Some c)
served_ring m r s c turn units begun went m' next rest u b w e n f =
    ap (turn_to r c) (rest-is m r s c turn units begun went m' next rest u b w e n f)
    ∙ ap (λ (b : Bool). cond {A = Ring} b (ring_after m r (Some c)) r) (sym (lt-ltb m.now 4294967295 (not_ended m (Some c) went w)))

-- what a server in service keeps of its clients and its ring
pub record InService (m : Meaning) (r : Ring) : Type 0 where
  pub full : length r.places ≡ 8
  pub placed : client_of r.turn < 8
  pub within : sum m.count (quantum_of r) ≤ r.total
  pub sound : ∥ Sound m r ∥₁

module _ (m : Meaning) (r : Ring) (who : Option ℕ) (turn : who ≡ turn_in m r) (m' : Meaning) (r' : Ring) (after : m' ≡ slot_leaves m who) (ring : r' ≡ next_ring m r who) where
  -- what a slot promises of its answer and of the state that it leaves
  pub slot_is : (answer : SlotAnswer) → ∥ Kept m ∥₁ → answer ≡ slot_says m who
      → Slotted m answer m' × ((answer ≡ slot_says m (turn_in m r)) × (◌≡◌ {A = State} (record { clients = m'; ring = r' }) (record { clients = slot_leaves m (turn_in m r); ring = next_ring m r (turn_in m r) })))
  slot_is answer kept says =
      let s : Meaning → Ring → State = λ n x. record { clients = n; ring = x } in (
        subst (λ (x : SlotAnswer). Slotted m x m') (sym says) (subst (Slotted m (slot_says m who)) (sym after) (slot_slotted m who (∥∥₁_elim kept le_prop (λ k. k.counted)))),
        (
          says ∙ ap (slot_says m) turn,
          ap (λ (n : Meaning). s n r') (after ∙ ap (slot_leaves m) turn) ∙ ap (s (slot_leaves m (turn_in m r))) (ring ∙ ap (next_ring m r) turn),
        ),
      )

  sound-after : Kept m → length r.places ≡ 8 → sum m.count (quantum_of r) ≤ r.total → Sound m r → Sound m' r'
  sound-after kept full fits s = subst (λ (x : Ring). Sound m' x) (sym ring) (subst (λ (n : Meaning). Sound n (next_ring m r who)) (sym after) (by_test (ltb m.now 4294967295)
      (λ b. Sound (cond {A = Meaning} b (goes_on m (served_client m who)) m) (cond {A = Ring} b (ring_after m r who) r))
      (λ e. by_turn (ltb-true m.now 4294967295 e) e)
      (λ _. s)))
    where
      by_turn : m.now < 4294967295 → ltb m.now 4294967295 ≡ true → Sound (goes_on m (served_client m who)) (ring_after m r who)
      by_turn early e =
          let x : Sound (slot_leaves m who) (ring_after m r who) = subst (λ (o : Option ℕ). Sound (slot_leaves m o) (ring_after m r o)) (sym turn) (sound_slot m r kept full fits early s) in
          subst (λ (n : Meaning). Sound n (ring_after m r who)) (ap (λ (b : Bool). cond {A = Meaning} b (goes_on m (served_client m who)) m) e) x

  pub slot_sound : ∥ Kept m ∥₁ → length r.places ≡ 8 → sum m.count (quantum_of r) ≤ r.total → ∥ Sound m r ∥₁ → ∥ Sound m' r' ∥₁
  slot_sound kept full fits s = ∥∥₁_map₂ kept s (λ k h. sound-after k full fits h)

  -- the quanta stay within the total
  pub slot_within : sum m.count (quantum_of r) ≤ r.total → sum m'.count (quantum_of r) ≤ r.total
  slot_within h = subst (λ (k : ℕ). sum k (quantum_of r) ≤ r.total) (sym (ap (λ (n : Meaning). n.count) after ∙ leaves_count m who)) h

  -- a slot leaves the number of places, their quanta and the total, and a client's turn
  record Stays (y : Ring) : Type 0 where
    long : length y.places ≡ length r.places
    total : y.total ≡ r.total
    quanta : quantum_of y ≡ quantum_of r
    placed : ∥ Kept m ∥₁ → ∥ Sound m r ∥₁ → client_of r.turn < 8 → client_of y.turn < 8

  stays_idle : Stays r
  stays_idle = record { long = refl; total = refl; quanta = refl; placed = λ _ _ l. l }

  stays_after : (o : Option ℕ) → o ≡ turn_in m r → Stays (ring_after m r o)
  stays_after None e = stays_idle
  stays_after (Some c) e =
      let rest = rest_of c (begun_with m r c) (m.client c).waiting in
      record {
        long = length-set r.places c (record { quantum = quantum_of r c; deficit = rest.deficit });
        total = refl;
        quanta = quanta_kept r c rest;
        placed = λ k s _. subst (λ (n : ℕ). n < 8) (sym (rest_client c (begun_with m r c) (m.client c).waiting)) (turn_eight m r k s c e);
      }

  stays : Stays r'
  stays = subst Stays (sym ring) (by_test (ltb m.now 4294967295) (λ b. Stays (cond {A = Ring} b (ring_after m r who) r)) (λ _. stays_after who turn) (λ _. stays_idle))

  -- after a slot it is in service as before
  pub in_service : ∥ Kept m ∥₁ → InService m r → InService m' r'
  in_service kept h = record {
    full = stays.long ∙ h.full;
    placed = stays.placed kept h.sound h.placed;
    within = subst (λ (n : ℕ). sum m'.count (quantum_of r') ≤ n) (sym stays.total) (subst (λ (q : ℕ → ℕ). sum m'.count q ≤ r.total) (sym stays.quanta) (slot_within h.within));
    sound = slot_sound kept h.full h.within h.sound;
  }
