-- One client of a chain through a submission, a slot of the second and a slot of the first.
use Rattle.std.specs.Prelude.{◌≡◌, ℕ, ◌+◌, ◌*◌, ◌<◌, ◌≤◌, Bool, true, false, cond, List, [], ◌∷◌, ◌++◌, length, drop, nat_le, nat_lt, slice_index, refl}
use Rattle.std.proofs.Common.{sym, ap, subst, ◌∙◌, append_assoc, arith, mul-le-mul_left, length-append, lt-ltb}
use Rattle.std.proofs.Math.Nat.{le-max_right}
use Rattle.server.specs.declared.block.Block.{Block}
use Rattle.server.specs.declared.block.Departure.{Departure}
use Rattle.server.specs.declared.block.Served.{Served}
use Rattle.server.specs.declared.block.Served.TheVariants.{Nothing, Unit as OneUnit, Departed}
use Rattle.server.specs.declared.rate.Rate.{Rate}
use Rattle.server.specs.Meaning.{Client, units_left}
use Rattle.server.specs.Calls.{new_block, entered, one_less, served, gone, serve}
use Rattle.server.specs.Laws.{Each, Shaped, ClientLaws}
use Rattle.server.proofs.Rows.{order_push, order_from, length_served}
use Rattle.server.proofs.Answers.{departs, departed_is, block_departs}
use Rattle.join.specs.Starts.{pushed, started_at}
use Rattle.join.specs.Link.{start_from, restarted, as_whole, whole, joined, next_start, Behind, Linked}
use Rattle.join.specs.Blocks.{each_append, whole_shaped, whole_debt, whole_length, whole_append, left_joined, order_next, restarted_shaped, restarted_debt, restarted_length, behind_length}

abbrev with_row : Client → Client → List Block → Client
with_row x y w = record { terms = record { rate = x.terms.rate; latency = x.terms.latency + y.terms.latency }; clock = x.clock; waiting = w }

-- ## The laws

module _ (t : ℕ) (x y : Client) (ss : List ℕ) (k : Linked x y ss) where
  pub joined_length : length (joined x y ss).waiting ≡ length x.waiting + length y.waiting
  joined_length = omega (arith, length-append (restarted ss y.waiting) (whole x.waiting), restarted_length x.terms.latency ss y.waiting k.behind, whole_length x.waiting)

  pub joined_laws : ClientLaws t x → ClientLaws t y → ClientLaws t (joined x y ss)
  joined_laws a b =
      let r = restarted ss y.waiting in
      let w = whole x.waiting in
      let p = x.terms.rate.p in
      let l = x.terms.latency in
      let l' = y.terms.latency in
      let owed : Each (λ b. p * (t + 1) ≤ b.start + l') y.waiting = subst (λ (u : Rate). Each (λ b. u.p * (t + 1) ≤ b.start + l') y.waiting) k.same b.debt in
      record {
        ranged = record { slow = a.ranged.slow; rate = a.ranged.rate; small = a.ranged.small; least = omega (arith, a.ranged.least); most = k.sum };
        eight = omega (arith, joined_length, k.few);
        shaped = each_append Shaped r w (restarted_shaped l ss y.waiting k.behind b.shaped) (whole_shaped x.waiting a.shaped);
        debt = each_append (λ b. p * (t + 1) ≤ b.start + (l + l')) r w (restarted_debt (p * (t + 1)) l l' ss y.waiting k.behind owed) (whole_debt (p * (t + 1)) l l' x.waiting a.debt);
        clocked = omega (arith, a.clocked, mul-le-mul_left {m = units_left x.waiting} {n = units_left (r ++ w)} x.terms.rate.q (left_joined r x.waiting a.shaped));
      }

-- ## A submission

next_push : (w : List Block) (b : Block) (clock clock' : ℕ) → clock ≤ b.start → next_start w clock ≤ next_start (w ++ (b ∷ [])) clock'
next_push [] b clock clock' h = h
next_push (x ∷ xs) b clock clock' h = omega arith

module _ (t label len : ℕ) (x y : Client) (ss : List ℕ) where
  pub linked_entered : length x.waiting + length y.waiting < 8 → Linked x y ss → Linked (entered t label len x) y ss
  linked_entered room k =
      let b = new_block t x label len in
      let q = x.terms.rate.q in
      let late : x.clock ≤ b.start = le-max_right (x.terms.rate.p * t) x.clock in
      record {
        same = k.same;
        sum = k.sum;
        few = omega (arith, room, length-append x.waiting (b ∷ []));
        order = order_push q 0 x.clock x.waiting b late k.order;
        follows = omega (arith, next_push x.waiting b x.clock (b.start + q * len) late, k.follows);
        behind = k.behind;
      }

  pub joined_entered : joined (entered t label len x) y ss ≡ entered t label len (joined x y ss)
  joined_entered =
      let b = new_block t x label len in
      let r = restarted ss y.waiting in
      let e : r ++ whole (x.waiting ++ (b ∷ [])) ≡ (r ++ whole x.waiting) ++ (b ∷ []) =
      ap (λ (l : List Block). r ++ l) (whole_append x.waiting (b ∷ [])) ∙ sym (append_assoc r (whole x.waiting) (b ∷ [])) in
      ap (with_row (entered t label len x) y) e

-- ## The second serves

-- the starts that stay when a unit of the front of a row goes
abbrev pub stay : List ℕ → List Block → List ℕ
stay ss w = cond (departs w) (drop 1 ss) ss

restarted_served : (l : ℕ) (ss : List ℕ) (w v : List Block) → Behind l ss w → 0 < length w → restarted (stay ss w) (served w) ++ v ≡ served (restarted ss w ++ v)
restarted_served l [] [] v h some = absurd (omega arith)
restarted_served l [] (b ∷ bs) v h some = absurd h
restarted_served l (s ∷ ss) [] v h some = absurd h
restarted_served l (s ∷ ss) (b ∷ bs) v h some = by (nat_le b.left 1)
  where
    by : (d : Bool) → restarted (cond d ss (s ∷ ss)) (cond d bs (one_less b ∷ bs)) ++ v ≡ cond d (restarted ss bs ++ v) (one_less (start_from s b) ∷ (restarted ss bs ++ v))
    by true = refl
    by false = refl

behind_served : (l : ℕ) (ss : List ℕ) (w : List Block) → Behind l ss w → Behind l (stay ss w) (served w)
behind_served l [] [] h = tt
behind_served l [] (b ∷ bs) h = absurd h
behind_served l (s ∷ ss) [] h = absurd h
behind_served l (s ∷ ss) (b ∷ bs) h = by (nat_le b.left 1)
  where
    by : (d : Bool) → Behind l (cond d ss (s ∷ ss)) (cond d bs (one_less b ∷ bs))
    by true = h.1
    by false = h

module _ (x y : Client) (ss : List ℕ) (k : Linked x y ss) where
  pub linked_left : Linked x (serve y) (stay ss y.waiting)
  linked_left = record {
    same = k.same;
    sum = k.sum;
    few = omega (arith, length_served x.terms.rate.q y.waiting, k.few);
    order = k.order;
    follows = k.follows;
    behind = behind_served x.terms.latency ss y.waiting k.behind;
  }

  pub joined_left : 0 < length y.waiting → joined x (serve y) (stay ss y.waiting) ≡ serve (joined x y ss)
  joined_left some = ap (with_row x y) (restarted_served x.terms.latency ss y.waiting (whole x.waiting) k.behind some)

-- what the chain tells of a block is what the first row of its blocks tells
abbrev pub retold : ℕ → Served → Served
retold s Nothing = Nothing
retold s (OneUnit c) = OneUnit c
retold s (Departed d) = Departed (started_at s d)

pub gone_joined : (l c : ℕ) (ss : List ℕ) (w v : List Block) → Behind l ss w → 0 < length w → retold (slice_index ss 0) (gone c w) ≡ gone c (restarted ss w ++ v)
gone_joined l c [] [] v h some = absurd (omega arith)
gone_joined l c [] (b ∷ bs) v h some = absurd h
gone_joined l c (s ∷ ss) [] v h some = absurd h
gone_joined l c (s ∷ ss) (b ∷ bs) v h some = by (nat_le b.left 1)
  where
    dep : ℕ → Departure
    dep t = record { client = c; label = b.label; length = b.length; start = t }

    by : (d : Bool) → retold s (cond d (Departed (record { client = c; label = b.label; length = b.length; start = b.start })) (OneUnit c)) ≡ cond d (Departed (record { client = c; label = b.label; length = b.length; start = s })) (OneUnit c)
    by true = refl
    by false = refl

-- ## The first serves

behind_push : (l : ℕ) (ss : List ℕ) (w : List Block) (s : ℕ) (b : Block) → Behind l ss w → b.start ≤ s + l → Behind l (ss ++ (s ∷ [])) (w ++ (b ∷ []))
behind_push l [] [] s b h e = (e, tt)
behind_push l [] (x ∷ xs) s b h e = absurd h
behind_push l (z ∷ zs) [] s b h e = absurd h
behind_push l (z ∷ zs) (x ∷ xs) s b h e = (h.0, behind_push l zs xs s b h.1 e)

restarted_push : (l : ℕ) (ss : List ℕ) (w : List Block) (s : ℕ) (b : Block) → Behind l ss w → restarted (ss ++ (s ∷ [])) (w ++ (b ∷ [])) ≡ restarted ss w ++ (start_from s b ∷ [])
restarted_push l [] [] s b h = refl
restarted_push l [] (x ∷ xs) s b h = absurd h
restarted_push l (z ∷ zs) [] s b h = absurd h
restarted_push l (z ∷ zs) (x ∷ xs) s b h = ap (λ (r : List Block). start_from z x ∷ r) (restarted_push l zs xs s b h.1)

abbrev having : Client → List Block → Client
having x w = record { terms = x.terms; clock = x.clock; waiting = w }

-- a unit goes, and its block stays in the first
module _ (x y : Client) (ss : List ℕ) where
  unit-steps : (w : List Block) → departs w ≡ false → Linked (having x w) y ss → Linked (serve (having x w)) y ss × (joined (serve (having x w)) y ss ≡ joined (having x w) y ss)
  unit-steps [] e k = (k, refl)
  unit-steps (b ∷ bs) e k =
      subst (λ (d : Bool). Linked (having x (cond d bs (one_less b ∷ bs))) y ss × (joined (having x (cond d bs (one_less b ∷ bs))) y ss ≡ joined (having x (b ∷ bs)) y ss)) (sym e)
      (record { same = k.same; sum = k.sum; few = k.few; order = k.order; follows = k.follows; behind = k.behind }, refl)

  pub linked_unit : departs x.waiting ≡ false → Linked x y ss → Linked (serve x) y ss × (joined (serve x) y ss ≡ joined x y ss)
  linked_unit e k = unit-steps x.waiting e k

  -- a block departs from the first and is submitted to the second
  module _ (t : ℕ) where
    pass-steps : (b : Block) (bs : List Block) → nat_le b.left 1 ≡ true → x.terms.rate.p * (t + 1) ≤ b.start + x.terms.latency → Linked (having x (b ∷ bs)) y ss
        → Linked (serve (having x (b ∷ bs))) (entered (t + 1) b.label b.length y) (ss ++ (b.start ∷ []))
        × (joined (serve (having x (b ∷ bs))) (entered (t + 1) b.label b.length y) (ss ++ (b.start ∷ [])) ≡ joined (having x (b ∷ bs)) y ss)
    pass-steps b bs e debt k =
        let f = new_block (t + 1) y b.label b.length in
        let q = x.terms.rate.q in
        let l = x.terms.latency in
        let here : y.terms.rate.p * (t + 1) ≤ b.start + l = subst (λ (u : Rate). u.p * (t + 1) ≤ b.start + l) (sym k.same) debt in
        let starts : f.start ≤ b.start + l = omega (arith, here, k.follows) in
        let units : y.terms.rate.q * b.length ≡ q * b.length = ap (λ (u : Rate). u.q * b.length) k.same in
        let row : restarted (ss ++ (b.start ∷ [])) (y.waiting ++ (f ∷ [])) ++ whole bs ≡ restarted ss y.waiting ++ (as_whole b ∷ whole bs) =
        ap (λ (r : List Block). r ++ whole bs) (restarted_push l ss y.waiting b.start f k.behind) ∙ append_assoc (restarted ss y.waiting) (start_from b.start f ∷ []) (whole bs) in
        subst (λ (d : Bool). Linked (having x (cond d bs (one_less b ∷ bs))) (entered (t + 1) b.label b.length y) (ss ++ (b.start ∷ []))
        × (joined (having x (cond d bs (one_less b ∷ bs))) (entered (t + 1) b.label b.length y) (ss ++ (b.start ∷ [])) ≡ joined (having x (b ∷ bs)) y ss)) (sym e) (
          record {
            same = k.same;
            sum = k.sum;
            few = omega (arith, k.few, length-append y.waiting (f ∷ []));
            order = order_from q (b.start + q * b.length) 0 x.clock bs (omega arith) k.order.1;
            follows = omega (arith, starts, units, order_next q (b.start + q * b.length) x.clock bs k.order.1);
            behind = behind_push l ss y.waiting b.start f k.behind starts;
          },
          ap (with_row x y) row,
        )

    pub linked_passed : (c : ℕ) (d : Departure) (w : List Block) → Departed d ≡ gone c w → Each (λ b. x.terms.rate.p * (t + 1) ≤ b.start + x.terms.latency) w → Linked (having x w) y ss
        → Linked (serve (having x w)) (entered (t + 1) d.label d.length y) (pushed d.start ss)
        × (joined (serve (having x w)) (entered (t + 1) d.label d.length y) (pushed d.start ss) ≡ joined (having x w) y ss)
    linked_passed c d [] e debt k = let z : ◌≡◌ {A = ℕ} 0 1 = cc in absurd (omega arith)
    linked_passed c d (b ∷ bs) e debt k =
        let room : nat_lt (length ss) 8 ≡ true = lt-ltb (length ss) 8 (omega (arith, k.few, behind_length x.terms.latency ss y.waiting k.behind)) in
        let G : Departure → List ℕ → Type 0 = λ d r. Linked (serve (having x (b ∷ bs))) (entered (t + 1) d.label d.length y) r
        × (joined (serve (having x (b ∷ bs))) (entered (t + 1) d.label d.length y) r ≡ joined (having x (b ∷ bs)) y ss) in
        subst (λ (v : Bool). G d (cond v (ss ++ (d.start ∷ [])) ss)) (sym room)
        (subst (λ (d : Departure). G d (ss ++ (d.start ∷ []))) (sym (departed_is c b bs d e)) (pass-steps b bs (block_departs c (b ∷ bs) d e) debt.0 k))
