-- One client through the calls: its turn opens, it gives a unit, a block comes in.
use Rattle.std.specs.Prelude.{◌≡◌, ℕ, ◌+◌, ◌-◌, ◌*◌, ◌<◌, ◌≤◌, Bool, true, false, cond, List, [], ◌∷◌, ◌++◌, length, Some, None, Option, nat_le, refl}
use Rattle.std.proofs.Common.{sym, ap, arith}
use borrow.Author.Tests.{leb-true, leb-false, clash}
use Rattle.server.specs.declared.block.Block.{Block}
use Rattle.server.specs.declared.rate.Terms.{Terms}
use Rattle.server.specs.Meaning.{Client}
use Rattle.server.specs.Calls.{served, serve, one_less, entered, new_block}
use Rattle.server.specs.Laws.{Each, Shaped}
use Rattle.clients.specs.Held.{Held, latency_for}
use Rattle.clients.specs.View.{new_client}
use Rattle.clients.specs.Serving.{front_of}
use Rattle.server.proofs.Rows.{each_push}
use Rattle.ring.specs.declared.turns.Rest.{Rest}
use Rattle.ring.specs.declared.turns.Turn.TheVariants.{Open, Closed}
use Rattle.ring.specs.Shares.{theta}
use Rattle.ring.specs.Turns.{stands_open, client_of, length_of, next_rest, rest_of}
use Rattle.ring.specs.Paced.{Whole, WholeBehind, front_left, allowance_in, Share}
use Rattle.ring.specs.SumsLemmas.{by_test}

-- ## Rows of blocks

whole_behind : (bs : List Block) → Whole bs → WholeBehind bs
whole_behind [] h = tt
whole_behind (b ∷ bs) h = h.1

behind_push : (bs : List Block) (b : Block) → b.left ≡ b.length → WholeBehind bs → WholeBehind (bs ++ (b ∷ []))
behind_push [] b e h = tt
behind_push (x ∷ xs) b e h = each_push (λ b. b.left ≡ b.length) xs b h e

some_push : (bs : List Block) (b : Block) → 0 < length (bs ++ (b ∷ []))
some_push [] b = omega arith
some_push (x ∷ xs) b = omega arith

left_push : (bs : List Block) (b : Block) → 0 < length bs → front_left (bs ++ (b ∷ [])) ≡ front_left bs
left_push [] b some = absurd (omega arith)
left_push (x ∷ xs) b some = refl

-- a front that is whole, and no longer than a block may be
front_whole : (bs : List Block) → 0 < length bs → Whole bs → Each Shaped bs → (front_left bs ≡ length_of (front_of bs)) × (length_of (front_of bs) ≤ 16)
front_whole [] some w s = absurd (omega arith)
front_whole (b ∷ bs) some w s = (w.0, s.0.few)

-- ## A unit goes

-- with quantum φ and deficit d a unit of the row went, and left this of the turn and of the row
record Gave (φ d : ℕ) (bs : List Block) (x : Rest) (bs' : List Block) : Type 0 where
  behind : WholeBehind bs'
  outside : stands_open x.turn ≡ false → (x.deficit ≤ 15) × Whole bs'
  inside : stands_open x.turn ≡ true → (0 < length bs') × (allowance_in true x.deficit bs' ≤ φ + 15)
  less : allowance_in (stands_open x.turn) x.deficit bs' + 1 ≤ d + front_left bs
  just : 0 < length bs' → d + front_left bs ≤ allowance_in (stands_open x.turn) x.deficit bs' + 1

module _ (c φ d : ℕ) (b : Block) (few : d + b.left ≤ φ + 15) (some : 0 < b.left) where
  -- the front goes on
  goes_on : (bs : List Block) → Whole bs → 1 < b.left → Gave φ d (b ∷ bs) (record { deficit = d; turn = Open c }) (one_less b ∷ bs)
  goes_on bs w more = record {
    behind = w;
    outside = λ z. absurd (clash (sym z));
    inside = λ z. (omega arith, omega arith);
    less = omega arith;
    just = λ z. omega arith;
  }

  module _ (last : b.left ≤ 1) where
    -- its last unit, and the block behind it begins
    begins : (a : Block) (bs : List Block) → Whole (a ∷ bs) → a.length ≤ d → Gave φ d (b ∷ a ∷ bs) (record { deficit = d - a.length; turn = Open c }) (a ∷ bs)
    begins a bs w l = record {
      behind = w.1;
      outside = λ z. absurd (clash (sym z));
      inside = λ z. (omega arith, omega (arith, w.0));
      less = omega (arith, w.0);
      just = λ z. omega (arith, w.0);
    }

    -- or is longer than the deficit
    closes : (a : Block) (bs : List Block) → Whole (a ∷ bs) → a.length ≤ 16 → d < a.length → Gave φ d (b ∷ a ∷ bs) (record { deficit = d; turn = Closed c }) (a ∷ bs)
    closes a bs w small l = record {
      behind = w.1;
      outside = λ z. (omega arith, w);
      inside = λ z. absurd (clash z);
      less = omega arith;
      just = λ z. omega arith;
    }

    ends : (bs : List Block) → Whole bs → Each Shaped bs → Gave φ d (b ∷ bs) (next_rest c d (front_of bs)) bs
    ends [] w s = record {
      behind = tt;
      outside = λ z. (omega arith, tt);
      inside = λ z. absurd (clash z);
      less = omega arith;
      just = λ z. absurd (omega (arith, z));
    }
    ends (a ∷ bs) w s = by_test (nat_le a.length d)
        (λ t. Gave φ d (b ∷ a ∷ bs) (cond {A = Rest} t (record { deficit = d - a.length; turn = Open c }) (record { deficit = d; turn = Closed c })) (a ∷ bs))
        (λ e. begins a bs w (leb-true a.length d e))
        (λ e. closes a bs w s.0.few (leb-false a.length d e))

gave : (c φ d : ℕ) (bs : List Block) → 0 < length bs → allowance_in true d bs ≤ φ + 15 → WholeBehind bs → Each Shaped bs → Gave φ d bs (rest_of c d bs) (served bs)
gave c φ d [] some few w s = absurd (omega (arith, some))
gave c φ d (b ∷ bs) some few w s = by_test (nat_le b.left 1)
    (λ t. Gave φ d (b ∷ bs) (cond {A = Rest} t (next_rest c d (front_of bs)) (record { deficit = d; turn = Open c })) (cond {A = List Block} t bs (one_less b ∷ bs)))
    (λ e. ends c φ d b few s.0.some (leb-true b.left 1 e) bs w s.1)
    (λ e. goes_on c φ d b few s.0.some bs w (leb-false b.left 1 e))

next_client : (c d : ℕ) (next : Option Block) → client_of (next_rest c d next).turn ≡ c
next_client c d None = refl
next_client c d (Some b) = by_test (nat_le b.length d)
    (λ t. client_of (cond {A = Rest} t (record { deficit = d - b.length; turn = Open c }) (record { deficit = d; turn = Closed c })).turn ≡ c)
    (λ _. refl) (λ _. refl)

-- what is left is of the same client's turn
pub rest_client : (c d : ℕ) (bs : List Block) → client_of (rest_of c d bs).turn ≡ c
rest_client c d [] = refl
rest_client c d (b ∷ bs) = by_test (nat_le b.left 1)
    (λ t. client_of (cond {A = Rest} t (next_rest c d (front_of bs)) (record { deficit = d; turn = Open c })).turn ≡ c)
    (λ _. next_client c d (front_of bs)) (λ _. refl)

-- ## A client

pub share_new : (count total φ : ℕ) (x : Terms) → 16 ≤ φ → φ ≤ 1024 → x.rate.p * total ≤ φ * x.rate.q → x.latency ≡ latency_for x.rate.p x.rate.q (theta count total φ)
    → Share count total φ 0 false (new_client x)
share_new count total φ x least most enough late = record {
  least = least;
  most = most;
  enough = enough;
  late = late;
  behind = tt;
  outside = λ z. (omega arith, tt);
  inside = λ z. absurd (clash z);
}

-- a block comes in: what the client may still give is as before
module _ {count total φ d : ℕ} {mine : Bool} {x : Client} (h : Share count total φ d mine x) (t label len : ℕ) where
  pub share_entered : Share count total φ d mine (entered t label len x)
  share_entered = record {
    least = h.least;
    most = h.most;
    enough = h.enough;
    late = h.late;
    behind = behind_push x.waiting (new_block t x label len) refl h.behind;
    outside = λ z. ((h.outside z).0, each_push (λ b. b.left ≡ b.length) x.waiting (new_block t x label len) (h.outside z).1 refl);
    inside = λ z. (
      some_push x.waiting (new_block t x label len),
      omega (arith, (h.inside z).1, left_push x.waiting (new_block t x label len) (h.inside z).0),
    );
  }

  pub allowance_entered : allowance_in mine d (entered t label len x).waiting ≡ allowance_in mine d x.waiting
  allowance_entered = by_test mine (λ b. allowance_in b d (entered t label len x).waiting ≡ allowance_in b d x.waiting)
      (λ e. ap (λ (n : ℕ). d + n) (left_push x.waiting (new_block t x label len) (h.inside e).0))
      (λ _. refl)

-- its turn opens: it may give its quantum more
module _ {t count total φ d : ℕ} {x : Client} (held : Held t x) (h : Share count total φ d false x) (some : 0 < length x.waiting) where
  pub allowance_opened : allowance_in true (d + φ - length_of (front_of x.waiting)) x.waiting ≡ d + φ
  allowance_opened = let f = front_whole x.waiting some (h.outside refl).1 held.shaped in omega (arith, f.0, f.1, h.least)

  pub share_opened : Share count total φ (d + φ - length_of (front_of x.waiting)) true x
  share_opened = record {
    least = h.least;
    most = h.most;
    enough = h.enough;
    late = h.late;
    behind = h.behind;
    outside = λ z. absurd (clash (sym z));
    inside = λ z. (some, omega (arith, allowance_opened, (h.outside refl).0));
  }

-- it gives a unit in its open turn: it may give one less, and while it waits just one less
module _ (c : ℕ) {t count total φ d : ℕ} {x : Client} (held : Held t x) (h : Share count total φ d true x) where
  given : Gave φ d x.waiting (rest_of c d x.waiting) (served x.waiting)
  given = gave c φ d x.waiting (h.inside refl).0 (h.inside refl).1 h.behind held.shaped

  pub share_gave : Share count total φ (rest_of c d x.waiting).deficit (stands_open (rest_of c d x.waiting).turn) (serve x)
  share_gave = record {
    least = h.least;
    most = h.most;
    enough = h.enough;
    late = h.late;
    behind = given.behind;
    outside = given.outside;
    inside = given.inside;
  }

  pub allowance_less : allowance_in (stands_open (rest_of c d x.waiting).turn) (rest_of c d x.waiting).deficit (served x.waiting) + 1 ≤ allowance_in true d x.waiting
  allowance_less = given.less

  pub allowance_just : 0 < length (served x.waiting) → allowance_in true d x.waiting ≤ allowance_in (stands_open (rest_of c d x.waiting).turn) (rest_of c d x.waiting).deficit (served x.waiting) + 1
  allowance_just some = given.just some
