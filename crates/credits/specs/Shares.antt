-- The clients' shares of the slots: whom a slot serves, and what each client's credit is after it. Assumes nothing.
use Rattle.std.specs.Prelude.{◌≡◌, ℕ, suc, ◌+◌, ◌-◌, ◌*◌, ◌/◌, ◌^◌, ◌<◌, ◌≤◌, min, Bool, true, false, cond, ◌&&◌, List, [], ◌∷◌, length, All, sum_by, Some, None, Option, ◌==◌, nat_le, slice_index_or}
use Rattle.server.specs.Meaning.{Meaning}
use Rattle.clients.specs.Serving.{waits}
use Rattle.credits.specs.declared.shares.Role.{Role}
use Rattle.credits.specs.declared.shares.Role.TheVariants.{Served, Waiting, Idle}
use Rattle.credits.specs.declared.shares.Share.{Share}

-- ## Sums

-- the steps of these clients together
abbrev pub steps : List Share → ℕ
steps xs = sum_by (λ (x : Share). x.step) xs

-- their caps together
abbrev pub caps : List Share → ℕ
caps xs = sum_by (λ (x : Share). x.cap) xs

-- their credits together
abbrev pub credits : List Share → ℕ
credits xs = sum_by (λ (x : Share). x.credit) xs

-- the slots by which a client may be late: the higher clients' caps over what their steps leave, rounded up
abbrev pub theta : (rest caps : ℕ) → ℕ
theta R C = (C + (R - 1)) / R

-- what is read past the last client
abbrev pub no_share : Share
no_share = record { step = 0; cap = 0; credit = 0 }

-- each credit and step fit a word together
abbrev pub Small : List Share → Type 0
Small xs = All (λ (x : Share). x.credit + x.step < 2 ^ 32) xs

-- ## Whom a slot serves

-- f of each place and its share, from place k on
abbrev pub by_place : {Y : Type 0} → (ℕ → Share → Y) → ℕ → List Share → List Y
by_place f k [] = []
by_place f k (x ∷ xs) = f k x ∷ by_place f (suc k) xs

-- whether a share pays for a unit
abbrev pub affords : (denominator : ℕ) → Share → Bool
affords D x = nat_le D (x.credit + x.step)

-- whether client k is eligible: a block of it waits, and its share pays for a unit
abbrev pub eligible : Meaning → (denominator : ℕ) → ℕ → Share → Bool
eligible m D k x = waits m k && affords D x

-- one byte of flags, bit c for client c
abbrev pub byte_of : List Bool → ℕ
byte_of [] = 0
byte_of (b ∷ bs) = cond b 1 0 + 2 * byte_of bs

-- the first flag that is set, from place k on
abbrev pub lowest : ℕ → List Bool → Option ℕ
lowest k [] = None
lowest k (b ∷ bs) = cond b (Some k) (lowest (suc k) bs)

-- the client that a slot serves: the eligible one of the highest priority
abbrev pub served : Meaning → (denominator : ℕ) → List Share → Option ℕ
served m D xs = lowest 0 (by_place (eligible m D) 0 xs)

-- ## What a slot leaves

-- whether client k is the one served
abbrev pub chosen : Option ℕ → ℕ → Bool
chosen None k = false
chosen (Some c) k = k == c

-- the client served has what a unit costs
abbrev pub Pays : (denominator : ℕ) → Option ℕ → List Share → Type 0
Pays D who xs = (k : ℕ) → k < length xs → chosen who k ≡ true → D ≤ (slice_index_or xs k no_share).credit + (slice_index_or xs k no_share).step

-- what a client does in a slot: served or not, and then with a block that waits or idle
abbrev pub role : (waiting paying : Bool) → Role
role waiting paying = cond paying Served (cond waiting Waiting Idle)

-- a share's credit after a slot: served it pays, waiting it saves without a cap, idle it saves up to its cap
abbrev pub next_credit : (denominator : ℕ) → Role → Share → ℕ
next_credit D Served x = x.credit + x.step - D
next_credit D Waiting x = x.credit + x.step
next_credit D Idle x = min (x.credit + x.step) x.cap

-- the share with that credit
abbrev pub share_after : (denominator : ℕ) → Role → Share → Share
share_after D r x = record { step = x.step; cap = x.cap; credit = next_credit D r x }

-- the share of client k after a slot that serves the client `who`
abbrev pub earned : Meaning → (denominator : ℕ) → Option ℕ → ℕ → Share → Share
earned m D who k x = share_after D (role (waits m k) (chosen who k)) x
