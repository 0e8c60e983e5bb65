-- A frame: whose slot it is, how many slots a client owns, and how late that can make it. Assumes nothing.
use Rattle.std.specs.Prelude.{◌≡◌, ℕ, ◌-◌, ◌%◌, Bool, true, false, cond, ◌&&◌, List, length, map, count_by, Some, None, Option, Result, MatchResult, ◌==◌, nat_le, nat_lt, slice_index_or}
use Rattle.std.specs.List.{list_all, range_with_len}
use Rattle.std.specs.Option.{option_eq}
use Rattle.clients.specs.declared.booking.BookingRefusal.{BookingRefusal}
use Rattle.clients.specs.declared.booking.BookingRefusal.TheVariants.{Range}
use Rattle.tables.specs.Tables.{listed}
use Rattle.frame.specs.declared.owners.Frame.{Frame}

-- the owners of the frame's slots, in order
abbrev pub owners_in : Frame → List (Option ℕ)
owners_in f = listed f.owners

-- the owner of slot t: the frame goes round
abbrev pub owner_at : List (Option ℕ) → ℕ → Option ℕ
owner_at os t = slice_index_or os (t % length os) None

-- whether the slot is client k's
abbrev pub owns : ℕ → Option ℕ → Bool
owns k o = option_eq ◌==◌ o (Some k)

-- 1 if the slot is client k's, else 0
abbrev pub mine : ℕ → Option ℕ → ℕ
mine k o = cond (owns k o) 1 0

-- the slots of one frame that client k owns
abbrev pub owned : ℕ → List (Option ℕ) → ℕ
owned k os = count_by (owns k) os

-- the owners of the w slots from slot t on
abbrev pub run : List (Option ℕ) → ℕ → ℕ → List (Option ℕ)
run os t w = map (owner_at os) (range_with_len t w)

-- the slots that client k owns among the w slots from slot t on
abbrev pub window : ℕ → List (Option ℕ) → ℕ → ℕ → ℕ
window k os t w = owned k (run os t w)

-- the slots by which client k may be late: those of a frame that are not its own
abbrev pub theta : ℕ → List (Option ℕ) → ℕ
theta k os = length os - owned k os

-- an owner is none or a client 0 to 7
abbrev pub owner_ok : Option ℕ → Bool
owner_ok None = true
owner_ok (Some c) = nat_lt c 8

-- a frame has 1 to 256 owners, each of them such
abbrev pub frame_ok : List (Option ℕ) → Bool
frame_ok os = nat_le 1 (length os) && (nat_le (length os) 256 && list_all owner_ok os)

-- what a row of owners gives: its frame, or a refusal where it is none
abbrev pub IsFrameOf : List (Option ℕ) → Result Frame BookingRefusal → Type 0
IsFrameOf os r = MatchResult r (λ f. (frame_ok os ≡ true) × (owners_in f ≡ os)) (λ e. (frame_ok os ≡ false) × (e ≡ Range))
