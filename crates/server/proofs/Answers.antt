-- What a slot's answer tells of the row of blocks that it came from.
use Rattle.std.proofs.Common.{◌≡◌, ℕ, ◌<◌, ◌≤◌, Bool, true, false, cond, leb, List, [], ◌∷◌, refl, ap, ◌∙◌, arith}
use Rattle.server.specs.declared.block.Block.{Block}
use Rattle.server.specs.declared.block.Departure.{Departure}
use Rattle.server.specs.declared.block.Served.TheVariants.{Unit as OneUnit, Departed}
use Rattle.server.specs.Calls.{gone}
use Rattle.server.specs.Laws.{Each, Shaped}

-- whether the front of a row has its last unit left
abbrev pub departs : List Block → Bool
departs [] = false
departs (b ∷ bs) = leb b.left 1

abbrev departing : ℕ → Block → Departure
departing c b = record { client = c; label = b.label; length = b.length; start = b.start }

pub block_departs : (c : ℕ) (w : List Block) (d : Departure) → Departed d ≡ gone c w → departs w ≡ true
block_departs c [] d e = let z : ◌≡◌ {A = ℕ} 0 1 = cc in absurd (omega arith)
block_departs c (b ∷ bs) d e = by (leb b.left 1) e
  where
    by : (t : Bool) → Departed d ≡ cond t (Departed (departing c b)) (OneUnit c) → t ≡ true
    by true h = refl
    by false h = let z : ◌≡◌ {A = ℕ} 0 1 = cc in absurd (omega arith)

pub unit_stays : (c k : ℕ) (w : List Block) → OneUnit k ≡ gone c w → departs w ≡ false
unit_stays c k [] e = refl
unit_stays c k (b ∷ bs) e = by (leb b.left 1) e
  where
    by : (t : Bool) → OneUnit k ≡ cond t (Departed (departing c b)) (OneUnit c) → t ≡ false
    by true h = let z : ◌≡◌ {A = ℕ} 0 1 = cc in absurd (omega arith)
    by false h = refl

-- a departure tells its block
pub departed_is : (c : ℕ) (b : Block) (bs : List Block) (d : Departure) → Departed d ≡ gone c (b ∷ bs) → d ≡ record { client = c; label = b.label; length = b.length; start = b.start }
departed_is c b bs d e =
    let t = block_departs c (b ∷ bs) d e in
    let h : Departed d ≡ Departed (departing c b) = e ∙ ap (λ (t : Bool). cond t (Departed (departing c b)) (OneUnit c)) t in
    cc

pub departed_length : (c : ℕ) (w : List Block) (d : Departure) → Departed d ≡ gone c w → Each Shaped w → (0 < d.length) × (d.length ≤ 16)
departed_length c [] d e a = let z : ◌≡◌ {A = ℕ} 0 1 = cc in absurd (omega arith)
departed_length c (b ∷ bs) d e a =
    let h = a.0 in
    let u : d.length ≡ b.length = ap (λ (d : Departure). d.length) (departed_is c b bs d e) in
    (omega arith, omega arith)
