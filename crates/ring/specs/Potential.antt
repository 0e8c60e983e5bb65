-- The potential of one client over plain numbers, and that it keeps the client on time.
use Rattle.std.specs.Prelude.{◌≡◌, ℕ, ◌+◌, ◌-◌, ◌*◌, ◌/◌, ◌<◌, ◌≤◌}
use Rattle.std.proofs.Common.{ap, mul-le-mul_left, arith}
use Rattle.std.proofs.Math.Nat.{le_of_mul-le-mul_left}
use Rattle.ring.specs.Shares.{theta}
use Rattle.ring.specs.Paced.{Within}

module _ {p φ r spare t given reached gone own : ℕ} (w : Within p φ r spare t given reached gone own) where
  -- the others may give less, or the client was served further, or more have had their turn
  pub eased : {given' reached' gone' own' : ℕ} → given' ≤ given → reached ≤ reached' → gone ≤ gone' → own ≤ own' → Within p φ r spare t given' reached' gone' own'
  eased {given'} {reached'} {gone'} {own'} a b c d =
      let x : (p * φ) * given' ≤ (p * φ) * given = mul-le-mul_left (p * φ) a in
      let y : φ * reached ≤ φ * reached' = mul-le-mul_left φ b in
      let z : (p * φ) * gone ≤ (p * φ) * gone' = mul-le-mul_left (p * φ) c in
      let v : (p * r) * own ≤ (p * r) * own' = mul-le-mul_left (p * r) d in
      record { holds = omega arith }

  -- another client gives a unit
  pub other_gives : {given' reached' gone' own' : ℕ} → given' + 1 ≤ given → reached ≤ reached' → gone ≤ gone' → own ≤ own' → Within p φ r spare (t + 1) given' reached' gone' own'
  other_gives {given'} {reached'} {gone'} {own'} a b c d =
      let x : (p * φ) * (given' + 1) ≤ (p * φ) * given = mul-le-mul_left (p * φ) a in
      let y : φ * reached ≤ φ * reached' = mul-le-mul_left φ b in
      let z : (p * φ) * gone ≤ (p * φ) * gone' = mul-le-mul_left (p * φ) c in
      let v : (p * r) * own ≤ (p * r) * own' = mul-le-mul_left (p * r) d in
      record { holds = omega arith }

  -- another client's turn opens: its quantum comes to what it may give, and to what is gone
  pub other_opens : (quantum : ℕ) {given' gone' own' : ℕ} → given' ≤ given + quantum → gone + quantum ≤ gone' → own ≤ own' → Within p φ r spare t given' reached gone' own'
  other_opens quantum {given'} {gone'} {own'} a b c =
      let x : (p * φ) * given' ≤ (p * φ) * (given + quantum) = mul-le-mul_left (p * φ) a in
      let y : (p * φ) * (gone + quantum) ≤ (p * φ) * gone' = mul-le-mul_left (p * φ) b in
      let v : (p * r) * own ≤ (p * r) * own' = mul-le-mul_left (p * r) c in
      record { holds = omega arith }

  -- the client itself gives a unit in its open turn, worth q ticks
  pub own_gives : (q : ℕ) {given' reached' gone' own' : ℕ} → p * (r + φ) ≤ φ * q → gone ≡ 0 → own ≤ own' + 1 → given' ≤ given → reached + q ≤ reached'
      → Within p φ r spare (t + 1) given' reached' gone' own'
  own_gives q {given'} {reached'} {gone'} {own'} enough none a b c =
      let x : (p * r) * own ≤ (p * r) * (own' + 1) = mul-le-mul_left (p * r) a in
      let y : φ * (reached + q) ≤ φ * reached' = mul-le-mul_left φ c in
      let z : (p * φ) * given' ≤ (p * φ) * given = mul-le-mul_left (p * φ) b in
      let u : p * φ * gone ≡ p * φ * 0 = ap (λ n. p * φ * n) none in
      record { holds = omega arith }

  -- its own turn opens: what is gone fits into the rest of the ring total
  pub own_opens : {given' gone' own' : ℕ} → gone ≤ r → own + φ ≤ own' → given' ≤ given → Within p φ r spare t given' reached gone' own'
  own_opens {given'} {gone'} {own'} a b c =
      let x : (p * r) * (own + φ) ≤ (p * r) * own' = mul-le-mul_left (p * r) b in
      let y : (p * φ) * given' ≤ (p * φ) * given = mul-le-mul_left (p * φ) c in
      let z : (p * φ) * gone ≤ (p * φ) * r = mul-le-mul_left (p * φ) a in
      record { holds = omega arith }

  -- on time with θ, where what is gone and what the client may give weigh no more than θ has for them
  pub on_time : (θ : ℕ) → 0 < φ → φ * gone + r * own ≤ r * (φ + 15) → r * (φ + 15) + φ * spare ≤ φ * θ → p * t ≤ reached + p * θ
  on_time θ some a b =
      let x : p * (φ * gone + r * own) ≤ p * (r * (φ + 15)) = mul-le-mul_left p a in
      let y : p * (r * (φ + 15) + φ * spare) ≤ p * (φ * θ) = mul-le-mul_left p b in
      le_of_mul-le-mul_left {k = φ} (let z : φ * (p * t) ≤ φ * (reached + p * θ) = omega arith in z) some

-- a client that is not late keeps its potential while the others have no more to give than is gone
pub at_rest : {p φ r spare t given reached gone own : ℕ} → p * t ≤ reached → given ≤ gone + spare → Within p φ r spare t given reached gone own
at_rest {p} {φ} {r} {spare} {t} {given} {reached} {gone} {own} a b =
    let x : φ * (p * t) ≤ φ * reached = mul-le-mul_left φ a in
    let y : (p * φ) * given ≤ (p * φ) * (gone + spare) = mul-le-mul_left (p * φ) b in
    record { holds = omega arith }

-- outside its turn
pub weigh_outside : (φ r gone own : ℕ) → gone ≤ r → own ≤ 15 → φ * gone + r * own ≤ r * (φ + 15)
weigh_outside φ r gone own a b =
    let x : φ * gone ≤ φ * r = mul-le-mul_left φ a in
    let y : r * own ≤ r * 15 = mul-le-mul_left r b in
    omega arith

-- inside it
pub weigh_inside : (φ r gone own : ℕ) → gone ≡ 0 → own ≤ φ + 15 → φ * gone + r * own ≤ r * (φ + 15)
weigh_inside φ r gone own a b =
    let x : φ * gone ≡ φ * 0 = ap (λ n. φ * n) a in
    let y : r * own ≤ r * (φ + 15) = mul-le-mul_left r b in
    omega arith

-- ## The ring's θ

round_up : (n φ : ℕ) → 0 < φ → n ≤ φ * ((n + (φ - 1)) / φ)
round_up n φ h = omega arith

theta_parts : (n m φ k : ℕ) → n ≤ φ * m → n + φ * (15 * k) ≤ φ * (m + k * 15)
theta_parts n m φ k l = omega arith

-- θ has room for a round of quanta and for 15 units of each other client
pub theta_late : (count total φ : ℕ) → 0 < φ → (total - φ) * (φ + 15) + φ * (15 * (count - 1)) ≤ φ * theta count total φ
theta_late count total φ h =
    theta_parts ((total - φ) * (φ + 15)) (((total - φ) * (φ + 15) + (φ - 1)) / φ) φ (count - 1) (round_up ((total - φ) * (φ + 15)) φ h)
