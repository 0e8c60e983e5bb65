-- What keeps the clients of credit-controlled static priority on time. Assumes nothing.
use Rattle.std.specs.Prelude.{◌≡◌, ℕ, suc, ◌+◌, ◌-◌, ◌*◌, ◌≤◌, List, [], ◌∷◌, length, take}
use Rattle.server.specs.declared.rate.Terms.{Terms}
use Rattle.server.specs.Meaning.{Client, Meaning}
use Rattle.clients.specs.Held.{reach, latency_for}
use Rattle.credits.specs.declared.shares.Share.{Share}
use Rattle.credits.specs.Shares.{theta, credits, caps}

-- a client's terms with its step and its cap, where R is what the higher clients' steps leave of the denominator D,
-- and C are their caps
pub record Carried (D R C : ℕ) (x : Terms) (step most : ℕ) : Type 0 where
  -- the step is at least 1, within what is left, and carries the rate
  pub some : 1 ≤ step
  pub room : step ≤ R
  pub pays : x.rate.p * D ≤ step * x.rate.q
  -- the cap is within its range, and the latency is by the higher clients' shares
  pub high : D ≤ most
  pub top : most ≤ 64 * D
  pub late : x.latency ≡ latency_for x.rate.p x.rate.q (theta R C)

-- a client at slot t with its share, where H are the higher clients' credits
pub record Fits (D t R H C : ℕ) (x : Client) (s : Share) : Type 0 where
  pub carried : Carried D R C x.terms s.step s.cap
  -- the higher clients' credits are within their caps
  pub within : H ≤ C
  -- credit keeps up with the clock
  pub saved : D * x.terms.rate.p * t + x.terms.rate.q * s.cap ≤ D * reach t x + x.terms.rate.q * s.credit
  -- the potential: what the higher clients have saved up is all that can hold this client back
  pub ahead : R * x.terms.rate.p * t + x.terms.rate.p * H ≤ R * reach t x + x.terms.rate.p * C

-- all clients from client k on
abbrev pub AllFit : (D t R H C k : ℕ) → (ℕ → Client) → List Share → Type 0
AllFit D t R H C k cs [] = H ≤ C
AllFit D t R H C k cs (x ∷ xs) = Fits D t R H C (cs k) x × AllFit D t (R - x.step) (H + x.credit) (C + x.cap) (suc k) cs xs

-- a share for each client, and all of them fit
pub record Balanced (m : Meaning) (D : ℕ) (xs : List Share) : Type 0 where
  pub each : length xs ≡ m.count
  pub fit : AllFit D m.now D 0 0 0 m.client xs

-- the credits of the first k clients add up to at most their caps, for each k
abbrev pub Capped : List Share → Type 0
Capped xs = (k : ℕ) → credits (take k xs) ≤ caps (take k xs)
