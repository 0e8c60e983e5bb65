-- What keeps a frame's clients on time. Assumes nothing.
use Rattle.std.specs.Prelude.{◌≡◌, ℕ, ◌+◌, ◌*◌, ◌<◌, ◌≤◌, List, length, Option}
use Rattle.server.specs.Meaning.{Client, Meaning}
use Rattle.clients.specs.Held.{reach, latency_for}
use Rattle.frame.specs.Frames.{owned, window, theta}

-- client k at slot t: its slots carry its rate, its latency is by the frame, and the slots to come keep it on time
pub record Share (os : List (Option ℕ)) (t k : ℕ) (x : Client) : Type 0 where
  pub enough : x.terms.rate.p * length os ≤ owned k os * x.terms.rate.q
  pub late : x.terms.latency ≡ latency_for x.terms.rate.p x.terms.rate.q (theta k os)
  pub ahead : (w : ℕ) → x.terms.rate.p * (t + w) ≤ reach t x + x.terms.rate.p * theta k os + x.terms.rate.q * window k os t w

-- all clients
abbrev pub Paced : Meaning → List (Option ℕ) → Type 0
Paced m os = (k : ℕ) → k < m.count → Share os m.now k (m.client k)
