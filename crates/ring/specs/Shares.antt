-- What is reserved in a ring, and how late a share of it can make a client. Assumes nothing.
use Rattle.std.specs.Prelude.{◌≡◌, ℕ, ◌+◌, ◌-◌, ◌*◌, ◌/◌, Bool, true, ◌&&◌, nat_le, nat_lt, slice_index_or}
use Rattle.server.specs.declared.rate.Rate.{Rate}
use Rattle.server.specs.declared.rate.Terms.{Terms}
use Rattle.clients.specs.Held.{latency_for}
use Rattle.clients.specs.Serving.{rate_ok}
use Rattle.ring.specs.declared.shares.Share.{Share}
use Rattle.ring.specs.declared.shares.Shares.{Shares}
use Rattle.ring.specs.Sums.{sum}

-- the number of clients reserved so far
abbrev pub count_in : Shares → ℕ
count_in s = s.count

-- what nobody reserved
abbrev pub no_share : Share
no_share = record { rate = record { p = 0; q = 0 }; quantum = 0 }

-- what the client at place k reserved
abbrev pub share_in : Shares → ℕ → Share
share_in s k = slice_index_or s.reserved k no_share

-- the rate and the quantum at place k
abbrev pub rate_in : Shares → ℕ → Rate
rate_in s k = (share_in s k).rate

abbrev pub quantum_in : Shares → ℕ → ℕ
quantum_in s k = (share_in s k).quantum

-- ## Ranges

-- a ring total of 16 to 8,192
abbrev pub total_ok : ℕ → Bool
total_ok total = nat_le 16 total && nat_le total 8192

-- a quantum of 16 to 1,024
abbrev pub quantum_ok : ℕ → Bool
quantum_ok quantum = nat_le 16 quantum && nat_le quantum 1024

-- whether the quantum, as a part of the total, carries the rate
abbrev pub carries : ℕ → Rate → ℕ → Bool
carries total x quantum = nat_le (x.p * total) (quantum * x.q)

-- whether there is room for one more client with this quantum
abbrev pub room : Shares → ℕ → Bool
room s quantum = nat_lt (count_in s) 8 && nat_le (sum (count_in s) (quantum_in s) + quantum) s.total

-- what is reserved at place k is within its ranges, and the quantum carries the rate
abbrev pub Carried : Shares → ℕ → Type 0
Carried s k = (rate_ok (rate_in s k) ≡ true) × (quantum_ok (quantum_in s k) ≡ true) × (carries s.total (rate_in s k) (quantum_in s k) ≡ true)

-- ## Latency

-- the slots by which one of `count` clients may be late: (F − φ)·(φ + 15)/φ rounded up, and 15 for each other client
abbrev pub theta : (count total quantum : ℕ) → ℕ
theta count total quantum = ((total - quantum) * (quantum + 15) + (quantum - 1)) / quantum + (count - 1) * 15

-- the terms of the client at place k, with the latency that all the reserved clients make
abbrev pub terms_in : Shares → ℕ → Terms
terms_in s k = record { rate = rate_in s k; latency = latency_for (rate_in s k).p (rate_in s k).q (theta (count_in s) s.total (quantum_in s k)) }
