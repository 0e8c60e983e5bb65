-- Whether two servers fit. Assumes nothing.
use Rattle.std.specs.Prelude.{ℕ, zero, suc, ◌+◌, Bool, true, cond, ◌&&◌, Ok, Err, Result, ◌==◌, nat_le}
use Rattle.server.specs.Meaning.{Meaning}
use Rattle.join.specs.declared.fit.Misfit.{Misfit}
use Rattle.join.specs.declared.fit.Misfit.TheVariants.{Differ, Used, Late}
use Rattle.server.specs.declared.view.View.{View}
use Rattle.server.specs.Calls.{view_of}

-- of each client below n
abbrev pub all_below : ℕ → (ℕ → Bool) → Bool
all_below zero f = true
all_below (suc n) f = all_below n f && f n

abbrev pub have_same_rate : View → View → Bool
have_same_rate x y = x.terms.rate.p == y.terms.rate.p && x.terms.rate.q == y.terms.rate.q

-- no block has come yet
abbrev pub idle : View → Bool
idle x = x.clock == 0 && x.waiting == 0

abbrev pub are_idle : View → View → Bool
are_idle x y = idle x && idle y

abbrev pub is_in_reach : View → View → Bool
is_in_reach x y = nat_le (x.terms.latency + y.terms.latency) 4194304

-- a test of two clients, for each client of both servers
abbrev pub each : (View → View → Bool) → Meaning → Meaning → Bool
each test m n = all_below m.count (λ k. test (view_of (m.client k)) (view_of (n.client k)))

abbrev pub Answer : Type 0
Answer = Result (Unit {0}) Misfit

-- whether two servers fit, or the first cause that holds
abbrev pub fitting : Meaning → Meaning → Answer
fitting m n =
    cond (m.count == n.count && each have_same_rate m n)
    (cond ((m.now == 0 && n.now == 0) && each are_idle m n)
    (cond (each is_in_reach m n) (Ok tt) (Err Late))
    (Err Used))
    (Err Differ)

-- the clients of the chain: the first's, or none where the two do not fit
abbrev pub chain_clients : Answer → Meaning → ℕ
chain_clients (Ok u) m = m.count
chain_clients (Err e) m = 0
