-- A chain's state, and its calls as functions of its two servers'. Assumes nothing.
use Rattle.std.specs.Prelude.{ℕ, ◌+◌, cond, List, [], Ok, Err, ◌==◌}
use Rattle.server.specs.declared.block.Served.TheVariants.{Nothing, Unit as OneUnit, Departed}
use Rattle.server.specs.declared.refusal.Refusal.TheVariants.{Ended}
use Rattle.server.specs.declared.server.Server.{Ghosts}
use Rattle.server.specs.Meaning.{Meaning}
use Rattle.server.specs.Calls.{SlotAnswer, granted}
use Rattle.server.specs.Machine.{Machine}
use Rattle.join.specs.declared.chain.Chain.{Chain}
use Rattle.join.specs.Starts.{starts_in, told, staying, noted}
use Rattle.join.specs.Link.{chained}
use Rattle.join.specs.Fit.{fitting, chain_clients}

-- the states of both servers, the starts kept, the number of clients and the slot
pub record Joint (A B : Type 0) : Type 0 where
  pub first : A
  pub second : B
  pub starts : ℕ → List ℕ
  pub count : ℕ
  pub now : ℕ

-- what the chain is known by
abbrev pub state_of : {A B : Type 0} (a : Ghosts A) (b : Ghosts B) → Chain A B a b → Joint a.State b.State
state_of a b x = record { first = a.state x.first; second = b.state x.second; starts = starts_in x.starts; count = x.clients; now = x.now }

-- what it means
abbrev pub means_of : {A B : Type 0} → (A → Meaning) → (B → Meaning) → Joint A B → Meaning
means_of f g x = chained x.count x.now x.starts (f x.first) (g x.second)

-- two servers joined: the first's clients where they fit, else none, at slot 0
abbrev pub begun : {A B : Type 0} → (A → Meaning) → (B → Meaning) → A → B → Joint A B
begun f g x y = record { first = x; second = y; starts = λ k. []; count = chain_clients (fitting (f x) (g y)) (f x); now = 0 }

-- what departed from the first goes to the second
abbrev pub handed_on : {B : Type 0} → Machine B → SlotAnswer → B → B
handed_on N (Ok Nothing) y = y
handed_on N (Ok (OneUnit c)) y = y
handed_on N (Ok (Departed d)) y = N.enter y d.client d.label d.length
handed_on N (Err e) y = y

module _ {A B : Type 0} (f : A → Meaning) (g : B → Meaning) (M : Machine A) (N : Machine B) where
  -- the second serves, then the first, then what departed from the first is submitted to the second
  abbrev pub moved : Joint A B → Joint A B
  moved x = record {
    first = M.next x.first;
    second = handed_on N (M.says x.first) (N.next x.second);
    starts = noted (M.says x.first) (staying (N.says x.second) x.starts);
    count = x.count;
    now = x.now + 1;
  }

  -- a chain of no clients only counts
  abbrev pub counted : Joint A B → Joint A B
  counted x = record { first = x.first; second = x.second; starts = x.starts; count = x.count; now = x.now + 1 }

  abbrev pub joint : Machine (Joint A B)
  joint = record {
    says = λ x. cond (x.now == 4294967295) (Err Ended) (cond (x.count == 0) (Ok Nothing) (Ok (told (N.says x.second) x.starts)));
    next = λ x. cond (x.now == 4294967295) x (cond (x.count == 0) (counted x) (moved x));
    enter = λ x c label len.
        cond (granted (means_of f g x) c len)
        (record { first = M.enter x.first c label len; second = x.second; starts = x.starts; count = x.count; now = x.now })
        x;
  }
