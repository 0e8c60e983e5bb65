use Rattle.std.proofs.Common.{ℕ, List, [], sym, ap, ◌∙◌, subst}
use Rattle.server.specs.Laws.{Unused}
use Rattle.join.specs.Starts.{starts_in}
use Rattle.join.specs.Link.{chained, Stands}
use Rattle.join.proofs.Begins.{begin_stands, begin_unused}
use Rattle.join.proofs.chain.Chain.join.Goals as goal

pub returns : goal.returns
returns g c =
    let a = g.A.Server in
    let b = g.B.Server in
    let m = a.means (a.state c.args.first) in
    let n = b.means (b.state c.args.second) in
    let k = c.clients_of-clients.result in
    let ss = starts_in c.new.result in
    record {
      state =
          ap (λ (z : ℕ → List ℕ). record { first = a.state c.args.first; second = b.state c.args.second; starts = z; count = k; now = 0 }) c.new.ensures
          ∙ ap (λ (j : ℕ). record { first = a.state c.args.first; second = b.state c.args.second; starts = (λ i. []); count = j; now = 0 }) c.clients_of-clients.ensures;
      unused = subst (λ (z : ℕ → List ℕ). Unused (chained k 0 z m n)) (sym c.new.ensures) (begin_unused m n k c.clients_of-clients.ensures);
    }

pub invariant_of-result : goal.invariant_of-result
invariant_of-result g c =
    let a = g.A.Server in
    let b = g.B.Server in
    let m = a.means (a.state c.args.first) in
    let n = b.means (b.state c.args.second) in
    let k = c.clients_of-clients.result in
    record { stands = subst (λ (z : ℕ → List ℕ). Stands k 0 z m n) (sym c.new.ensures) (begin_stands m n k c.clients_of-clients.ensures (g.met.A.Server.lawful c.args.first)) }
