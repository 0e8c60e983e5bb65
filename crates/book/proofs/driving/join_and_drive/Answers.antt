use Rattle.std.proofs.Common.{◌≡◌, ℕ, min, map, length, take, drop, subst}
use Rattle.join.specs.Joint.{Joint, state_of, means_of, joint, begun}
use Rattle.book.specs.Book.{Promised}
use Rattle.book.specs.Runs.{call_of, history, ending}
use Rattle.book.proofs.driving.join_and_drive.Goals as goal

pub returns : goal.returns
returns g c =
    let a = g.A.Server in
    let b = g.B.Server in
    let es = c.drive.new.events in
    let n : c.drive.result ≡ min (length c.args.calls.now) (length c.args.events.now) = c.drive.ensures.count in
    record {
      of = subst (λ (k : ℕ). map call_of (take k es) ≡ take k c.args.calls.now) n c.drive.ensures.of;
      rest = subst (λ (k : ℕ). drop k es ≡ drop k c.args.events.now) n c.drive.ensures.rest;
      exactly = λ na nb.
          let E : ℕ → Joint a.State b.State → Type 0 = λ k x. (take k es ≡ history (means_of a.means b.means) (joint a.means b.means a.machine b.machine) x (take k c.args.calls.now))
          × (state_of a b c.drive.new.server ≡ ending (means_of a.means b.means) (joint a.means b.means a.machine b.machine) x (take k c.args.calls.now)) in
          subst (λ (k : ℕ). E k (begun a.means b.means (a.state c.args.first) (b.state c.args.second))) n
          (subst (E c.drive.result) c.join-chain.ensures.state (c.drive.ensures.exactly (na, nb)));
      promised =
          let P : ℕ → Joint a.State b.State → Type 0 = λ k x. Promised (means_of a.means b.means x).count (λ j. ((means_of a.means b.means x).client j).terms.rate) (λ j. ((means_of a.means b.means x).client j).terms.latency) (take k es) in
          subst (λ (k : ℕ). P k (begun a.means b.means (a.state c.args.first) (b.state c.args.second))) n (subst (P c.drive.result) c.join-chain.ensures.state (c.drive.ensures.promised c.join-chain.ensures.unused));
    }
